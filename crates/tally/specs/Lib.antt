pub mod Contents
pub mod Making
