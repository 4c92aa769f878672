pub mod Texts
pub mod Walking
