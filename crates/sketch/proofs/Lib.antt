pub mod Exchanging
pub mod Tying
pub mod Contents
pub mod Steps
pub mod Filling
