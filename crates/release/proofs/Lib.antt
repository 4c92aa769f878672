pub mod Runs
pub mod Listed
pub mod Rule
