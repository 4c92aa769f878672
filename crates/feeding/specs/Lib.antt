pub mod Faults
pub mod Feeding
pub mod Steps
