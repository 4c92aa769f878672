pub mod Beginnings
pub mod Feeding
pub mod Room
