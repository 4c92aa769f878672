pub mod Gives
pub mod PrefixLenses
