pub mod Beside
mod Tallying
