pub mod Written
pub mod Truth
