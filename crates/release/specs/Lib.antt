pub mod Books
pub mod BookRuns
pub mod Draws
pub mod Lists
pub mod Releases
