pub mod Entries
pub mod Shapes
pub mod Operations
pub mod Walks
pub mod Trees
