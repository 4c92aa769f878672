pub mod Texts
pub mod Pages
pub mod Fed
pub mod Bounds
