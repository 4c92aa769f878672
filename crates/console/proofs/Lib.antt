pub mod Copying
pub mod Counts
pub mod FedSketches
pub mod Numbers
pub mod PageLaws
pub mod Pages
pub mod Readings
