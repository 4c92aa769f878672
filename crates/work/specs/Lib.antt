pub mod Releases
pub mod Memories
pub mod Calls
pub mod Steps
pub mod Permits
pub mod Runs
pub mod ShorterLogs
