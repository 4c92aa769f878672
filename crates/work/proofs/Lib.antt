pub mod Releasing
pub mod Parts
pub mod Lists
pub mod Sharing
pub mod Permits
pub mod Entering
pub mod ShorterLogs
pub mod Turning
