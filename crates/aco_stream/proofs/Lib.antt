pub mod Steps
pub mod Feeds
pub mod Calls
pub mod AnyCutting
