pub mod Requests
pub mod Claims
pub mod Told
pub mod Forwards
pub mod Newest
pub mod Images
