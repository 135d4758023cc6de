pub mod Ownership
pub mod Codes
pub mod Access
pub mod Parts
pub mod Calls
pub mod Joined
