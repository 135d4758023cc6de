pub mod Worked
pub mod Since
pub mod Reached
pub mod Passed
