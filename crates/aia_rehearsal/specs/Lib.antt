pub mod Rehearsed
pub mod Steps
pub mod Stands
pub mod Events
pub mod Runs
