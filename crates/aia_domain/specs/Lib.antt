pub mod Order
pub mod InterruptSource
pub mod Domain
pub mod Waiting
