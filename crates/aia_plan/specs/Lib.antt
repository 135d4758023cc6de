pub mod Plan
pub mod Rule
pub mod Transit
pub mod Safe
pub mod Losses
