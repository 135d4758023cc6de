pub mod Generated
pub mod Sequence
pub mod Lines
pub mod Summary
pub mod Tally
