pub mod Table
pub mod Verdicts
