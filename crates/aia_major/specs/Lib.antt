pub mod VsMajor
pub mod Kept
pub mod First
