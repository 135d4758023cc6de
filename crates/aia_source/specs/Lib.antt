pub mod Wired
pub mod Registers
