pub mod Setting
pub mod Machine
pub mod Safe
pub mod Rules
pub mod Plans
pub mod Rows
