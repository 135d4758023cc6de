pub mod Idc
pub mod Front
