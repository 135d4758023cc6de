pub mod Buffered
pub mod Stands
pub mod Streams
pub mod Runs
pub mod Wires
pub mod Plans
pub mod Command
