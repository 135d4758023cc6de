pub mod Trace
pub mod Run
pub mod Search
pub mod Untold
pub mod UntoldSearch
