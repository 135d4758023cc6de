pub mod Reading
pub mod Outcomes
pub mod PlanFile
pub mod Streaming
pub mod Command
pub mod CommandLine
pub mod Runs
