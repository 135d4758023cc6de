pub mod Throughout
mod BoolLaws
pub mod Invariant
mod StepKept
pub mod Behind
mod RunKept
pub mod RuleIsSafe
pub mod CorePlans
mod LossLemmas
