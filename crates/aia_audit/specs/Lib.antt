pub mod Verdicts
pub mod PlanText
pub mod Behind
pub mod CoreAccesses
pub mod PlanTexts
