pub mod NineFacts
pub mod TableFacts
pub mod PlanFacts
pub mod CoreFacts
pub mod PassFacts
