pub mod SupplyLemmas
pub mod CutLemmas
pub mod PieceLemmas
pub mod CommandLemmas
