pub mod SignalLemmas
pub mod EachLemmas
