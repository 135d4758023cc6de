pub mod FrontLemmas
pub mod TopLemmas
