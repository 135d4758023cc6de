pub mod AfterLemmas
pub mod StandsLemmas
pub mod VerdictLemmas
