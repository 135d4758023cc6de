pub mod AccessLemmas
pub mod SummaryLemmas
pub mod ClaimLemmas
