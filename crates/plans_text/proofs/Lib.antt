pub mod FileLemmas
pub mod StreamLemmas
pub mod NumberLemmas
pub mod PieceLemmas
pub mod WordLemmas
