pub mod NumberLemmas
pub mod WordLemmas
pub mod TurnLemmas
pub mod ArgumentLemmas
pub mod SpelledLemmas
