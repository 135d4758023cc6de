pub mod WordLemmas
pub mod DigitLemmas
pub mod PrintLemmas
pub mod NameLemmas
pub mod SpelledLemmas
pub mod FormLemmas
