mod Flags
mod Onward
mod RoutesKept
mod WordsKept
pub mod TieLemmas
pub mod ToldLemmas
