mod HandleValues
pub mod ServingLemmas
pub mod JoinedLemmas
pub mod TextLemmas
pub mod BlockValues
pub mod NameLemmas
