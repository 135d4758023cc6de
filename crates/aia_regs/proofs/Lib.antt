pub mod ShowsLemmas
pub mod RequestLemmas
pub mod RegisterLemmas
pub mod TableLemmas
pub mod FieldLemmas
pub mod ByteOrderLemmas
pub mod ListLemmas
pub mod TopLemmas
