pub mod PlaceLemmas
pub mod HeadLemmas
pub mod LineLemmas
pub mod DrawLemmas
pub mod TallyLemmas
pub mod PrintLemmas
pub mod NoticeLemmas
