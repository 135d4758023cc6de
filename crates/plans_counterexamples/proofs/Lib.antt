pub mod FollowLemmas
pub mod RunLemmas
pub mod SearchLemmas
pub mod FoundLemmas
pub mod OutLemmas
pub mod UntoldLemmas
