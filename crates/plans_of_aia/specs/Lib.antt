pub mod Translated
pub mod Told
