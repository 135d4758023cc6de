pub mod Cursor
pub mod Digits
pub mod StepText
pub mod StepForm
pub mod Mnemonics
