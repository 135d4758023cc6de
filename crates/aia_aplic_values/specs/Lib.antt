pub mod Side
pub mod Aplic
pub mod Controls
pub mod Tops
pub mod Sending
pub mod Passing
pub mod Bits
pub mod Senders
