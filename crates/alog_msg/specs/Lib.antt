pub mod Level
pub mod Source
pub mod Message
pub mod Room
pub mod Text
pub mod Block
