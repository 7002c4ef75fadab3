mod Relaying
mod Records
pub mod SharedCrosses
