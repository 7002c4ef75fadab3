pub mod Load
pub mod Producers
