mod Begun
pub mod SharedPaddedLength
pub mod SharedReadings
