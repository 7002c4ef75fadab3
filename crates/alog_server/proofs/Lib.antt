mod Crosses
pub mod SharedEnding
mod Homes
mod Refusing
mod Saying
mod Telling
pub mod SharedMaking
