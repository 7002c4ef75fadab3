pub mod SharedLists
pub mod SharedRosters
pub mod SharedKnowing
pub mod SharedDividing
pub mod SharedJoining
pub mod SharedSteps
mod Parting
mod Closing
mod Turning
mod Sharing
pub mod SharedCrosses
