mod Tries
mod Handling
mod Pushing
mod Onces
mod Lanes
mod Closings
mod AllEnded
mod Disbanding
mod Balanced
mod Standing
mod Posted
mod Lines
mod Counted
pub mod SharedCrosses
