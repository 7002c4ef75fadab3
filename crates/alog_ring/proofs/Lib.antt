pub mod SharedLists
mod Telling
mod Turning
mod Showing
mod Looking
pub mod SharedStepping
mod Acting
mod Steps
mod Limits
mod Places
pub mod SharedCalling
mod Sparing
mod Starting
mod Splitting
mod Joining
mod Meeting
mod Closing
mod Taking
mod SwapTaking
mod SwapClosing
mod Ending
pub mod SharedAlone
mod Waiting
pub mod SharedCrosses
