mod Posts
mod Keeping
mod Working
mod Leading
pub mod SharedLosses
mod Way
pub mod SharedStepKinds
mod Alone
mod Desks
mod Turns
pub mod SharedDeskSteps
pub mod SharedMaking
mod Cutting
pub mod SharedRunning
mod Losses
mod BookSteps
mod BookCounting
mod BookSums
mod BookClosing
mod Ports
mod SwapPorts
pub mod SharedSwapPosts
pub mod SharedCrosses
