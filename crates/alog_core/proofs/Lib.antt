pub mod SharedCells
pub mod SharedRising
pub mod SharedSound
pub mod SharedHistories
pub mod SharedAccounts
pub mod SharedTickets
pub mod SharedItems
pub mod SharedGrabs
pub mod SharedLaps
mod Reading
mod Turns
mod Looks
mod Advancing
mod Starting
mod Moves
mod Steps
mod Others
pub mod SharedReached
pub mod SharedCalls
pub mod SharedFronts
pub mod SharedRuns
pub mod SharedSizes
