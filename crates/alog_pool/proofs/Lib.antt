pub mod SharedMoves
pub mod SharedTurning
pub mod SharedDeeds
pub mod SharedGaps
pub mod SharedFlushed
pub mod SharedWorked
pub mod SharedSums
mod Leaving
mod Ended
pub mod SharedPosting
pub mod SharedProducing
pub mod SharedSharing
pub mod SharedParts
pub mod SharedCrosses
pub mod SharedHiring
pub mod SharedFirstParts
pub mod SharedBack
mod Halting
pub mod SharedRows
pub mod SharedServed
pub mod SharedClosed
pub mod SharedTotalled
pub mod SharedHeld
pub mod SharedContained
pub mod SharedPosted
mod Posted
pub mod SharedInARow
mod InARow
pub mod SharedWorkers
mod OneWorker
mod Logged
