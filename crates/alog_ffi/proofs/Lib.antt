pub mod Steps
pub mod Boxed
pub mod Crosses
pub mod News
pub mod Unopened
pub mod Lefts
pub mod SharedEnds
