pub mod Seats
pub mod Roster
pub mod Turns
pub mod Rule
pub mod Plays
pub mod Calls
pub mod Laws
