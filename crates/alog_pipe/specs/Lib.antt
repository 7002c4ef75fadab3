pub mod InTurn
pub mod Logged
pub mod Counted
pub mod Piped
pub mod Pipes
pub mod Aside
