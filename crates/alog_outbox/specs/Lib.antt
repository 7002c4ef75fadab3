pub mod Calls
pub mod Line
pub mod Views
