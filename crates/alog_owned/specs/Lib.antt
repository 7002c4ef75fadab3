pub mod Desk
pub mod Owned
