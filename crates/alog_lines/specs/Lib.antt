pub mod Lines
pub mod Pieces
pub mod Window
pub mod Cutting
pub mod Front
pub mod Building
pub mod Laws
