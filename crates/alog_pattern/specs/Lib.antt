pub mod Compiled
pub mod Flag
pub mod Grammar
pub mod Length
pub mod Padding
pub mod Scan
