pub mod Written
pub mod PipedLines
pub mod Stretches
