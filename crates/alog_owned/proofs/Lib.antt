pub mod Laying
pub mod SharedCrosses
