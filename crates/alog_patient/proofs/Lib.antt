mod Fronts
mod Rows
pub mod SharedPatientCrosses
