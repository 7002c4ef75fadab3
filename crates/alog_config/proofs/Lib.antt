mod Spelling
mod Firsts
mod Arrays
mod Runs
mod Sounding
pub mod SharedPicking
pub mod SharedApart
mod Parting
mod Handing
mod Taking
mod Fitting
mod Told
mod Others
