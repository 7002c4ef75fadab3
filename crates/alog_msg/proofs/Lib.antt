pub mod SharedCrosses
