mod Crosses
mod Going
