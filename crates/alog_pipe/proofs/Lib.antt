mod Giving
mod Logging
mod Pumping
