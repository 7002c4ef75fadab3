pub mod SharedListing
mod Listing
mod Keeping
mod Posting
mod Dumps
pub mod SharedCrosses
mod BlockPosts
