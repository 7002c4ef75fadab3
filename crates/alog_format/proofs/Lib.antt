mod Blocks
mod Parted
mod Clips
pub mod SharedCrosses
mod FirstItems
mod Gaps
mod ItemTexts
mod Named
pub mod SharedOffsets
mod OneLine
pub mod Overwrites
mod PaddedTexts
mod Places
mod Seconds
pub mod Shared
mod Steps
mod TextLengths
