mod Filed
mod Placed
mod NamesCut
mod NamesDated
mod RotatedRuns
mod RotatedFiles
mod RotatedPlaces
mod Rotated
mod RotatedOn
mod RotatedDoes
mod RotatedPut
mod DailyFiles
mod DailyDays
mod DailyKnown
mod DailyPut
mod DailyNames
mod DailyOn
mod DailyLine
mod Targets
mod Fronts
pub mod SharedOneFiles
mod OneFiles
mod Turns
mod Fans
mod Opens
pub mod SharedKeeps
mod FanSuits
pub mod SharedCrosses
pub mod SharedLaneRuns
pub mod SharedFolderCrosses
