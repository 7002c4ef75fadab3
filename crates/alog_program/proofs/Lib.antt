mod Statuses
mod Commands
mod CommandLines
mod Loading
mod Piping
mod Making
