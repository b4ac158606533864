mod Bodies
mod Counted
mod Keeping
mod MacroSteps
mod PlaceSteps
