mod Tries
mod Fronts
mod Turning
