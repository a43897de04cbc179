pub mod Digits
mod FilledRuns
mod Parts
