-- What the proofs of `st_embed` share.
mod KeptLives
mod KeptJournal
pub mod Zeros
mod Opened
mod ServerSteps
pub mod StableParts
