-- What the contracts of `st_embed` cite.
pub mod Checks
pub mod Lives
pub mod FramePieces
pub mod StepOutputs
pub mod Events
pub mod Clients
pub mod Servers
pub mod Journals
pub mod KeptJournal
