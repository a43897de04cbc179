pub mod Pieces
pub mod States
pub mod Ends
pub mod Streams
pub mod VolumeRuns
