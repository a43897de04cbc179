-- What the contracts of `st_host_frames` cite.
pub mod Frame
pub mod Results
pub mod Messages
pub mod Asks
pub mod Ends
pub mod Answers
pub mod Commands
pub mod Fronts
