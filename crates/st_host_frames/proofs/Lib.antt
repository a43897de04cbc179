-- What the proofs of `st_host_frames` share.
pub mod Asked
pub mod Faults
pub mod Names
pub mod Received
