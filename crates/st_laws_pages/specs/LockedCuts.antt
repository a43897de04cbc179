pub mod CutLocks
