pub mod CutLaw
pub mod RowWalk
pub mod Rows
