pub mod SnapScripts
pub mod MoveScripts
