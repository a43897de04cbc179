pub mod SnapAnswers
pub mod MoveAnswers
