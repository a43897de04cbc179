pub mod StandStill
pub mod StandAlone
