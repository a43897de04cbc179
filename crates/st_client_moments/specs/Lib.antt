-- The first moment of several spans that a clock may read.
pub mod FirstMoments
