pub mod SpanMoments
pub mod Given
pub mod SomethingToAsk
pub mod Crashed
