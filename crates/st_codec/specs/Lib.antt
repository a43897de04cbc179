pub mod KindBytes
pub mod Spelling
pub mod Grammar
pub mod Decoder
pub mod Frames
pub mod Stream
