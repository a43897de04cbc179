pub mod Framing
pub mod PassFrames
pub mod RequestFrames
pub mod ReplyFrames
pub mod EndFrames
