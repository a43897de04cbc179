pub mod ExactBody
pub mod ExactLocal
pub mod ExactMessage
pub mod Framed
pub mod Sized
pub mod Streams
