pub mod ExactFront
pub mod ExactBodies
pub mod ExactThird
pub mod PlainBodies
pub mod Rooms
pub mod Versions
