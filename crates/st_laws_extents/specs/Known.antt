pub mod Current
pub mod Known
pub mod Law
pub mod WritePlaces
pub mod ToldExtents
