pub mod Allocating
pub mod Growth
pub mod Input
pub mod StableParts
pub mod Taking
pub mod Walk
