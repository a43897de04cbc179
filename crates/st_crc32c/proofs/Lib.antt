pub mod Bits
pub mod OneByte
pub mod Known
