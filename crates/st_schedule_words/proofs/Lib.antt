pub mod Words
pub mod LineFronts
pub mod Numbers
