pub mod Alternatives
pub mod Parts
pub mod Relations
pub mod Shown
