pub mod Health
pub mod Layout
pub mod Marks
pub mod Parts
pub mod Reasons
pub mod Refuting
pub mod Verdicts
