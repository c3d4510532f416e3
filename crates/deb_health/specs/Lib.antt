pub mod Excluding
pub mod Together
pub mod Lines
pub mod Kept
pub mod States
pub mod Health
pub mod Laws
pub mod Changes
