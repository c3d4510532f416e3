pub mod Refused
pub mod Showing
pub mod SoFar
