pub mod Files
pub mod Refusals
pub mod Sorting
pub mod VersionLines
