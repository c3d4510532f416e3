pub mod Deriving
pub mod Healthy
pub mod Marked
pub mod Partial
pub mod RowsKept
pub mod Verdicts
