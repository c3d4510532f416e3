pub mod Calls
pub mod Cells
pub mod Kinds
pub mod Laws
pub mod Reads
pub mod Rows
