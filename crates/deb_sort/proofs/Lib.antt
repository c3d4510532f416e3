pub mod Joined
pub mod LastPieces
pub mod Meanings
pub mod Refusals
pub mod Repeated
pub mod RunLemmas
pub mod SortedFiles
