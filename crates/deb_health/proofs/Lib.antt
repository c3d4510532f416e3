pub mod Exclusions
pub mod Duplicates
pub mod NoLines
pub mod Rearranged
pub mod Growing
pub mod SameReasons
pub mod AddedPackage
pub mod Unsettled
