pub mod AllElements
pub mod BodyLemmas
pub mod CanonicalNames
mod DocLookups
pub mod FieldBytes
pub mod FieldLookups
mod BegunRows
mod LikelyRows
mod NearRows
pub mod GraphicBodies
pub mod GraphicNames
pub mod LaterPieces
pub mod ReadTexts
pub mod TextLines
pub mod Trims
pub mod Writes
