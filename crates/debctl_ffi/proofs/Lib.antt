mod SideFaults
mod Refusals
mod Explained
mod FieldTables
mod FieldsSoFar
mod RefusalsSoFar
mod ShownFields
mod Loading
mod OneFile
mod FirstTexts
mod LatestTexts
mod SelectTexts
mod Written
mod VersionParts
mod ReadTexts
mod Reports
mod AskedNumbers
mod Feeding
mod BlankTexts
mod AlikeTexts
mod ChangedLines
mod LongTexts
mod KeptLines
mod Readings
pub mod HandsOn
pub mod LentTwice
