mod Common
pub mod CutLemmas
pub mod ByteLemmas
pub mod ByteTables
pub mod ComponentsLemmas
pub mod MeaningLemmas
pub mod FaultLemmas
pub mod ValueLemmas
pub mod AllowedLemmas
mod BadBytes
pub mod ParseLemmas
pub mod KeptVersions
pub mod FirstPlace
pub mod Runs
pub mod FirstCut
pub mod NumberOrder
pub mod Emptiness
pub mod Choices
pub mod LeadingZeros
pub mod CanonicalDigits
pub mod CanonicalComponent
pub mod VersionBytes
pub mod CanonicalStates
pub mod CanonicalTexts
pub mod CanonicalCuts
pub mod CanonicalWritten
pub mod CanonicalFits
pub mod EqualTexts
pub mod Walks
pub mod CommonFront
pub mod CanonicalPrefix
mod PlainVersions
pub mod PrefixRuns
pub mod BaseOrder
pub mod KeyOrder
pub mod KeyWritten
pub mod KeyLength
