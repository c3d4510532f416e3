pub mod NumberLemmas
pub mod SourceLemmas
pub mod RelationLemmas
pub mod ValueLemmas
pub mod LineBegins
