pub mod Explanations
mod NamedFields
pub mod Sources
