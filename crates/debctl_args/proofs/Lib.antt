pub mod Answering
pub mod Numbers
pub mod Shapes
pub mod TakenArguments
pub mod UnmixedKinds
