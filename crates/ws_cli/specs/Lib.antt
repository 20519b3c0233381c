pub mod Check
pub mod Commands
pub mod Generating
pub mod Planned
pub mod Summary
pub mod TraceText
pub mod Words
