pub mod Edge
pub mod Marks
