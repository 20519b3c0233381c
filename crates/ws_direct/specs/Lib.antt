pub mod Directly
pub mod Shortly
