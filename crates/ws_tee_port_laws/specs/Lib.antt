pub mod tees
pub mod ports
