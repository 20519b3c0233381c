pub mod Elements
pub mod Looking
