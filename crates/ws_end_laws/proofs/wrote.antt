pub mod Destinations
pub mod Keeping
pub mod Fronts
pub mod Passed
pub mod Sources
pub mod Looking
pub mod Closing
pub mod Fulfilled
