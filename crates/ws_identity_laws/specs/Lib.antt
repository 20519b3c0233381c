pub mod Passing
pub mod Ends
pub mod Laws
pub mod Through
pub mod Told
pub mod Heard
pub mod Opening
