pub mod Link
pub mod Sound
pub mod Laws
pub mod Room
pub mod Own
pub mod Entering
