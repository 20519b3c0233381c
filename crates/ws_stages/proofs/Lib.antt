pub mod Bytes
pub mod Feeds
pub mod Texts
pub mod Pushes
pub mod Workers
pub mod Kernels
