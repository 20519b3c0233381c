pub mod Keeps
pub mod Two
pub mod Numbered
mod Worked
