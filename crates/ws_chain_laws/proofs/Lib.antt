mod Lists
mod Numbers
pub mod Links
pub mod Keeps
pub mod Sound
pub mod Young
pub mod Pairs
mod Outlets
pub mod Sources
pub mod Stages
pub mod Targets
pub mod Wirings
mod Firsts
pub mod Readied
pub mod Ready
pub mod Begins
pub mod Nodes
pub mod Outcomes
pub mod Flushed
pub mod Portless
pub mod Teeless
pub mod Runs
mod Worked
