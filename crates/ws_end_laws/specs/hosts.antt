pub mod HostCalls
pub mod HostLaws
