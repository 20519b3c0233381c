pub mod PassedAll
pub mod PipeCalls
pub mod PipeWaits
pub mod PromiseEnds
