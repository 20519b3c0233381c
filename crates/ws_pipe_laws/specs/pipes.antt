pub mod PipeHistory
pub mod PipeMoves
pub mod PipeReads
pub mod PipeWrites
pub mod SignalLaws
