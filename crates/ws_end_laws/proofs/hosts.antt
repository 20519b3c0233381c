pub mod Sources
pub mod Plain
pub mod Called
pub mod Reactions
pub mod Hosted
pub mod Closing
pub mod Fates
pub mod Staying
pub mod Dests
pub mod Carried
pub mod Ported
pub mod Acts
pub mod Places
pub mod Piped
pub mod PipedRows
pub mod PipedMoves
pub mod PipedRuns
pub mod Making
pub mod Ended
pub mod Doomed
pub mod Made
pub mod Spent
pub mod Unread
pub mod UnreadRuns
pub mod Origins
pub mod Fulfilled
pub mod WriteUses
pub mod Wrote
pub mod WroteRuns
pub mod WroteSteps
pub mod Sourced
mod Uses
pub mod Closed
mod FlushUses
pub mod Flushed
mod Worked
