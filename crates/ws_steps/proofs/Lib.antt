pub mod PromiseLaws
pub mod StreamLaws
mod WorkedPromises
pub mod WorkedWords
mod WorkedReads
mod WorkedAborts
mod WorkedWrites
mod WorkedHistories
mod WorkedPipes
mod WorkedTransforms
mod WorkedBytes
mod WorkedTees
mod WorkedCross
