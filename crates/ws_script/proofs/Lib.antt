mod Ending
mod Events
mod Flushing
mod ReadingMore
