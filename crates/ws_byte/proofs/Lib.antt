mod Closing
mod Looks
mod Responding
mod Serving
