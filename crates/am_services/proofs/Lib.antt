mod Given
mod Told
mod Ended
mod Parts
mod Starts
mod Entries
