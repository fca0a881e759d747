mod ScriptWords
pub mod Bodies
mod Own
pub mod Planned
pub mod RacedBodies
mod Told
mod Letters
pub mod RacedScripts
mod Words
pub mod Chars
pub mod Outcomes
pub mod Reading
pub mod Whole
pub mod Entries
pub mod Runs
pub mod Fitting
pub mod Logs
pub mod Sends
pub mod Asked
pub mod Takes
pub mod Agree
pub mod Scripts
