pub mod Watchers
