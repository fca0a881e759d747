pub mod Puts
pub mod Cuts
pub mod Ends
pub mod Spelled
pub mod Told
pub mod Same
