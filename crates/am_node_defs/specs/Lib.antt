pub mod Cores
pub mod Kept
pub mod Laws
pub mod Refresh
pub mod Reports
pub mod Bodies
pub mod Sends
