pub mod Same
pub mod Placing
pub mod Walking
pub mod Logs
pub mod Events
pub mod Places
