mod Ended
mod Feeding
mod Footprints
mod Outputs
pub mod Owning
mod Promising
mod Replaying
mod Standing
mod Taking
