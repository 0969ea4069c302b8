mod Answered
mod Gathered
mod Joining
mod Keeping
mod Keying
mod Nexts
mod Shares
mod Uncut
