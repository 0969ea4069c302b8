mod KeySets
mod Counting
mod Parting
mod AddingStates
mod GoingOn
mod Sharing
