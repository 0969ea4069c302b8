-- The lemmas.
pub mod Lists
pub mod Filling
pub mod Crashes
