-- The lemmas.
pub mod StageCopies
pub mod Parts
pub mod Formed
pub mod Planning
