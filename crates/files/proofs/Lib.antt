-- The lemmas.
pub mod Patching
pub mod Numbering
pub mod Absent
