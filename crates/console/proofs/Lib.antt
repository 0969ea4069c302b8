-- The lemmas.
pub mod Going
