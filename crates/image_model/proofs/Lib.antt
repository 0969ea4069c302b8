-- The lemmas.
pub mod Contents
