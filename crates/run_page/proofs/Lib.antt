-- The lemmas.
mod Calm
mod Written
