-- Lemmas of the program.
mod Held
