-- Definitions of the program.
pub mod Held
