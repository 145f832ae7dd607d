-- Lemmas of printing.
pub mod Begun
pub mod Framing
pub mod Printed
