-- The definitions that the contracts of packed lists cite.
pub mod Pieces
pub mod Octets
pub mod BitFields
pub mod NodeForm
pub mod Constants
