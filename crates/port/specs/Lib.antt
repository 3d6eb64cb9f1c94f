pub mod Codes
pub mod Layout
pub mod Exports
pub mod Signals
pub mod Whole
pub mod Clauses
