pub mod Fold
pub mod Bits
pub mod Bytes
pub mod Clauses
