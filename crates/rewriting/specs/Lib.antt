pub mod Decode
pub mod Known
pub mod Plans
pub mod Shape
pub mod Clauses
pub mod inside
