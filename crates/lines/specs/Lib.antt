pub mod Text
pub mod Blind
pub mod Lines
pub mod Rows
pub mod Listing
pub mod Clauses
pub mod inside
