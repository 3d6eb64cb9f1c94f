pub mod Form
pub mod Words
pub mod Document
pub mod Area
pub mod Rows
pub mod Clauses
pub mod inside
