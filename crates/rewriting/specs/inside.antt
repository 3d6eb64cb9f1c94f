-- What the functions inside the crate say. Nobody outside has to believe it.
pub mod Steps
pub mod Walks
pub mod Endings
pub mod Listed
pub mod Shapes
