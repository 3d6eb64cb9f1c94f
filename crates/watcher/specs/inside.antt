-- What the functions inside the crate say. Nobody outside has to believe it.
pub mod Turns
pub mod Horizons
