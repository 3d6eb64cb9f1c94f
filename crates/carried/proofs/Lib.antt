pub mod Steps
pub mod Calls
pub mod Coding
pub mod Feeding
pub mod Refusing
pub mod Tests
pub mod Runs
