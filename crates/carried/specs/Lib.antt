pub mod Exporting
pub mod Calls
pub mod Tests
pub mod Runs
