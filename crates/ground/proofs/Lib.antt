pub mod Xor
pub mod Folds
pub mod Tabs
pub mod Bits
pub mod Numbers
pub mod ByteLaws
pub mod OnlyOne
