pub mod Texts
pub mod Numbers
pub mod Blinds
pub mod OnlyOne
pub mod Lengths
pub mod Listed
pub mod Decimals
pub mod BlindExamples
