pub mod TwoRuns
pub mod Listened
pub mod ReadAgain
pub mod TwoValues
