pub mod Counts
pub mod SummaryText
