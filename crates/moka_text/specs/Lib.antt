pub mod Words
pub mod ScheduleText
pub mod ScheduleReading
pub mod ReportText
pub mod ErrorText
