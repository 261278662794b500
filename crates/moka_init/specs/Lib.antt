pub mod PointPlan
pub mod FlowPlan
pub mod Forms
pub mod Grounds
pub mod Telling
pub mod Steps
pub mod Needs
pub mod Openings
