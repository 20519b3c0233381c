pub mod Answers
pub mod Keys
pub mod PlanText
pub mod Reading
pub mod Stages
