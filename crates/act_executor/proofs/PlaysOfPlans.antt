pub mod KeptPlan
pub mod Once
pub mod Heard
pub mod Letters
pub mod Planned
pub mod Ran
pub mod TracedPlans
pub mod PlanPlayed
