pub mod AppLaws
mod ChannelLaws
pub mod CommandExamples
pub mod CommandLaws
pub mod FaultLaws
mod FlagLaws
mod GetterLaws
mod PlanLaws
mod KitLaws
mod PresetLaws
mod RequestLaws
mod TopicLaws
pub mod WalkLaws
