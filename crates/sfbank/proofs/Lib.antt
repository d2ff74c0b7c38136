mod ListLaws
pub mod OneText
pub mod Applying
pub mod Endings
pub mod Faults
pub mod Neutral
pub mod Restores
pub mod NewBanks
pub mod BankScripts
pub mod SavedBanks
pub mod Differences
pub mod RenderLaws
pub mod Recordings
pub mod KitRuns
pub mod FolderRuns
pub mod Maps
mod PlanLaws
mod KitPlans
mod SavedFolders
mod FolderPlans
mod OutcomeLaws
mod Findings
mod CommandLaws
mod LiveLaws
pub mod UndoneFiles
pub mod PackedFiles
pub mod SavedKits
pub mod ScriptFiles
pub mod PlannedEdits
mod FoundEdits
mod BankPairs
mod KeptNotes
mod CopiedMembers
mod SavedScripts
