pub mod PutLaws
pub mod PrefixLaws
pub mod Lawful
pub mod OwnerLaws
pub mod TextFormLaws
pub mod FormLaws
pub mod Rows
pub mod StepLaws
