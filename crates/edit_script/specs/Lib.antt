pub mod Grammar
pub mod Script
pub mod Printing
pub mod TextForm
pub mod Laws
pub mod RefusalText
