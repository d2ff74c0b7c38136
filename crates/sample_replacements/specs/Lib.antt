pub mod Pairs
pub mod Replacements
pub mod Laws
