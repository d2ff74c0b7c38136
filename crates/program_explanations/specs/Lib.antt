pub mod Explanations
pub mod GeneratorTable
