pub mod Frames
pub mod PairWave
pub mod Laws
