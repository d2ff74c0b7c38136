pub mod Rising
pub mod RatioLaws
pub mod GainLaws
pub mod VelocityLaws
pub mod FloorLaws
pub mod OctaveLaws
