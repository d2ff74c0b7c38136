pub mod PresetFaults
