pub mod KitZones
pub mod KitLines
pub mod Laws
