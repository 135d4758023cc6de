pub mod World
pub mod Found
pub mod Stores
pub mod Making
pub mod Changes
pub mod Whole
pub mod Flights
pub mod SlotAccess
