pub mod Standby
pub mod StandbyStructureLemmas
