-- What gateways read, why a series call misses an object, and which entry shows a failed call.
pub mod GatewayEntries
pub mod Faults
pub mod RoundEnds
pub mod RoundFaults
pub mod RoundHarm
pub mod Refused
pub mod Deleted
pub mod RoundMisses
pub mod ReadMisses
pub mod CallMisses
pub mod CompactionMisses
pub mod RunMisses
