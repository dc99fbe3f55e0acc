-- What the contracts of the devices say.
pub mod Bytes
pub mod FaultPlan
pub mod Faults
pub mod FileShelf
pub mod MemShelf
pub mod MemSink
pub mod MemSource
pub mod OpenError
pub mod Shelf
pub mod StdSink
pub mod StdSource
