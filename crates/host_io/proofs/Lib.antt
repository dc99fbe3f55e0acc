-- Lemmas on the bytes of devices.
pub mod KnownBytes
