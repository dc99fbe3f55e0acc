-- Plays of records as the loop over the records keeps them, what records and bytes result in, and
-- how conversions are related.
pub mod JudgedPlays
pub mod OneOutcome
pub mod OneVerdict
pub mod OneConversion
pub mod Taken
pub mod WrittenLines
pub mod Paired
pub mod LawfulNotations
pub mod KeptByChoice
pub mod Conversions
-- Passed on to the crates above.
pub use Rattle.acpc_format.proofs.NoteFacts as AcpcNoteFacts
pub use Rattle.acpc_format.proofs.OneForm as AcpcOneForm
pub use Rattle.acpc_format.proofs.SetupsSame as AcpcSetupsSame
pub use Rattle.ohh_format.proofs.NoteFacts as OhhNoteFacts
pub use Rattle.ohh_format.proofs.OneForm as OhhOneForm
pub use Rattle.phh_format.proofs.OneForm as PhhOneForm
