-- What a made hand is besides being made: sound and legal.
use Rattle.std.specs.Prelude.{◌≡◌, None}
use Rattle.hand_canon.specs.declared.record.Record.{Record}
use Rattle.hand_canon.specs.declared.trace.Trace.{Trace}
use Rattle.hand_canon.specs.SoundRecord.{IsSoundRecord, script_said}
use Rattle.hand_canon.specs.Agreement.{first_difference}
use Rattle.hand_canon.specs.LegalHand.{IsLegalHand}

-- a record is sound: its setup is valid, its script is within the limits, and what it states and
-- notes fits; its hand is legal; and no stated fact differs, whichever trace it is compared with
pub record IsSoundHand (hand : Record) : Type 0 where
  pub sound : IsSoundRecord hand
  pub legal : IsLegalHand hand.setup hand.rules (script_said hand)
  pub agrees : (trace : Trace) → first_difference trace hand.stated ≡ None
