-- A record is sound in one way, which the checker needs where a type keeps that fact.
-- This is a proof: no reader needs it.
use Rattle.std.specs.Prelude.{ℕ, Bool, true, false}
use Rattle.std.proofs.Props.{props}
use Rattle.play_event.specs.ValidSetup.{IsSizeWhere}
use Rattle.hand_canon.specs.SoundRecord.{IsSoundRecord}
use Rattle.hand_canon.specs.declared.record.Record.{Record}

-- a bet size is allowed in one way
IsSizeWhere-prop : (used : Bool) (chips : ℕ) → IsProp (IsSizeWhere used chips)
IsSizeWhere-prop true chips = hlevel props
IsSizeWhere-prop false chips = hlevel props

-- a record is sound in one way
pub IsSoundRecord-prop : (hand : Record) → IsProp (IsSoundRecord hand)
IsSoundRecord-prop hand = hlevel (IsSizeWhere-prop, props)
