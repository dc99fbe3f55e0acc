-- In no-limit, the chips that a seat has put in the whole hand after a raise decide the target of
-- the raise.
use Rattle.std.proofs.Common.{◌≡◌, ℕ, ◌+◌, ◌-◌, ◌≤◌, Bool, true, false, ◌==◌, if◌then◌else◌, List, refl, sym, arith, true≢false}
use Rattle.std.proofs.lemmas.Bool.{eq-eqb}
use Rattle.play_event.specs.Amounts.{raise_target}
use Rattle.play_event.specs.Chips.{chips_added, posted, street_chips}
use Rattle.play_event.specs.Past.{Move}
use Rattle.play_event.specs.declared.event.Spelled.TheVariants as spelled
use Rattle.play_event.specs.declared.setup.Setup.{Setup}
use Rattle.canon_laws.proofs.MoveRanges.{added_less, brought_less}
use Rattle.acpc_format.specs.Betting.{hand_total}

-- a raise adds the same chips to those of the hand and to those of the street
pub same_target : (setup : Setup) (older : List Move) (move : Move) (street : ℕ) → move.from ≡ street_chips setup older street move.seat → move.from ≤ move.to
    → raise_target setup older street move.seat (spelled.HandTotal (hand_total setup move older)) ≡ move.to
same_target setup older move street from up = by_seat (move.seat == move.seat) (eq-eqb move.seat move.seat refl)
  where
    by_seat : (own : Bool) → own ≡ true → (posted setup move.seat + ((if own then move.to - move.from else 0) + chips_added move.seat older)) - ((posted setup move.seat + chips_added move.seat older) - street_chips setup older street move.seat) ≡ move.to
    by_seat true is = omega (arith, from, up, added_less street move.seat older, brought_less setup street move.seat)
    by_seat false is = absurd (true≢false (sym is))
