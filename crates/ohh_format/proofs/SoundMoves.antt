-- The moves of a sound play can be written.
use Rattle.std.proofs.Common.{◌≡◌, ℕ, ◌≤◌, Bool, true, false, not, ◌&&◌, ◌||◌, ◌==◌, cond, List, [], ◌∷◌, pos, Some, refl, sym, ap, ◌∙◌, arith, true≢false}
use Rattle.std.specs.List.{AllByRecursion, list_any}
use Rattle.std.proofs.Math.Nat.{min-le_left}
use Rattle.card_set.proofs.Entries.{all_push}
use Rattle.canon_laws.proofs.MoveRanges.{IsMoveInRange}
use Rattle.play_event.specs.Chips.{all_in}
use Rattle.play_event.specs.MoveReasons.{actor_of}
use Rattle.play_event.specs.Openers.{TheSeat}
use Rattle.play_event.specs.Past.{Called, Move, Moved, is_bringing_in, is_folding, is_raising, moves_on}
use Rattle.play_event.specs.Places.{Place}
use Rattle.play_event.specs.CurrentBet.{current_bet}
use Rattle.play_event.specs.Said.{Said}
use Rattle.play_event.specs.Scripts.{resolved_by}
use Rattle.play_event.specs.Seats.{is_live}
use Rattle.play_event.specs.Trace.{traced_move, traced_moves}
use Rattle.play_event.specs.declared.setup.Rules.{Rules}
use Rattle.play_event.specs.declared.setup.Setup.{Setup}
use Rattle.play_laws.proofs.MoveKinds.{IsMoveSaid, bring_said, call_said, fold_said, raise_said}
use Rattle.play_laws.proofs.MovesLaw.{MovesLaw}
use Rattle.ohh_members.specs.Values.{seat_of}
use Rattle.ohh_rounds.specs.HandContext.{PlainHandContext}
use Rattle.ohh_format.proofs.MovesAgain.{CanBeWritten, HasNotFolded, IsElsewhere}
use Rattle.play_laws.proofs.ResolvedMoves.{act_of, target_of}

-- a call goes no further than the current bet
called_fits : (setup : Setup) (older : List Move) (street seat : ℕ) (event : Said) (move : Move) → IsMoveSaid event → resolved_by setup older street (TheSeat seat) event ≡ Moved move → move.act ≡ Called → move.to ≤ current_bet setup older street
unfolding target_of act_of
called_fits setup older street seat _ move (fold_said named) is called = absurd (true≢false (ap is_folding (ap act_of is ∙ called)))
called_fits setup older street seat _ move (call_said named stated) is called =
    let to = ap target_of is in
    omega (arith, to, min-le_left (current_bet setup older street) (all_in setup older street (actor_of named (TheSeat seat))))
called_fits setup older street seat _ move (raise_said named amount) is called = absurd (true≢false (ap is_raising (ap act_of is ∙ called)))
called_fits setup older street seat _ move (bring_said named) is called = absurd (true≢false (ap is_bringing_in (ap act_of is ∙ called)))

module _ (setting : PlainHandContext) (setup : Setup) (rules : Rules) (placed : List Place) (players : (seat : ℕ) → 1 ≤ seat → seat ≤ setup.stacks.seats → seat_of setting.ids (pos seat) ≡ Some seat) where
  pub written_moves : (moves : List Move) → AllByRecursion (IsMoveInRange setup) moves → MovesLaw setup rules placed moves → AllByRecursion (CanBeWritten setting) (traced_moves setup moves)
  written_moves [] ranges law = tt
  written_moves (move ∷ before) ranges law =
      let fits = law.0 in
      let range = ranges.0 in
      all_push (CanBeWritten setting) (traced_moves setup before) (traced_move setup move before) (written_moves before ranges.1 law.1)
      (record {
        player = players move.seat range.seat.first range.seat.last;
        to = range.to;
        called = called_fits setup before move.street move.seat fits.event move fits.is_move fits.place;
      })

module _ (setting : PlainHandContext) (setup : Setup) where
  pub no_moves_on : (street : ℕ) (moves : List Move) → moves_on street moves ≡ [] → AllByRecursion (IsElsewhere setting setup street) (traced_moves setup moves)
  no_moves_on street [] none = tt
  no_moves_on street (move ∷ before) none =
      let both = by_street (move.street == street) refl none in
      all_push (IsElsewhere setting setup street) (traced_moves setup before) (traced_move setup move before) (no_moves_on street before both.1) both.0
    where
      by_street : (on : Bool) → (move.street == street) ≡ on → cond on (move ∷ moves_on street before) (moves_on street before) ≡ [] → ((move.street == street) ≡ false) × (moves_on street before ≡ [])
      by_street true e none = absurd (cc (none))
      by_street false e none = (e, none)

  pub live_folds : (seat : ℕ) (moves : List Move) → is_live moves seat ≡ true → AllByRecursion (HasNotFolded setting setup seat) (traced_moves setup moves)
  live_folds seat [] live = tt
  live_folds seat (move ∷ before) live =
      let both = by_fold (is_folding move.act && (move.seat == seat)) refl live in
      all_push (HasNotFolded setting setup seat) (traced_moves setup before) (traced_move setup move before) (live_folds seat before both.1) both.0
    where
      by_fold : (folds : Bool) → (is_folding move.act && (move.seat == seat)) ≡ folds → not (folds || list_any (λ move. is_folding move.act && (move.seat == seat)) before) ≡ true
          → ((is_folding move.act && (move.seat == seat)) ≡ false) × (is_live before seat ≡ true)
      by_fold true e live = absurd (true≢false (sym live))
      by_fold false e live = (e, live)
