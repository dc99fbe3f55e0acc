-- Sound plays with the same setup, moves, dealt cards and shown seats have the same trace: who
-- mucked, the pots, returns, shares and finishing stacks follow.
use Rattle.std.proofs.Common.{◌≡◌, ℕ, ◌≤◌, ◌<◌, ◌+◌, ◌&&◌, ◌==◌, nat_le, not, List, map, filter, sym, ap, subst, ◌∙◌}
use Rattle.std.specs.List.{list_any}
use Rattle.canon_laws.proofs.SameCore.{core_by, core_parts, plain_again}
use Rattle.play_event.specs.CanonScript.{plain_moves}
use Rattle.play_event.specs.TraceCore.{TraceCore, core_of}
use Rattle.chip_ledger.specs.LiveRow.{flagged}
use Rattle.hand_canon.specs.Sound.{IsSound}
use Rattle.hand_canon.specs.WholeTrace.{IsTraceOf}
use Rattle.hand_canon.specs.SoundRecord.{script_said}
use Rattle.hand_canon.specs.TraceRows.{place_said}
use Rattle.hand_canon.specs.declared.trace.Play.{Play}
use Rattle.hand_canon.specs.declared.trace.Trace.{Trace}
use Rattle.card_set.proofs.NumbersOfRange.{filter_range, is_in}
use Rattle.play_event.specs.Past.{Move, Past, moves_of}
use Rattle.play_event.specs.Played.{move_said}
use Rattle.play_event.specs.Scripts.{past_at_end}
use Rattle.play_event.specs.Seats.{all_seats, is_live, live_count}
use Rattle.play_event.specs.Trace.{is_mucked, is_shown, traced_moves, traced_places}
use Rattle.play_event.specs.declared.setup.Setup.{Setup}
use Rattle.trace_laws.proofs.OneTrace.{one_core}

-- what is compared of two traces is the same
pub record AreAlike (a b : Trace) : Type 0 where
  pub setup : a.setup ≡ b.setup
  pub moves : a.moves ≡ b.moves
  pub places : a.places ≡ b.places
  pub shown : a.shown ≡ b.shown

module _ (setup : Setup) (past later : Past) (trace other : Trace) (is : IsTraceOf setup past trace) (also : IsTraceOf setup later other) where
  -- the moves of the pasts
  pub moves_alike : trace.moves ≡ other.moves → moves_of past ≡ moves_of later
  moves_alike same =
      let traced : traced_moves setup (moves_of past) ≡ traced_moves setup (moves_of later) =
      sym (ap (λ (core : TraceCore). core.moves) is.core) ∙ ap (map move_said) same ∙ ap (λ (core : TraceCore). core.moves) also.core in
      sym (plain_again setup (moves_of past)) ∙ ap plain_moves traced ∙ plain_again setup (moves_of later)

  -- who is shown, seat by seat
  shown_alike : trace.shown ≡ other.shown → (seat : ℕ) → 1 ≤ seat → seat < 1 + setup.stacks.seats → is_shown setup past seat ≡ is_shown setup later seat
  shown_alike same seat least most =
      let lists : filter (is_shown setup past) (all_seats setup) ≡ filter (is_shown setup later) (all_seats setup) =
      sym (ap (λ (core : TraceCore). core.shown) is.core) ∙ ap flagged same ∙ ap (λ (core : TraceCore). core.shown) also.core in
      sym (is_in (is_shown setup past) 1 setup.stacks.seats seat least most)
      ∙ ap (list_any (λ other. other == seat)) lists
      ∙ is_in (is_shown setup later) 1 setup.stacks.seats seat least most

  cores_alike : AreAlike trace other → core_of setup past ≡ core_of setup later
  unfolding core_by
  cores_alike alike =
      let moves = moves_alike alike.moves in
      let shown = shown_alike alike.shown in
      core_parts setup (traced_places setup past) (traced_places setup later) (moves_of past) (moves_of later)
      (filter (is_shown setup past) (all_seats setup)) (filter (is_shown setup later) (all_seats setup)) (filter (is_mucked setup past) (all_seats setup)) (filter (is_mucked setup later) (all_seats setup))
      (sym (ap (λ (core : TraceCore). core.places) is.core) ∙ ap (map place_said) alike.places ∙ ap (λ (core : TraceCore). core.places) also.core)
      moves
      (filter_range (is_shown setup past) (is_shown setup later) 1 setup.stacks.seats shown)
      (filter_range (is_mucked setup past) (is_mucked setup later) 1 setup.stacks.seats (λ seat from to.
      ap (λ (l : List Move). (nat_le 2 (live_count setup l) && is_live l seat) && not (is_shown setup past seat)) moves
      ∙ ap (λ b. (nat_le 2 (live_count setup (moves_of later)) && is_live (moves_of later) seat) && not b) (shown seat from to)))

  pub traces_alike : AreAlike trace other → trace ≡ other
  traces_alike alike = (one_core setup past later trace other is also).1 (cores_alike alike)

-- the past of a play
abbrev pub past_played : Play → Past
past_played play = past_at_end play.hand.setup (script_said play.hand)

-- the trace of a sound play under the setup of another play, if the setups are the same
pub traced_under : (play other : Play) → IsSound other → play.hand.setup ≡ other.hand.setup → IsTraceOf play.hand.setup (past_played other) other.trace
traced_under play other too same = subst (λ (setup : Setup). IsTraceOf setup (past_played other) other.trace) (sym same) too.trace

-- records whose traces have the same setup have the same setup
pub setups_played : (play other : Play) → IsSound play → IsSound other → play.trace.setup ≡ other.trace.setup → play.hand.setup ≡ other.hand.setup
setups_played play other sound too same = sym sound.trace.same_setup ∙ same ∙ too.trace.same_setup

pub one_trace : (play other : Play) → IsSound play → IsSound other → AreAlike play.trace other.trace → play.trace ≡ other.trace
one_trace play other sound too alike =
    traces_alike play.hand.setup (past_played play) (past_played other) play.trace other.trace sound.trace
    (traced_under play other too (setups_played play other sound too alike.setup)) alike
