-- The showdown of a sound play is that of its shown and mucked seats.
use Rattle.std.proofs.Common.{◌≡◌, ℕ, ◌≤◌, Bool, true, false, not, ◌&&◌, ◌==◌, if◌then◌else◌, List, [], ◌∷◌, map, filter, refl, sym, ap, ap₂, ◌∙◌, arith, true≢false}
use Rattle.std.specs.List.{flat_map, list_any}
use Rattle.card_set.proofs.FlatMaps.{kept_flat}
use Rattle.card_set.proofs.NumbersOfRange.{flat_none, flat_same, is_in}
use Rattle.card_set.specs.Known.{known_among}
use Rattle.canon_laws.proofs.SameCore.{plain_again}
use Rattle.play_event.specs.CanonScript.{held_slots, plain_moves, showdown_said, showing_said}
use Rattle.play_event.specs.TraceCore.{TraceCore}
use Rattle.chip_ledger.specs.LiveRow.{flag_of, flagged}
use Rattle.chip_ledger.specs.declared.live_row.LiveRow.{LiveRow}
use Rattle.hand_canon.specs.WholeTrace.{IsTraceOf}
use Rattle.hand_canon.specs.TraceRows.{core_said}
use Rattle.hand_canon.specs.declared.trace.Trace.{Trace}
use Rattle.play_event.specs.Past.{Move, Past, moves_of}
use Rattle.play_event.specs.Said as said
use Rattle.play_event.specs.Said.{Said}
use Rattle.play_event.specs.Seats.{all_seats, is_live}
use Rattle.play_event.specs.Showing.{has_mucked}
use Rattle.play_event.specs.Trace.{has_unknown_card, is_contested, is_mucked, is_shown}
use Rattle.play_event.specs.declared.setup.Setup.{Setup}
use Rattle.showdown_split.proofs.Flagged.{is_flagged-flag}
use Rattle.ohh_format.proofs.ScriptAgain.{showing_events}

first_two : (a b c d : Bool) → (a && b && c && d) ≡ true → (a ≡ true) × (b ≡ true)
first_two true true c d is = (refl, refl)
first_two true false c d is = absurd (true≢false (sym is))
first_two false b c d is = absurd (true≢false (sym is))

no_contest : (b c d : Bool) → (false && b && c && d) ≡ false
no_contest b c d = refl

muck_live : (a b c : Bool) → (a && b && c) ≡ true → b ≡ true
muck_live true true c is = refl
muck_live true false c is = absurd (true≢false (sym is))
muck_live false b c is = absurd (true≢false (sym is))

module _ (setup : Setup) (past : Past) (trace : Trace) (is : IsTraceOf setup past trace) where
  abbrev count : ℕ
  count = setup.stacks.seats

  flag_is : (row : LiveRow) (p : ℕ → Bool) → flagged row ≡ filter p (all_seats setup) → (seat : ℕ) → 1 ≤ seat → seat ≤ count → flag_of row seat ≡ p seat
  flag_is row p same seat low high =
      sym (is_flagged-flag row seat low) ∙ ap (list_any (λ other. other == seat)) same ∙ is_in p 1 count seat low (omega (arith, high))

  pub shown_is : (seat : ℕ) → 1 ≤ seat → seat ≤ count → flag_of trace.shown seat ≡ is_shown setup past seat
  shown_is seat low high = flag_is trace.shown (is_shown setup past) (ap (λ (core : TraceCore). core.shown) is.core) seat low high

  pub mucked_is : (seat : ℕ) → 1 ≤ seat → seat ≤ count → flag_of trace.mucked seat ≡ is_mucked setup past seat
  mucked_is seat low high = flag_is trace.mucked (is_mucked setup past) (ap (λ (core : TraceCore). core.mucked) is.core) seat low high

  -- a mucked seat is live
  pub mucked_live : (seat : ℕ) → 1 ≤ seat → seat ≤ count → flag_of trace.mucked seat ≡ true → is_live (moves_of past) seat ≡ true
  mucked_live seat low high mucked = muck_live (is_contested setup past) (is_live (moves_of past) seat) (not (is_shown setup past seat)) (sym (mucked_is seat low high) ∙ mucked)

  -- what a seat shows, by whether it is shown and mucked
  abbrev by_flags : ℕ → Bool → Bool → List Said
  by_flags seat shown mucked = if shown then said.Show seat (known_among (held_slots (core_said trace).places seat)) ∷ [] else (if mucked then said.Muck seat ∷ [] else [])

  flags_are : (seat : ℕ) → 1 ≤ seat → seat ≤ count → showing_events trace seat ≡ by_flags seat (is_shown setup past seat) (is_mucked setup past seat)
  flags_are seat low high = ap₂ (by_flags seat) (shown_is seat low high) (mucked_is seat low high)

  -- whether a seat is among the shown ones
  among : (seat : ℕ) → 1 ≤ seat → seat ≤ count → list_any (λ other. other == seat) (core_said trace).shown ≡ is_shown setup past seat
  among seat low high = is_flagged-flag trace.shown seat low ∙ shown_is seat low high

  one_live : (seat : ℕ) → is_contested setup past ≡ true → (live : Bool) → is_live (moves_of past) seat ≡ live → (shown : Bool) → is_shown setup past seat ≡ shown
      → (if live then (if shown then said.Show seat (known_among (held_slots (core_said trace).places seat)) else said.Muck seat) ∷ [] else []) ≡ by_flags seat shown (is_mucked setup past seat)
  one_live seat contested true e true f = refl
  one_live seat contested true e false f =
      let mucked : is_mucked setup past seat ≡ true = ap₂ (λ (a b : Bool). a && b && not (is_shown setup past seat)) contested e ∙ ap not f in
      sym (ap (λ (b : Bool). if b then said.Muck seat ∷ [] else []) mucked)
  one_live seat contested false e true f =
      let both = first_two (is_contested setup past) (is_live (moves_of past) seat) (not (has_mucked past seat)) (not (has_unknown_card setup past seat)) f in
      absurd (true≢false (sym both.1 ∙ e))
  one_live seat contested false e false f =
      let not_mucked : is_mucked setup past seat ≡ false = ap₂ (λ (a b : Bool). a && b && not (is_shown setup past seat)) contested e in
      sym (ap (λ (b : Bool). if b then said.Muck seat ∷ [] else []) not_mucked)

  by_contest : (contested : Bool) → is_contested setup past ≡ contested
      → (if contested then map (showing_said (core_said trace).places (core_said trace).shown) (filter (is_live (moves_of past)) (all_seats setup)) else []) ≡ flat_map (showing_events trace) (all_seats setup)
  by_contest true e =
      kept_flat (is_live (moves_of past)) (showing_said (core_said trace).places (core_said trace).shown) (all_seats setup)
      ∙ flat_same (λ seat. if is_live (moves_of past) seat then showing_said (core_said trace).places (core_said trace).shown seat ∷ [] else []) (showing_events trace) 1 count
      (λ seat low within.
      ap (λ (b : Bool). if is_live (moves_of past) seat then (if b then said.Show seat (known_among (held_slots (core_said trace).places seat)) else said.Muck seat) ∷ [] else []) (among seat low (omega (arith, within)))
      ∙ one_live seat e (is_live (moves_of past) seat) refl (is_shown setup past seat) refl
      ∙ sym (flags_are seat low (omega (arith, within))))
  by_contest false e =
      sym (flat_none (showing_events trace) 1 count (λ seat low within.
      flags_are seat low (omega (arith, within))
      ∙ ap₂ (by_flags seat)
      (ap (λ (a : Bool). a && is_live (moves_of past) seat && not (has_mucked past seat) && not (has_unknown_card setup past seat)) e)
      (ap (λ (a : Bool). a && is_live (moves_of past) seat && not (is_shown setup past seat)) e)))

  moves_are : plain_moves (core_said trace).moves ≡ moves_of past
  moves_are = ap (λ (core : TraceCore). plain_moves core.moves) is.core ∙ plain_again setup (moves_of past)

  -- the showdown
  pub showdown_is : showdown_said trace.setup (core_said trace).places (plain_moves (core_said trace).moves) (core_said trace).shown ≡ flat_map (showing_events trace) (all_seats trace.setup)
  showdown_is =
      ap₂ (λ (s : Setup) (moves : List Move). showdown_said s (core_said trace).places moves (core_said trace).shown) is.same_setup moves_are
      ∙ by_contest (is_contested setup past) refl
      ∙ ap (λ (s : Setup). flat_map (showing_events trace) (all_seats s)) (sym is.same_setup)
