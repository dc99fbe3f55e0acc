-- If each live seat of a contested hand is shown, each pot that two or more seats may win has a
-- shown hand.
use Rattle.std.proofs.Common.{◌≡◌, ℕ, suc, ◌≤◌, Bool, true, false, ◌&&◌, ◌==◌, not, nat_le, nat_lt, if◌then◌else◌, List, [], ◌∷◌, length, map, filter, count_by, Some, None, refl, sym, ap, subst, ◌∙◌, arith}
use Rattle.std.specs.List.{list_any}
use Rattle.std.proofs.lemmas.Bool.{and_from, and_parts, le-leb, leb-true}
use Rattle.std.proofs.lemmas.List.Sums.{length-filter}
use Rattle.chip_ledger.specs.Pots.{PlainPot, Stake, after_return, is_reached_by_all, layers, levels, may_win, pots_at, pots_of, reaching, with_chips, with_dead, without_returned}
use Rattle.card_set.proofs.Counting.{counted_some, counts_fewer}
use Rattle.card_set.proofs.NumbersOfRange.{any_in_range, is_in, some_in_range}
use Rattle.card_set.proofs.Tests.{not_true}
use Rattle.play_event.specs.declared.setup.Setup.{Setup}
use Rattle.play_event.specs.Past.{Past, moves_of}
use Rattle.play_event.specs.Seats.{all_seats, is_live, live_count}
use Rattle.play_event.specs.Stakes.{dead_antes_of, pots_after, stake_after, stakes_after}
use Rattle.play_event.specs.Trace.{is_shown}
use Rattle.play_event.specs.TraceCore.{core_of}
use Rattle.hand_canon.specs.LegalHand.{showdown_in}
use Rattle.variant_table.specs.Shares.{Showdown, first_unshown_from, is_contender, is_unshown}

module _ (setup : Setup) (past : Past) where
  -- the stake of a seat when chips are returned
  abbrev pub left_of : ℕ → Stake
  left_of seat = without_returned (stakes_after setup (moves_of past)) (stake_after setup (moves_of past) seat)

  -- a live seat reaches a level
  abbrev pub is_at : ℕ → ℕ → Bool
  is_at level seat = is_live (moves_of past) seat && nat_le level (left_of seat).chips

  pub reaching_is : (level : ℕ) (seats : List ℕ) → reaching (map left_of seats) level ≡ filter (is_at level) seats
  reaching_is level [] = refl
  reaching_is level (seat ∷ rest) = by_test (is_at level seat) (reaching_is level rest)
    where
      by_test : (b : Bool) → reaching (map left_of rest) level ≡ filter (is_at level) rest
          → map (λ (s : Stake). s.seat) (if b then (left_of seat ∷ filter (λ (s : Stake). s.live && nat_le level s.chips) (map left_of rest)) else filter (λ (s : Stake). s.live && nat_le level s.chips) (map left_of rest)) ≡ (if b then (seat ∷ filter (is_at level) rest) else filter (is_at level) rest)
      by_test true later = ap (λ l. seat ∷ l) later
      by_test false later = later

  pub stakes_left : (seats : List ℕ) → map (without_returned (stakes_after setup (moves_of past))) (map (stake_after setup (moves_of past)) seats) ≡ map left_of seats
  stakes_left [] = refl
  stakes_left (seat ∷ rest) = ap (λ l. left_of seat ∷ l) (stakes_left rest)

  -- who may win a pot: the live seats that reach a level
  abbrev pub IsCut : PlainPot → Type 0
  IsCut pot = (level : ℕ) × (pot.eligible ≡ filter (is_at level) (all_seats setup))

  abbrev pub AreCut : List PlainPot → Type 0
  AreCut [] = Unit {0}
  AreCut (pot ∷ pots) = IsCut pot × AreCut pots

  abbrev lefts : List Stake
  lefts = map left_of (all_seats setup)

  layers_cut : (below : ℕ) (rest : List ℕ) → AreCut (layers lefts below rest)
  unfolding layers
  layers_cut below [] = tt
  layers_cut below (level ∷ rest) = ((level, reaching_is level (all_seats setup)), layers_cut level rest)

  dead_cut : (dead : ℕ) (pots : List PlainPot) → AreCut pots → AreCut (with_dead dead pots)
  dead_cut dead [] cut = tt
  dead_cut dead (pot ∷ pots) cut = cut

  at_cut : (dead : ℕ) (found : List ℕ) → AreCut (pots_at lefts dead found)
  unfolding pots_at
  at_cut dead [] = ((0, reaching_is 0 (all_seats setup)), tt)
  at_cut dead (first ∷ rest) = by_reach (is_reached_by_all lefts first)
    where
      by_reach : (b : Bool) → AreCut (if b then with_dead dead (layers lefts 0 (first ∷ rest)) else (record { chips = dead; eligible = reaching lefts 0 } ∷ layers lefts 0 (first ∷ rest)))
      by_reach true = dead_cut dead (layers lefts 0 (first ∷ rest)) (layers_cut 0 (first ∷ rest))
      by_reach false = ((0, reaching_is 0 (all_seats setup)), layers_cut 0 (first ∷ rest))

  kept_cut : (pots : List PlainPot) → AreCut pots → AreCut (with_chips pots)
  kept_cut [] cut = tt
  kept_cut (pot ∷ pots) cut = by_chips (nat_lt 0 pot.chips) (kept_cut pots cut.1)
    where
      by_chips : (b : Bool) → AreCut (with_chips pots) → AreCut (if b then (pot ∷ with_chips pots) else with_chips pots)
      by_chips true later = (cut.0, later)
      by_chips false later = later

  pots_cut : AreCut (pots_after setup (moves_of past))
  unfolding pots_of after_return
  pots_cut =
      subst (λ (l : List Stake). AreCut (with_chips (pots_at l (dead_antes_of setup) (levels l)))) (sym (stakes_left (all_seats setup)))
      (kept_cut (pots_at lefts (dead_antes_of setup) (levels lefts)) (at_cut (dead_antes_of setup) (levels lefts)))

  -- a pot with a shown hand
  module _ (shows : (seat : ℕ) → nat_le 2 (live_count setup (moves_of past)) ≡ true → is_live (moves_of past) seat ≡ true → is_shown setup past seat ≡ true) where
    abbrev seen : Showdown
    seen = showdown_in setup (core_of setup past)

    shown_pot : (pot : PlainPot) → IsCut pot → is_unshown seen pot ≡ false
    shown_pot pot cut = by_two (nat_le 2 (length pot.eligible)) refl
      where
        by_two : (two : Bool) → nat_le 2 (length pot.eligible) ≡ two → (two && not (list_any (is_contender seen pot) (all_seats setup))) ≡ false
        by_two false is = refl
        by_two true is =
            let n = setup.stacks.seats in
            let many : 2 ≤ length pot.eligible = leb-true 2 (length pot.eligible) is in
            let counted : length pot.eligible ≡ count_by (is_at cut.0) (all_seats setup) = ap (λ (l : List ℕ). length l) cut.1 ∙ length-filter (is_at cut.0) (all_seats setup) in
            let fewer : count_by (is_at cut.0) (all_seats setup) ≤ live_count setup (moves_of past) =
            counts_fewer (is_at cut.0) (is_live (moves_of past)) (λ seat at. (and_parts (is_live (moves_of past) seat) (nat_le cut.0 (left_of seat).chips) at).0) (all_seats setup) in
            let contested : nat_le 2 (live_count setup (moves_of past)) ≡ true = le-leb 2 (live_count setup (moves_of past)) (omega (arith, many, counted, fewer)) in
            let found = some_in_range (is_at cut.0) 1 n (counted_some (is_at cut.0) (all_seats setup) (omega (arith, many, counted))) in
            let live : is_live (moves_of past) found.0 ≡ true = (and_parts (is_live (moves_of past) found.0) (nat_le cut.0 (left_of found.0).chips) found.1.1.1).0 in
            let may : may_win pot found.0 ≡ true = ap (list_any (λ other. other == found.0)) cut.1 ∙ is_in (is_at cut.0) 1 n found.0 found.1.0 found.1.1.0 ∙ found.1.1.1 in
            let shown : list_any (λ other. other == found.0) (filter (is_shown setup past) (all_seats setup)) ≡ true = is_in (is_shown setup past) 1 n found.0 found.1.0 found.1.1.0 ∙ shows found.0 contested live in
            not_true (list_any (is_contender seen pot) (all_seats setup))
            (any_in_range (is_contender seen pot) 1 n found.0 found.1.0 found.1.1.0
            (and_from (may_win pot found.0) (list_any (λ other. other == found.0) (filter (is_shown setup past) (all_seats setup))) may shown))

    each_shown : (number : ℕ) (pots : List PlainPot) → AreCut pots → first_unshown_from number seen pots ≡ None
    each_shown number [] cut = refl
    each_shown number (pot ∷ pots) cut =
        ap (λ b. if b then Some number else first_unshown_from (suc number) seen pots) (shown_pot pot cut.0) ∙ each_shown (suc number) pots cut.1

    pub none_unshown : first_unshown_from 1 seen (core_of setup past).pots ≡ None
    none_unshown = each_shown 1 (pots_after setup (moves_of past)) pots_cut
