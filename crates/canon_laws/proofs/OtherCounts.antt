-- A canonical script has few events other than its moves.
use Rattle.std.proofs.Common.{◌≡◌, ℕ, ◌+◌, ◌*◌, ◌≤◌, Bool, true, false, ◌&&◌, ◌==◌, not, nat_le, if◌then◌else◌, List, [], ◌∷◌, ◌++◌, length, map, filter, flat_map, reverse, count_by, cond, Some, None, refl, ap, arith, length-append}
use Rattle.std.proofs.lemmas.List.{length-map}
use Rattle.std.proofs.lemmas.List.FromFn.{length-range_with_len}
use Rattle.std.proofs.lemmas.List.Sums.{count_by-le-length}
use Rattle.card_set.proofs.Counting.{count_by-cons}
use Rattle.play_event.specs.declared.setup.Setup.{Setup}
use Rattle.play_event.specs.Games.{street_count}
use Rattle.play_event.specs.Past.{Act, BroughtIn, Called, Folded, Move, Raised, moves_before}
use Rattle.play_event.specs.Said.{Discard, Said}
use Rattle.play_event.specs.Seats.{all_seats, is_live, live_count}
use Rattle.play_event.specs.Streets.{has_draw}
use Rattle.play_event.specs.Trace.{TracedPlace, streets_of}
use Rattle.play_event.specs.CanonScript.{act_named, board_said, canonical_script, deal_said, deals_said, dealt_slots, discarded_slots, discards_said, drawing_seats, is_reached, move_named, moves_named, plain_moves, showdown_said, showing_said, street_said}
use Rattle.play_event.specs.PlayedScript.{is_move_event}
use Rattle.play_event.specs.TraceCore.{TraceCore}
use Rattle.play_event.proofs.StreetLaws.{few_streets}
use Rattle.play_event.proofs.Deals.{one_board, one_deal}
use Rattle.card_set.proofs.Lists.{kept_few}
use Rattle.card_set.proofs.FlatMaps.{flat_few}

-- the number of events that are no moves
abbrev others : List Said → ℕ
others events = count_by (λ event. not (is_move_event event)) events

both : (xs ys : List Said) → others (xs ++ ys) ≡ others xs + others ys
both [] ys = omega arith
both (x ∷ xs) ys =
    let p : Said → Bool = λ event. not (is_move_event event) in
    omega (arith, count_by-cons p x (xs ++ ys), count_by-cons p x xs, both xs ys)

-- at most as many as there are events
few : (events : List Said) (most : ℕ) → length events ≤ most → others events ≤ most
few events most short = omega (arith, short, count_by-le-length (λ event. not (is_move_event event)) events)

ten_seats : (setup : Setup) → length (all_seats setup) ≤ 10
ten_seats setup = omega (arith, length-range_with_len 1 setup.stacks.seats, setup.stacks.greatest)

maybe : (some : Bool) (events : List Said) (most : ℕ) → length events ≤ most → others (if some then events else []) ≤ most
maybe true events most short = few events most short
maybe false events most short = omega arith

act_moves : (act : Act) (seat target : ℕ) → is_move_event (act_named act seat target) ≡ true
act_moves Folded seat target = refl
act_moves Called seat target = refl
act_moves Raised seat target = refl
act_moves BroughtIn seat target = refl

-- moves are not other events
none_other : (moves : List Move) → others (map move_named moves) ≡ 0
none_other [] = refl
none_other (move ∷ rest) =
    let p : Said → Bool = λ event. not (is_move_event event) in
    omega (arith, count_by-cons p (move_named move) (map move_named rest), ap {B = ℕ} (λ b. cond (not b) 1 0) (act_moves move.act move.seat move.to), none_other rest)

module _ (setup : Setup) (placed : List TracedPlace) (moves : List Move) where
  deals_few : (street : ℕ) → others (deals_said setup placed street) ≤ 11
  deals_few street =
      let holes : List Said = flat_map (λ seat. deal_said seat (dealt_slots placed (Some seat) street)) (all_seats setup) in
      let board : List Said = board_said (dealt_slots placed None street) in
      few (deals_said setup placed street) 11
      (omega (
        arith,
        length-append holes board,
        flat_few (λ seat. deal_said seat (dealt_slots placed (Some seat) street)) 1 (all_seats setup) (λ seat. one_deal seat (dealt_slots placed (Some seat) street)),
        one_board (dealt_slots placed None street),
        ten_seats setup,
      ))

  discards_few : (street : ℕ) → others (discards_said setup placed moves street) ≤ 10
  discards_few street =
      let discard : ℕ → Said = λ seat. Discard seat (discarded_slots placed seat street) in
      maybe (has_draw setup.code street && is_reached setup moves street) (map discard (drawing_seats setup moves street)) 10
      (omega (arith, length-map (drawing_seats setup moves street) discard, kept_few (is_live (moves_before street moves)) (all_seats setup), ten_seats setup))

  street_few : (street : ℕ) → others (street_said setup placed moves street) ≤ 21
  street_few street =
      omega (
        arith,
        both (discards_said setup placed moves street) (deals_said setup placed street ++ moves_named moves street),
        both (deals_said setup placed street) (moves_named moves street),
        discards_few street,
        deals_few street,
        none_other (reverse (filter (λ move. move.street == street) moves)),
      )

  streets_few : (streets : List ℕ) → others (flat_map (street_said setup placed moves) streets) ≤ length streets * 21
  streets_few [] = omega arith
  streets_few (street ∷ rest) = omega (arith, both (street_said setup placed moves street) (flat_map (street_said setup placed moves) rest), street_few street, streets_few rest)

  showdown_few : (shown : List ℕ) → others (showdown_said setup placed moves shown) ≤ 10
  showdown_few shown =
      maybe (nat_le 2 (live_count setup moves)) (map (showing_said placed shown) (filter (is_live moves) (all_seats setup))) 10
      (omega (arith, length-map (filter (is_live moves) (all_seats setup)) (showing_said placed shown), kept_few (is_live moves) (all_seats setup), ten_seats setup))

-- a canonical script has no more other events than a hand may have
pub few_others : (setup : Setup) (trace : TraceCore) → count_by (λ event. not (is_move_event event)) (canonical_script setup trace) ≤ 256
unfolding canonical_script
few_others setup trace =
    let moves : List Move = plain_moves trace.moves in
    omega (
      arith,
      both (flat_map (street_said setup trace.places moves) (streets_of setup)) (showdown_said setup trace.places moves trace.shown),
      streets_few setup trace.places moves (streets_of setup),
      length-range_with_len 1 (street_count setup.code),
      few_streets setup.code,
      showdown_few setup trace.places moves trace.shown,
    )
