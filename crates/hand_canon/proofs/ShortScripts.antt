-- A canonical script of few moves is short, so its events have their numbers.
use Rattle.std.proofs.Common.{◌≡◌, ℕ, zero, suc, ◌+◌, ◌*◌, ◌≤◌, Bool, ◌&&◌, ◌==◌, nat_le, List, ◌∷◌, ◌++◌, length, map, filter, reverse, Some, None, refl, ap, ◌∙◌, arith, length-append}
use Rattle.std.specs.List.{flat_map, range_with_len}
use Rattle.std.proofs.lemmas.List.{length-map, length-reverse}
use Rattle.std.proofs.lemmas.List.FromFn.{length-range_with_len}
use Rattle.play_event.specs.declared.setup.Setup.{Setup}
use Rattle.play_event.specs.Past.{Move, moves_before}
use Rattle.play_event.specs.Said.{Discard}
use Rattle.play_event.specs.Seats.{all_seats, is_live, live_count}
use Rattle.play_event.specs.Streets.{has_draw}
use Rattle.play_event.specs.Games.{street_count}
use Rattle.play_event.specs.Trace.{TracedPlace, streets_of}
use Rattle.play_event.specs.TraceCore.{TraceCore}
use Rattle.play_event.specs.CanonScript.{board_said, canonical_script, deal_said, deals_said, dealt_slots, discarded_slots, discards_said, drawing_seats, is_reached, move_named, moves_named, plain_move, plain_moves, showdown_said, showing_said, street_said}
use Rattle.card_set.proofs.Lists.{kept_few, maybe_few}
use Rattle.card_set.proofs.FlatMaps.{flat_few}
use Rattle.first_fault.specs.Numbers.{saturated}
use Rattle.play_event.proofs.Deals.{one_board, one_deal}

-- what the seats that pass a test say, one event each
each_few : {X : Type 0} (setup : Setup) (p : ℕ → Bool) (f : ℕ → X) → length (map f (filter p (all_seats setup))) ≤ 10
each_few setup p f = omega (arith, length-map (filter p (all_seats setup)) f, kept_few p (all_seats setup), length-range_with_len 1 setup.stacks.seats, setup.stacks.greatest)

deals_few : (setup : Setup) (placed : List TracedPlace) (street : ℕ) → length (deals_said setup placed street) ≤ 11
deals_few setup placed street =
    let each = flat_few (λ seat. deal_said seat (dealt_slots placed (Some seat) street)) 1 (all_seats setup) (λ seat. one_deal seat (dealt_slots placed (Some seat) street)) in
    omega (arith, each, one_board (dealt_slots placed None street), length-append (flat_map (λ seat. deal_said seat (dealt_slots placed (Some seat) street)) (all_seats setup)) (board_said (dealt_slots placed None street)), length-range_with_len 1 setup.stacks.seats, setup.stacks.greatest)

moves_few : (moves : List Move) (street : ℕ) → length (moves_named moves street) ≤ length moves
moves_few moves street =
    let on : Move → Bool = λ move. move.street == street in
    omega (arith, length-map (reverse (filter on moves)) move_named, length-reverse (filter on moves), kept_few on moves)

street_few : (setup : Setup) (placed : List TracedPlace) (moves : List Move) (street : ℕ) → length moves ≤ 4096 → length (street_said setup placed moves street) ≤ 4117
street_few setup placed moves street few =
    let discards = maybe_few (has_draw setup.code street && is_reached setup moves street) (map (λ seat. Discard seat (discarded_slots placed seat street)) (drawing_seats setup moves street)) 10 (each_few setup (is_live (moves_before street moves)) (λ seat. Discard seat (discarded_slots placed seat street))) in
    omega (
      arith,
      few,
      discards,
      deals_few setup placed street,
      moves_few moves street,
      length-append (discards_said setup placed moves street) (deals_said setup placed street ++ moves_named moves street),
      length-append (deals_said setup placed street) (moves_named moves street),
    )

showdown_few : (setup : Setup) (placed : List TracedPlace) (moves : List Move) (shown : List ℕ) → length (showdown_said setup placed moves shown) ≤ 10
showdown_few setup placed moves shown = maybe_few (nat_le 2 (live_count setup moves)) (map (showing_said placed shown) (filter (is_live moves) (all_seats setup))) 10 (each_few setup (is_live moves) (showing_said placed shown))

times_few : (n : ℕ) → n ≤ 255 → n * 4117 ≤ 1049835
times_few n few = omega (arith, few)

pub canon_short : (setup : Setup) (trace : TraceCore) → street_count setup.code ≤ 255 → length trace.moves ≤ 4096 → length (canonical_script setup trace) ≤ 1049845
unfolding canonical_script
canon_short setup trace streets few =
    let moves : List Move = plain_moves trace.moves in
    let same : length moves ≤ 4096 = omega (arith, few, length-reverse (map plain_move trace.moves), length-map trace.moves plain_move) in
    omega (
      arith,
      flat_few (street_said setup trace.places moves) 4117 (streets_of setup) (λ street. street_few setup trace.places moves street same),
      times_few (street_count setup.code) streets,
      ap {B = ℕ} (λ n. n * 4117) (length-range_with_len 1 (street_count setup.code)),
      showdown_few setup trace.places moves trace.shown,
      length-append (flat_map (street_said setup trace.places moves) (streets_of setup)) (showdown_said setup trace.places moves trace.shown),
    )

-- numbers below the limit are kept as they are
pub numbers_are : (first count : ℕ) → first + count ≤ 4294967296 → map saturated (range_with_len first count) ≡ range_with_len first count
numbers_are first zero few = refl
numbers_are first (suc count) few =
    let here : saturated first ≡ first = grind (arith, few) in
    ap (λ n. n ∷ map saturated (range_with_len (first + 1) count)) here ∙ ap (λ l. first ∷ l) (numbers_are (first + 1) count (omega (arith, few)))
