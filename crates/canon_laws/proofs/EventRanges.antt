-- Each event of a canonical script is within its range.
use Rattle.std.proofs.Common.{◌≡◌, ℕ, zero, suc, ◌+◌, ◌≤◌, ◌<◌, Bool, true, false, ◌&&◌, ◌==◌, nat_le, if◌then◌else◌, List, [], ◌∷◌, ◌++◌, map, filter, flat_map, reverse, length, Some, None, refl, sym, ◌∙◌, ap, subst, arith}
use Rattle.std.specs.List.{AllByRecursion, list_any, range_with_len}
use Rattle.std.proofs.lemmas.Bool.{and_parts}
use Rattle.card_set.specs.declared.card.Slot.{Slot}
use Rattle.card_set.specs.Known.{known_among}
use Rattle.play_event.specs.declared.setup.Rules.{Rules}
use Rattle.play_event.specs.declared.setup.Setup.{Setup}
use Rattle.play_event.specs.Due.{is_unfinished, turn}
use Rattle.play_event.specs.Games.{street_count}
use Rattle.play_event.specs.Laws.{AreLegal}
use Rattle.play_event.specs.Past.{Act, BroughtIn, Called, Folded, Move, Past, Raised, moves_before, moves_of}
use Rattle.play_event.specs.Said.{Discard, Muck, Said, Show}
use Rattle.play_event.specs.Scripts.{past_at_end, past_of}
use Rattle.play_event.specs.Seats.{all_seats, is_live, live_count}
use Rattle.play_event.specs.Streets.{has_draw}
use Rattle.play_event.specs.Trace.{streets_of}
use Rattle.play_event.specs.ValidSetup.{IsValid}
use Rattle.chip_ledger.specs.declared.numbers.TheConstants.{MOST_CHIPS}
use Rattle.play_event.specs.CanonScript.{act_named, board_said, canon_of, canonical_script, deal_said, deals_said, dealt_slots, discards_said, discarded_slots, drawing_seats, held_slots, is_reached, move_named, moves_named, script_of, showdown_said, showing_said, street_said}
use Rattle.play_event.specs.PlayedScript.{IsPlayed}
use Rattle.play_event.specs.TraceCore.{TraceCore, core_after, core_of}
use Rattle.canon_laws.proofs.SameCore.{plain_again}
use Rattle.canon_laws.proofs.TidyTraces.{tidy_cards}
use Rattle.canon_laws.proofs.CardRanges.{board_few, board_known, discard_few, shown_whole}
use Rattle.canon_laws.proofs.GameSizes.{hand_seven, hand_some}
use Rattle.canon_laws.proofs.MoveRanges.{IsMoveInRange, moves_in_range}
use Rattle.card_set.proofs.Each.{each_flat, each_joined, each_kept, each_mapped, each_reversed}
use Rattle.chip_ledger.specs.Seat.{IsSeatOf}
use Rattle.play_event.specs.Ranges.{IsInRange}
use Rattle.play_event.proofs.ScriptLaws.{at_end}

-- numbers in a row are between the first and the last
abbrev IsBetween : ℕ → ℕ → ℕ → Type 0
IsBetween first behind number = (first ≤ number) × (number < behind)

row : (first count behind : ℕ) → first + count ≤ behind → AllByRecursion (IsBetween first behind) (range_with_len first count)
row first count behind few = from first count first (omega arith) few
  where
    from : (start left least : ℕ) → least ≤ start → start + left ≤ behind → AllByRecursion (IsBetween least behind) (range_with_len start left)
    from start zero least low high = tt
    from start (suc left) least low high = ((low, omega (arith, high)), from (start + 1) left least (omega (arith, low)) (omega (arith, high)))

-- the seats of a hand
hand_seats : (setup : Setup) → AllByRecursion (IsSeatOf setup.stacks.seats) (all_seats setup)
hand_seats setup =
    subst (AllByRecursion (IsSeatOf setup.stacks.seats)) (map_same (all_seats setup))
    (each_mapped (IsBetween 1 (setup.stacks.seats + 1)) (IsSeatOf setup.stacks.seats) (λ seat. seat) (λ seat within. record { first = within.0; last = omega (arith, within.1) }) (all_seats setup) (row 1 setup.stacks.seats (setup.stacks.seats + 1) (omega arith)))
  where
    map_same : (xs : List ℕ) → map (λ seat. seat) xs ≡ xs
    map_same [] = refl
    map_same (x ∷ xs) = ap (λ l. x ∷ l) (map_same xs)

-- the streets of a game
abbrev IsStreetOf : Setup → ℕ → Type 0
IsStreetOf setup street = (1 ≤ street) × (street < street_count setup.code + 1)

-- the events of moves
act_in_range : (seats : ℕ) (act : Act) (seat target : ℕ) → IsSeatOf seats seat → target ≤ MOST_CHIPS → IsInRange seats (act_named act seat target)
act_in_range seats Folded seat target in_hand few = in_hand
act_in_range seats Called seat target in_hand few = in_hand
act_in_range seats Raised seat target in_hand few = (in_hand, few)
act_in_range seats BroughtIn seat target in_hand few = in_hand

deal_in_range : (seats seat : ℕ) (slots : List Slot) → IsSeatOf seats seat → length slots ≤ 7 → AllByRecursion (IsInRange seats) (deal_said seat slots)
deal_in_range seats seat [] in_hand few = tt
deal_in_range seats seat (slot ∷ rest) in_hand few = ((in_hand, omega arith, few), tt)

board_in_range : (seats : ℕ) (slots : List Slot) → length slots ≤ 5 → length (known_among slots) ≡ length slots → AllByRecursion (IsInRange seats) (board_said slots)
board_in_range seats [] few known = tt
board_in_range seats (slot ∷ rest) few known = ((omega (arith, known), omega (arith, known, few)), tt)

module _ (setup : Setup) (rules : Rules) (events : List Said) (valid : IsValid setup) (legal : AreLegal setup rules events) where
  abbrev past : Past
  past = past_of setup events

  abbrev moves : List Move
  moves = moves_of past

  abbrev core : TraceCore
  core = core_of setup past

  abbrev seats : ℕ
  seats = setup.stacks.seats

  abbrev InRange : List Said → Type 0
  InRange events = AllByRecursion (IsInRange seats) events

  holes : (street : ℕ) → InRange (flat_map (λ seat. deal_said seat (dealt_slots core.places (Some seat) street)) (all_seats setup))
  holes street =
      each_flat (IsSeatOf seats) (IsInRange seats) (λ seat. deal_said seat (dealt_slots core.places (Some seat) street))
      (λ seat in_hand. deal_in_range seats seat (dealt_slots core.places (Some seat) street) in_hand ((tidy_cards setup rules events legal).dealt_few (Some seat) street))
      (all_seats setup) (hand_seats setup)

  deals : (street : ℕ) → IsStreetOf setup street → InRange (deals_said setup core.places street)
  deals street of_game =
      each_joined (IsInRange seats) (flat_map (λ seat. deal_said seat (dealt_slots core.places (Some seat) street)) (all_seats setup)) (board_said (dealt_slots core.places None street))
      (holes street)
      (board_in_range seats (dealt_slots core.places None street) (board_few setup rules events legal street of_game.0 (omega (arith, of_game.1))) (board_known setup rules events legal street))

  discards : (street : ℕ) → IsStreetOf setup street → InRange (discards_said setup core.places moves street)
  discards street of_game = by_draw (has_draw setup.code street && is_reached setup moves street) refl
    where
      by_draw : (some : Bool) → (has_draw setup.code street && is_reached setup moves street) ≡ some
          → InRange (if some then map (λ seat. Discard seat (discarded_slots core.places seat street)) (drawing_seats setup moves street) else [])
      by_draw true is =
          each_mapped (IsSeatOf seats) (IsInRange seats) (λ seat. Discard seat (discarded_slots core.places seat street))
          (λ seat in_hand. (in_hand, discard_few setup rules events legal seat street in_hand of_game.0 (omega (arith, of_game.1)) (and_parts (has_draw setup.code street) (is_reached setup moves street) is).0))
          (drawing_seats setup moves street) (each_kept (IsSeatOf seats) (is_live (moves_before street moves)) (all_seats setup) (hand_seats setup))
      by_draw false is = tt

  turns : (street : ℕ) → InRange (moves_named moves street)
  turns street =
      let on : Move → Bool = λ move. move.street == street in
      each_mapped (IsMoveInRange setup) (IsInRange seats) move_named (λ move within. act_in_range seats move.act move.seat move.to within.seat within.to)
      (reverse (filter on moves)) (each_reversed (IsMoveInRange setup) (filter on moves) (each_kept (IsMoveInRange setup) on moves (moves_in_range setup rules events valid legal)))

  street_in_range : (street : ℕ) → IsStreetOf setup street → InRange (street_said setup core.places moves street)
  street_in_range street of_game =
      each_joined (IsInRange seats) (discards_said setup core.places moves street) (deals_said setup core.places street ++ moves_named moves street) (discards street of_game)
      (each_joined (IsInRange seats) (deals_said setup core.places street) (moves_named moves street) (deals street of_game) (turns street))

  module _ (finished : is_unfinished (turn setup past).1 ≡ false) where
    showing : (seat : ℕ) → IsSeatOf seats seat → nat_le 2 (live_count setup moves) ≡ true → IsInRange seats (showing_said core.places core.shown seat)
    showing seat in_hand contested = by_shown (list_any (λ other. other == seat) core.shown) refl
      where
        by_shown : (shown : Bool) → list_any (λ other. other == seat) core.shown ≡ shown → IsInRange seats (if shown then Show seat (known_among (held_slots core.places seat)) else Muck seat)
        by_shown true is =
            let whole = shown_whole setup rules events legal seat in_hand contested finished is in
            (in_hand, omega (arith, whole, hand_some setup.code), omega (arith, whole, hand_seven setup.code))
        by_shown false is = in_hand

    showdown : InRange (showdown_said setup core.places moves core.shown)
    showdown = by_count (nat_le 2 (live_count setup moves)) refl
      where
        by_count : (some : Bool) → nat_le 2 (live_count setup moves) ≡ some → InRange (if some then map (showing_said core.places core.shown) (filter (is_live moves) (all_seats setup)) else [])
        by_count true contested =
            each_mapped (IsSeatOf seats) (IsInRange seats) (showing_said core.places core.shown) (λ seat in_hand. showing seat in_hand contested)
            (filter (is_live moves) (all_seats setup)) (each_kept (IsSeatOf seats) (is_live moves) (all_seats setup) (hand_seats setup))
        by_count false is = tt

    all_in_range : InRange (script_of setup core.places moves core.shown)
    all_in_range =
        each_joined (IsInRange seats) (flat_map (street_said setup core.places moves) (streets_of setup)) (showdown_said setup core.places moves core.shown)
        (each_flat (IsStreetOf setup) (IsInRange seats) (street_said setup core.places moves) street_in_range (streets_of setup) (row 1 (street_count setup.code) (street_count setup.code + 1) (omega arith)))
        showdown

-- the events of the canonical script of a script that is played to its end
pub events_in_range : (setup : Setup) (rules : Rules) (script : List Said) → IsValid setup → IsPlayed setup rules script → AllByRecursion (IsInRange setup.stacks.seats) (canon_of setup script)
unfolding canonical_script
events_in_range setup rules script valid played =
    let past : Past = past_at_end setup script in
    let core : TraceCore = core_after setup script in
    subst (λ (moves : List Move). AllByRecursion (IsInRange setup.stacks.seats) (script_of setup core.places moves core.shown)) (sym (plain_again setup (moves_of past)))
    (all_in_range setup rules (reverse script) valid played.legal (sym (ap (λ p. is_unfinished (turn setup p).1) (at_end setup script)) ∙ played.complete))
