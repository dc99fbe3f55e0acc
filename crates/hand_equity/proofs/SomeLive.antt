-- If board cards are dealt, a seat is live.
use Rattle.std.proofs.Common.{◌≡◌, ◌+◌, ◌<◌, ◌≤◌, ◌==◌, ◌||◌, ◌&&◌, not, nat_lt, ℕ, Bool, true, false, if◌then◌else◌, List, [], ◌∷◌, map, length, None, refl, sym, ◌∙◌, ap, arith}
use Rattle.std.specs.List.{list_any}
use Rattle.std.proofs.lemmas.Bool.{leb-false}
use Rattle.std.proofs.lemmas.List.{length-map}
use Rattle.card_set.specs.declared.card.Slot.{Slot}
use Rattle.canon_laws.proofs.SameCore.{plain_again}
use Rattle.play_event.specs.CanonScript.{dealt_slots, plain_move, plain_moves}
use Rattle.chip_ledger.specs.Seat.{IsSeatOf, seats_of}
use Rattle.hand_canon.specs.RowTests.{is_fold_before}
use Rattle.card_set.proofs.Any.{list_any-filter, list_any-map}
use Rattle.card_set.proofs.Counting.{counted_some}
use Rattle.card_set.proofs.NumbersOfRange.{some_in_range}
use Rattle.card_set.proofs.Reversed.{list_any-reverse}
use Rattle.play_event.specs.declared.played.Move as rows
use Rattle.play_event.specs.declared.setup.Rules.{Rules}
use Rattle.play_event.specs.declared.setup.Setup.{Setup}
use Rattle.play_event.specs.Dealing.{board_cards_dealt}
use Rattle.play_event.specs.Past.{Boarded, Dealt, Discarded, Move, Moved, Mucked, Past, Shown, is_folding, moves_before, moves_of}
use Rattle.play_event.specs.Places.{group_of}
use Rattle.play_event.specs.Played.{move_said}
use Rattle.play_event.specs.Said.{Said}
use Rattle.play_event.specs.Scripts.{past_of}
use Rattle.play_event.specs.Seats.{is_live, live_count}
use Rattle.play_event.specs.Table.{places_of}
use Rattle.play_event.specs.Trace.{TracedMove, traced_moves, traced_places}
use Rattle.play_laws.specs.PastLaws.{is_played_on}
use Rattle.play_laws.proofs.DonePasts.{legal_done}
use Rattle.play_laws.proofs.PlayedStreets.{board_count}
use Rattle.hand_equity.proofs.DealtHands.{AreFlopEvents, board_here, slot_of}

-- one of two tests passes
or_later : (a b : Bool) → b ≡ true → (a || b) ≡ true
or_later true b passes = refl
or_later false b passes = passes

-- a street whose board was dealt has an event
boarded : (before : Past) (street : ℕ) → 0 < board_cards_dealt before street → list_any (is_played_on street) before ≡ true
boarded [] street some = absurd (omega (arith, some))
boarded (Boarded on cards ∷ before) street some = by_street (on == street) some (boarded before street)
  where
    by_street : (b : Bool) → 0 < (if b then length cards else 0) + board_cards_dealt before street
        → (0 < board_cards_dealt before street → list_any (is_played_on street) before ≡ true) → (b || list_any (is_played_on street) before) ≡ true
    by_street true some earlier = refl
    by_street false some earlier = earlier (omega (arith, some))
boarded (Dealt on owner cards ∷ before) street some = or_later (on == street) (list_any (is_played_on street) before) (boarded before street some)
boarded (Moved move ∷ before) street some = or_later (move.street == street) (list_any (is_played_on street) before) (boarded before street some)
boarded (Discarded on owner cards ∷ before) street some = or_later (on == street) (list_any (is_played_on street) before) (boarded before street some)
boarded (Shown on owner cards ∷ before) street some = boarded before street some
boarded (Mucked on owner ∷ before) street some = boarded before street some

-- a seat that was live when the board of a street was dealt
pub some_live : (setup : Setup) (rules : Rules) (events : List Said) (street : ℕ) → AreFlopEvents setup rules events → 1 ≤ street → street ≤ 4
    → 0 < length (dealt_slots (traced_places setup (past_of setup events)) None street)
    → (seat : ℕ) × (IsSeatOf setup.stacks.seats seat × (is_live (moves_before street (moves_of (past_of setup events))) seat ≡ true))
some_live setup rules events street are least most some =
    let past = past_of setup events in
    let moves = moves_before street (moves_of past) in
    let group = group_of (places_of setup.code past) street None in
    let here = ap (length {A = Slot}) (board_here setup rules events street are least most) in
    let dealt : 0 < board_cards_dealt past street = omega (arith, here, length-map group slot_of, board_count setup.code past street, some) in
    let more = leb-false (live_count setup moves) 1 ((legal_done setup rules events are.legal).done.several street (boarded past street dealt)) in
    let found = some_in_range (is_live moves) 1 setup.stacks.seats (counted_some (is_live moves) (seats_of setup.stacks.seats) (omega (arith, more))) in
    (found.0, (record { first = found.1.0; last = omega (arith, found.1.1.0) }, found.1.1.1))

-- a seat folded among the moves before a street, if one of the rows says so
pub folded_rows : (setup : Setup) (street seat : ℕ) (played : List rows.Move) (moves : List Move) → map move_said played ≡ traced_moves setup moves
    → is_live (moves_before street moves) seat ≡ not (list_any (is_fold_before street seat) played)
folded_rows setup street seat played moves same =
    let folds : Move → Bool = λ move. is_folding move.act && (move.seat == seat) in
    let before : Move → Bool = λ move. nat_lt move.street street in
    let plain : moves ≡ plain_moves (map move_said played) = sym (plain_again setup moves) ∙ ap plain_moves (sym same) in
    ap not (list_any-filter folds before moves
    ∙ ap (list_any (λ (move : Move). before move && folds move)) plain
    ∙ list_any-reverse (λ (move : Move). before move && folds move) (map plain_move (map move_said played))
    ∙ list_any-map (λ (move : Move). before move && folds move) plain_move (map move_said played)
    ∙ list_any-map (λ (move : TracedMove). before (plain_move move) && folds (plain_move move)) move_said played)
