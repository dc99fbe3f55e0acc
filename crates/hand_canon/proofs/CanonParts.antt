-- The parts of the canonical script are what the rows of the trace give.
use Rattle.std.proofs.Common.{◌≡◌, ℕ, ◌≤◌, ◌<◌, ◌==◌, true, nat_le, if◌then◌else◌, List, [], ◌∷◌, ◌++◌, map, filter, Some, None, sym, ap, ◌∙◌, arith}
use Rattle.std.specs.List.{flat_map, list_any}
use Rattle.card_set.specs.declared.card.Slot.{Slot}
use Rattle.card_set.specs.Known.{known_among}
use Rattle.chip_ledger.specs.declared.live_row.LiveRow.{LiveRow}
use Rattle.chip_ledger.specs.LiveRow.{flag_of, flagged}
use Rattle.chip_ledger.specs.Seat.{seats_of}
use Rattle.chip_ledger.proofs.Flags.{flag-from_flagged, flagged-from_flag}
use Rattle.card_set.proofs.Tests.{if_both, if_not, not_both, same_test}
use Rattle.play_event.specs.declared.hands.HandRow.{HandRow}
use Rattle.play_event.specs.declared.setup.Setup.{Setup}
use Rattle.play_event.specs.Past.{Move, moves_before}
use Rattle.play_event.specs.Said.{Said, Discard, Show, Muck}
use Rattle.play_event.specs.SeatSlots.{slots_of_hand}
use Rattle.play_event.specs.Seats.{all_seats, is_live, live_count}
use Rattle.play_event.specs.Streets.{has_draw}
use Rattle.play_event.specs.Trace.{TracedPlace}
use Rattle.play_event.specs.CanonScript.{board_said, deal_said, deals_said, dealt_slots, discarded_slots, discards_said, held_slots, showdown_said, showing_said}
use Rattle.hand_canon.specs.RowTests.{discards_from, showings_from, unfolded_count}
use Rattle.hand_canon.proofs.OneByOne.{flat_agree}
use Rattle.hand_canon.proofs.MoveRows.{AreFolded, live_are}
use Rattle.card_set.proofs.FlatMaps.{kept_flat}
use Rattle.card_set.proofs.Numbers.{few_by_test, many_by_test}

-- nor if fewer than two seats are live
pub not_reached : (setup : Setup) (placed : List TracedPlace) (moves : List Move) (street : ℕ) (folded : LiveRow) → AreFolded (moves_before street moves) folded
    → unfolded_count folded setup.stacks.seats < 2 → discards_said setup placed moves street ≡ []
not_reached setup placed moves street folded marked few =
    not_both (has_draw setup.code street) (nat_le 2 (live_count setup (moves_before street moves))) _ _
    (few_by_test (live_count setup (moves_before street moves)) (omega (arith, few, live_are setup (moves_before street moves) folded marked)))

-- otherwise those of each seat that has not folded
pub discards_are : (setup : Setup) (placed : List TracedPlace) (moves : List Move) (street : ℕ) (folded : LiveRow) (discards : HandRow)
    → has_draw setup.code street ≡ true
    → AreFolded (moves_before street moves) folded
    → 2 ≤ unfolded_count folded setup.stacks.seats
    → ((n : ℕ) → 1 ≤ n → slots_of_hand discards n ≡ discarded_slots placed n street)
    → discards_said setup placed moves street ≡ flat_map (discards_from folded discards) (seats_of setup.stacks.seats)
discards_are setup placed moves street folded discards draws marked some slots =
    let before = moves_before street moves in
    let said : ℕ → Said = λ seat. Discard seat (discarded_slots placed seat street) in
    if_both (has_draw setup.code street) (nat_le 2 (live_count setup before)) _ _ draws (many_by_test (live_count setup before) (omega (arith, some, live_are setup before folded marked)))
    ∙ kept_flat (is_live before) said (all_seats setup)
    ∙ flat_agree (λ seat. if is_live before seat then said seat ∷ [] else []) (discards_from folded discards) 1 setup.stacks.seats
    (λ k from.
    ap (λ b. if b then said k ∷ [] else []) (marked.each k from)
    ∙ if_not (flag_of folded k) (said k ∷ []) []
    ∙ ap (λ l. if flag_of folded k then [] else Discard k l ∷ []) (sym (slots k from)))

-- the deals of a street
pub deals_are : (setup : Setup) (placed : List TracedPlace) (street : ℕ) (hands : HandRow) (board : List Slot)
    → ((n : ℕ) → 1 ≤ n → slots_of_hand hands n ≡ dealt_slots placed (Some n) street)
    → board ≡ dealt_slots placed None street
    → deals_said setup placed street ≡ flat_map (λ seat. deal_said seat (slots_of_hand hands seat)) (seats_of setup.stacks.seats) ++ board_said board
deals_are setup placed street hands board slots same =
    ap (λ l. l ++ board_said (dealt_slots placed None street))
    (flat_agree (λ seat. deal_said seat (dealt_slots placed (Some seat) street)) (λ seat. deal_said seat (slots_of_hand hands seat)) 1 setup.stacks.seats (λ k from. ap (deal_said k) (sym (slots k from))))
    ∙ ap (λ l. flat_map (λ seat. deal_said seat (slots_of_hand hands seat)) (seats_of setup.stacks.seats) ++ board_said l) (sym same)

-- no showdown if fewer than two seats are live
pub no_showdown : (setup : Setup) (placed : List TracedPlace) (moves : List Move) (shown : List ℕ) (folded : LiveRow) → AreFolded moves folded
    → unfolded_count folded setup.stacks.seats < 2 → showdown_said setup placed moves shown ≡ []
no_showdown setup placed moves shown folded marked few =
    ap (λ b. if b then map (showing_said placed shown) (filter (is_live moves) (all_seats setup)) else [])
    (few_by_test (live_count setup moves) (omega (arith, few, live_are setup moves folded marked)))

-- a seat is among the shown ones if its flag is set
is_flagged : (row : LiveRow) (n : ℕ) → 1 ≤ n → list_any (λ m. m == n) (flagged row) ≡ flag_of row n
is_flagged row n from = same_test (list_any (λ m. m == n) (flagged row)) (flag_of row n) (flag-from_flagged row n) (flagged-from_flag row n from)

-- otherwise a show or muck of each seat that has not folded
pub showdown_are : (setup : Setup) (placed : List TracedPlace) (moves : List Move) (shown : LiveRow) (folded : LiveRow) (held : HandRow)
    → AreFolded moves folded
    → 2 ≤ unfolded_count folded setup.stacks.seats
    → ((n : ℕ) → 1 ≤ n → slots_of_hand held n ≡ held_slots placed n)
    → showdown_said setup placed moves (flagged shown) ≡ flat_map (showings_from folded shown held) (seats_of setup.stacks.seats)
showdown_are setup placed moves shown folded held marked some slots =
    let said : ℕ → Said = showing_said placed (flagged shown) in
    ap (λ b. if b then map said (filter (is_live moves) (all_seats setup)) else []) (many_by_test (live_count setup moves) (omega (arith, some, live_are setup moves folded marked)))
    ∙ kept_flat (is_live moves) said (all_seats setup)
    ∙ flat_agree (λ seat. if is_live moves seat then said seat ∷ [] else []) (showings_from folded shown held) 1 setup.stacks.seats
    (λ k from.
    ap (λ b. if b then said k ∷ [] else []) (marked.each k from)
    ∙ if_not (flag_of folded k) (said k ∷ []) []
    ∙ ap (λ b. if flag_of folded k then [] else (if b then Show k (known_among (held_slots placed k)) else Muck k) ∷ []) (is_flagged shown k from)
    ∙ ap (λ l. if flag_of folded k then [] else (if flag_of shown k then Show k (known_among l) else Muck k) ∷ []) (sym (slots k from)))
