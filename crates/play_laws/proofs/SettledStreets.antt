-- What is not due on a street does not come due there by later events.
use Rattle.std.proofs.Common.{◌≡◌, ℕ, ◌+◌, ◌-◌, ◌≤◌, Bool, true, false, ◌&&◌, ◌||◌, ◌==◌, not, nat_lt, is_some, ◌∷◌, length, refl, sym, ◌∙◌, ap, arith, if◌then◌else◌}
use Rattle.std.specs.List.{list_any}
use Rattle.std.proofs.lemmas.Bool.{or_parts, or_from, ltb-false}
use Rattle.play_event.specs.declared.setup.Setup.{Setup}
use Rattle.play_event.specs.Games.{hole_cards_on}
use Rattle.play_event.specs.Streets.{has_draw}
use Rattle.play_event.specs.Past.{Past, Resolved, Move, Dealt, Boarded, Moved, Discarded, Shown, Mucked, moves_of, is_folding}
use Rattle.play_event.specs.Seats.{is_live, all_seats}
use Rattle.play_event.specs.Dealing.{is_deal_due, is_draw_due, hole_cards_dealt, has_drawn, hole_cards_owed, board_cards_owed, replacements_owed, next_to_draw}
use Rattle.card_set.proofs.Tests.{false_true, if_not_both}
use Rattle.card_set.proofs.Any.{none_still}
use Rattle.card_set.proofs.Finding.{none_found_still}
use Rattle.card_set.proofs.NumbersOfRange.{at_range}
use Rattle.card_set.proofs.Numbers.{none_below}

-- hole cards owed do not increase
owed_less : (folded before : Bool) (owed : ℕ) → (if not (folded || before) then owed else 0) ≤ (if not before then owed else 0)
owed_less true true owed = omega arith
owed_less true false owed = omega arith
owed_less false true owed = omega arith
owed_less false false owed = omega arith

less_dealt : (live : Bool) (on more dealt : ℕ) → (if live then on - (more + dealt) else 0) ≤ (if live then on - dealt else 0)
less_dealt true on more dealt = omega arith
less_dealt false on more dealt = omega arith

-- no event makes a seat owed more hole cards of a street
pub hole_owed_still : (setup : Setup) (before : Past) (event : Resolved) (street seat : ℕ) → hole_cards_owed setup (event ∷ before) street seat ≤ hole_cards_owed setup before street seat
hole_owed_still setup before (Dealt on owner cards) street seat = less_dealt (is_live (moves_of before) seat) (hole_cards_on setup.code street) (if (on == street) && (owner == seat) then length cards else 0) (hole_cards_dealt before street seat)
hole_owed_still setup before (Boarded on cards) street seat = omega arith
hole_owed_still setup before (Moved move) street seat = owed_less (is_folding move.act && (move.seat == seat)) (list_any (λ (move : Move). is_folding move.act && (move.seat == seat)) (moves_of before)) (hole_cards_on setup.code street - hole_cards_dealt before street seat)
hole_owed_still setup before (Discarded on owner cards) street seat = omega arith
hole_owed_still setup before (Shown on owner cards) street seat = omega arith
hole_owed_still setup before (Mucked on owner) street seat = omega arith

-- nor the board more of its cards
pub board_owed_still : (setup : Setup) (before : Past) (event : Resolved) (street : ℕ) → board_cards_owed setup (event ∷ before) street ≤ board_cards_owed setup before street
board_owed_still setup before (Boarded on cards) street = omega arith
board_owed_still setup before (Dealt on owner cards) street = omega arith
board_owed_still setup before (Moved move) street = omega arith
board_owed_still setup before (Discarded on owner cards) street = omega arith
board_owed_still setup before (Shown on owner cards) street = omega arith
board_owed_still setup before (Mucked on owner) street = omega arith

-- a deal that is not due does not come due
pub deal_still : (setup : Setup) (before : Past) (event : Resolved) (street : ℕ) → is_deal_due setup before street ≡ false → is_deal_due setup (event ∷ before) street ≡ false
deal_still setup before event street is =
    let parts = or_parts (list_any (λ seat. nat_lt 0 (hole_cards_owed setup before street seat)) (all_seats setup)) (nat_lt 0 (board_cards_owed setup before street)) is in
    or_from (list_any (λ seat. nat_lt 0 (hole_cards_owed setup (event ∷ before) street seat)) (all_seats setup)) (nat_lt 0 (board_cards_owed setup (event ∷ before) street))
    (none_still (λ seat. nat_lt 0 (hole_cards_owed setup before street seat)) (λ seat. nat_lt 0 (hole_cards_owed setup (event ∷ before) street seat)) (all_seats setup) (λ seat. none_below (hole_cards_owed setup before street seat) (hole_cards_owed setup (event ∷ before) street seat) (hole_owed_still setup before event street seat)) parts.0)
    (none_below (board_cards_owed setup before street) (board_cards_owed setup (event ∷ before) street) (board_owed_still setup before event street) parts.1)

-- an event is a discard on a street
abbrev pub is_discard_on : ℕ → Resolved → Bool
is_discard_on street (Discarded on owner cards) = on == street
is_discard_on street (Dealt on owner cards) = false
is_discard_on street (Boarded on cards) = false
is_discard_on street (Moved move) = false
is_discard_on street (Shown on owner cards) = false
is_discard_on street (Mucked on owner) = false

-- without a discard no seat is owed more replacements
pub replaced_still : (before : Past) (event : Resolved) (street seat : ℕ) → is_discard_on street event ≡ false → replacements_owed (event ∷ before) street seat ≤ replacements_owed before street seat
replaced_still before (Dealt on owner cards) street seat no_discard = omega arith
replaced_still before (Boarded on cards) street seat no_discard = omega arith
replaced_still before (Moved move) street seat no_discard = omega arith
replaced_still before (Discarded on owner cards) street seat no_discard = omega (arith, if_not_both (on == street) (owner == seat) (length cards) no_discard)
replaced_still before (Shown on owner cards) street seat no_discard = omega arith
replaced_still before (Mucked on owner) street seat no_discard = omega arith

-- who has to draw had to draw before
live_before : (folded before drawn : Bool) → (not (folded || before) && not drawn) ≡ true → (not before && not drawn) ≡ true
live_before true before drawn is = false_true is
live_before false before drawn is = is

drawn_before : (live drew before : Bool) → (live && not (drew || before)) ≡ true → (live && not before) ≡ true
drawn_before false drew before is = false_true is
drawn_before true true before is = false_true is
drawn_before true false before is = is

-- who has yet to draw had yet to draw before
pub to_draw_still : (before : Past) (event : Resolved) (street seat : ℕ) → (is_live (moves_of (event ∷ before)) seat && not (has_drawn (event ∷ before) street seat)) ≡ true → (is_live (moves_of before) seat && not (has_drawn before street seat)) ≡ true
to_draw_still before (Dealt on owner cards) street seat is = is
to_draw_still before (Boarded on cards) street seat is = is
to_draw_still before (Moved move) street seat is = live_before (is_folding move.act && (move.seat == seat)) (list_any (λ (move : Move). is_folding move.act && (move.seat == seat)) (moves_of before)) (has_drawn before street seat) is
to_draw_still before (Discarded on owner cards) street seat is = drawn_before (is_live (moves_of before) seat) ((on == street) && (owner == seat)) (has_drawn before street seat) is
to_draw_still before (Shown on owner cards) street seat is = is
to_draw_still before (Mucked on owner) street seat is = is

draw_by : (draws a b c d : Bool) → (a ≡ false → c ≡ false) → (b ≡ false → d ≡ false) → (draws && (a || b)) ≡ false → (draws && (c || d)) ≡ false
draw_by false a b c d first second is = refl
draw_by true a b c d first second is = let parts = or_parts a b is in or_from c d (first parts.0) (second parts.1)

-- a draw that is not due does not come due without a discard
pub draw_still : (setup : Setup) (before : Past) (event : Resolved) (street : ℕ) → is_discard_on street event ≡ false → is_draw_due setup before street ≡ false → is_draw_due setup (event ∷ before) street ≡ false
draw_still setup before event street no_discard is =
    draw_by (has_draw setup.code street) (is_some (next_to_draw setup before street)) (list_any (λ seat. nat_lt 0 (replacements_owed before street seat)) (all_seats setup)) (is_some (next_to_draw setup (event ∷ before) street)) (list_any (λ seat. nat_lt 0 (replacements_owed (event ∷ before) street seat)) (all_seats setup))
    (none_found_still (λ seat. is_live (moves_of before) seat && not (has_drawn before street seat)) (λ seat. is_live (moves_of (event ∷ before)) seat && not (has_drawn (event ∷ before) street seat)) (all_seats setup) (to_draw_still before event street))
    (none_still (λ seat. nat_lt 0 (replacements_owed before street seat)) (λ seat. nat_lt 0 (replacements_owed (event ∷ before) street seat)) (all_seats setup) (λ seat. none_below (replacements_owed before street seat) (replacements_owed (event ∷ before) street seat) (replaced_still before event street seat no_discard))) is

-- if no draw is due no replacement is owed
pub none_owed : (setup : Setup) (before : Past) (street seat : ℕ) → has_draw setup.code street ≡ true → is_draw_due setup before street ≡ false → 1 ≤ seat → seat ≤ setup.stacks.seats → replacements_owed before street seat ≡ 0
none_owed setup before street seat draws is least most =
    let inside : (is_some (next_to_draw setup before street) || list_any (λ seat. nat_lt 0 (replacements_owed before street seat)) (all_seats setup)) ≡ false = sym (ap (λ b. b && (is_some (next_to_draw setup before street) || list_any (λ seat. nat_lt 0 (replacements_owed before street seat)) (all_seats setup))) draws) ∙ is in
    let parts = or_parts (is_some (next_to_draw setup before street)) (list_any (λ seat. nat_lt 0 (replacements_owed before street seat)) (all_seats setup)) inside in
    omega (arith, ltb-false 0 (replacements_owed before street seat) (at_range (λ seat. nat_lt 0 (replacements_owed before street seat)) 1 setup.stacks.seats seat parts.1 least (omega (arith, most))))
