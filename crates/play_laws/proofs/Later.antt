-- On a street that is later than every event of a past, nothing was dealt, drawn or moved.
use Rattle.std.proofs.Common.{◌≡◌, ℕ, ◌<◌, ◌≤◌, true, false, ◌&&◌, ◌||◌, ◌==◌, nat_le, cond, List, [], ◌∷◌, length, refl, ap, ◌∙◌, arith}
use Rattle.std.proofs.lemmas.Bool.{and_left, and_parts, and_from, leb-true, le-leb, ne_eqb}
use Rattle.play_event.specs.Dealing.{hole_cards_dealt, board_cards_dealt, has_drawn, is_draw_of}
use Rattle.play_event.specs.Past.{Past, Move, Resolved, Dealt, Boarded, Moved, Discarded, Shown, Mucked, moves_of, moves_on, street_of, newest_street}
use Rattle.play_laws.specs.Walk.{has_nothing_later, has_no_move_later}
use Rattle.card_set.proofs.Tests.{none_added}

other_street : (on street later : ℕ) → nat_le on street ≡ true → street < later → (on == later) ≡ false
other_street on street later early less = ne_eqb on later (λ same. omega (arith, same, leb-true on street early, less))

-- the newest event is not later, and neither is one before it
pub newest_early : (event : Resolved) (before : Past) (street : ℕ) → has_nothing_later (event ∷ before) street ≡ true → (nat_le (street_of event) street ≡ true) × (has_nothing_later before street ≡ true)
newest_early event before street early = and_parts (nat_le (street_of event) street) (has_nothing_later before street) early

-- the same holds with a later bound
pub early_up : (past : Past) (street later : ℕ) → street ≤ later → has_nothing_later past street ≡ true → has_nothing_later past later ≡ true
early_up [] street later up early = refl
early_up (event ∷ before) street later up early =
    let parts = newest_early event before street early in
    let least = leb-true (street_of event) street parts.0 in
    and_from (nat_le (street_of event) later) (has_nothing_later before later) (le-leb (street_of event) later (omega (arith, least, up))) (early_up before street later up parts.1)

pub none_dealt : (past : Past) (street later seat : ℕ) → has_nothing_later past street ≡ true → street < later → hole_cards_dealt past later seat ≡ 0
none_dealt [] street later seat early less = refl
none_dealt (Dealt on owner cards ∷ before) street later seat early less =
    let parts = newest_early (Dealt on owner cards) before street early in
    none_added ((on == later) && (owner == seat)) (length cards) (hole_cards_dealt before later seat) (and_left (on == later) (owner == seat) (other_street on street later parts.0 less)) (none_dealt before street later seat parts.1 less)
none_dealt (Boarded on cards ∷ before) street later seat early less = none_dealt before street later seat (newest_early (Boarded on cards) before street early).1 less
none_dealt (Moved move ∷ before) street later seat early less = none_dealt before street later seat (newest_early (Moved move) before street early).1 less
none_dealt (Discarded on owner cards ∷ before) street later seat early less = none_dealt before street later seat (newest_early (Discarded on owner cards) before street early).1 less
none_dealt (Shown on owner cards ∷ before) street later seat early less = none_dealt before street later seat (newest_early (Shown on owner cards) before street early).1 less
none_dealt (Mucked on owner ∷ before) street later seat early less = none_dealt before street later seat (newest_early (Mucked on owner) before street early).1 less

pub none_boarded : (past : Past) (street later : ℕ) → has_nothing_later past street ≡ true → street < later → board_cards_dealt past later ≡ 0
none_boarded [] street later early less = refl
none_boarded (Boarded on cards ∷ before) street later early less =
    let parts = newest_early (Boarded on cards) before street early in
    none_added (on == later) (length cards) (board_cards_dealt before later) (other_street on street later parts.0 less) (none_boarded before street later parts.1 less)
none_boarded (Dealt on owner cards ∷ before) street later early less = none_boarded before street later (newest_early (Dealt on owner cards) before street early).1 less
none_boarded (Moved move ∷ before) street later early less = none_boarded before street later (newest_early (Moved move) before street early).1 less
none_boarded (Discarded on owner cards ∷ before) street later early less = none_boarded before street later (newest_early (Discarded on owner cards) before street early).1 less
none_boarded (Shown on owner cards ∷ before) street later early less = none_boarded before street later (newest_early (Shown on owner cards) before street early).1 less
none_boarded (Mucked on owner ∷ before) street later early less = none_boarded before street later (newest_early (Mucked on owner) before street early).1 less

no_draw_of : (event : Resolved) (street later seat : ℕ) → nat_le (street_of event) street ≡ true → street < later → is_draw_of later seat event ≡ false
no_draw_of (Discarded on owner cards) street later seat early less = and_left (on == later) (owner == seat) (other_street on street later early less)
no_draw_of (Dealt on owner cards) street later seat early less = refl
no_draw_of (Boarded on cards) street later seat early less = refl
no_draw_of (Moved move) street later seat early less = refl
no_draw_of (Shown on owner cards) street later seat early less = refl
no_draw_of (Mucked on owner) street later seat early less = refl

pub none_drawn : (past : Past) (street later seat : ℕ) → has_nothing_later past street ≡ true → street < later → has_drawn past later seat ≡ false
none_drawn [] street later seat early less = refl
none_drawn (event ∷ before) street later seat early less =
    let parts = newest_early event before street early in
    ap (λ d. d || has_drawn before later seat) (no_draw_of event street later seat parts.0 less) ∙ none_drawn before street later seat parts.1 less

pub early_moves : (past : Past) (street : ℕ) → has_nothing_later past street ≡ true → has_no_move_later (moves_of past) street ≡ true
early_moves [] street early = refl
early_moves (Moved move ∷ before) street early =
    let parts = newest_early (Moved move) before street early in
    and_from (nat_le move.street street) (has_no_move_later (moves_of before) street) parts.0 (early_moves before street parts.1)
early_moves (Dealt on owner cards ∷ before) street early = early_moves before street (newest_early (Dealt on owner cards) before street early).1
early_moves (Boarded on cards ∷ before) street early = early_moves before street (newest_early (Boarded on cards) before street early).1
early_moves (Discarded on owner cards ∷ before) street early = early_moves before street (newest_early (Discarded on owner cards) before street early).1
early_moves (Shown on owner cards ∷ before) street early = early_moves before street (newest_early (Shown on owner cards) before street early).1
early_moves (Mucked on owner ∷ before) street early = early_moves before street (newest_early (Mucked on owner) before street early).1

-- the newest move is not of a later street
pub newest_other : (move : Move) (before : List Move) (street later : ℕ) → has_no_move_later (move ∷ before) street ≡ true → street < later → ((move.street == later) ≡ false) × (has_no_move_later before street ≡ true)
newest_other move before street later early less =
    let parts = and_parts (nat_le move.street street) (has_no_move_later before street) early in
    (other_street move.street street later parts.0 less, parts.1)

pub none_on : (moves : List Move) (street later : ℕ) → has_no_move_later moves street ≡ true → street < later → moves_on later moves ≡ []
none_on [] street later early less = refl
none_on (move ∷ before) street later early less =
    let parts = newest_other move before street later early less in
    ap (λ b. cond b (move ∷ moves_on later before) (moves_on later before)) parts.0 ∙ none_on before street later parts.1 less

pub reached_by : (past : Past) (street : ℕ) → 1 ≤ street → has_nothing_later past street ≡ true → newest_street past ≤ street
reached_by [] street low early = low
reached_by (event ∷ before) street low early = leb-true (street_of event) street (and_parts (nat_le (street_of event) street) (has_nothing_later before street) early).0
