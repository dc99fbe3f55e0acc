-- Betting that is closed on a street stays closed under moves of other streets.
use Rattle.std.proofs.Common.{◌≡◌, ◌≢◌, ℕ, ◌+◌, ◌-◌, ◌≤◌, Bool, true, false, ◌&&◌, ◌||◌, ◌==◌, not, nat_lt, nat_le, inl, inr, List, ◌∷◌, map, refl, sym, ◌∙◌, ap, if◌then◌else◌}
use Rattle.std.specs.List.{list_any}
use Rattle.std.proofs.lemmas.Bool.{and_parts, and_from, and_right, ne_eqb, false_from_ne_true, both_ways, or_left, or_cases, or_right}
use Rattle.play_event.specs.declared.setup.Setup.{Setup}
use Rattle.play_event.specs.Streets.{is_stud_game}
use Rattle.play_event.specs.Past.{Past, Resolved, Move, Dealt, Boarded, Moved, Discarded, Shown, Mucked, moves_of, moves_on, street_of}
use Rattle.play_event.specs.Chips.{chips_added, brought}
use Rattle.play_event.specs.Seats.{can_act, all_seats, able_count}
use Rattle.play_event.specs.CurrentBet.{current_bet, to_call}
use Rattle.chip_ledger.specs.Greatest.{greatest}
use Rattle.play_event.specs.Due.{has_to_move, has_acted_since_raise, is_move_due, is_bring_in_due, has_opened_betting}
use Rattle.card_set.proofs.Tests.{and_group, false_true}
use Rattle.play_laws.proofs.DueAtEvents.{IsNotDue}
use Rattle.play_laws.proofs.SettledStreets.{deal_still, draw_still, is_discard_on}
use Rattle.card_set.proofs.Any.{none_still}
use Rattle.play_event.proofs.StillAble.{able_still}
use Rattle.card_set.proofs.Counting.{counts_fewer}
use Rattle.card_set.proofs.Numbers.{two_still}

-- no move increases the number of seats that can act
pub able_fewer : (setup : Setup) (move : Move) (moves : List Move) → able_count setup (move ∷ moves) ≤ able_count setup moves
able_fewer setup move moves = counts_fewer (can_act setup (move ∷ moves)) (can_act setup moves) (able_still setup move moves) (all_seats setup)

-- the street's moves are the same
pub other_moves : (move : Move) (moves : List Move) (street : ℕ) → move.street ≢ street → moves_on street (move ∷ moves) ≡ moves_on street moves
other_moves move moves street differ = ap (λ b. if b then (move ∷ moves_on street moves) else moves_on street moves) (ne_eqb move.street street differ)

-- what is owed on a street is changed only by moves of that street
pub owed_same : (setup : Setup) (move : Move) (moves : List Move) (street seat : ℕ) → move.street ≢ street → to_call setup (move ∷ moves) street seat ≡ to_call setup moves street seat
owed_same setup move moves street seat differ =
    ap (λ l. greatest (map (λ other. brought setup street other + chips_added other l) (all_seats setup)) - (brought setup street seat + chips_added seat l)) (other_moves move moves street differ)

moved_same : (setup : Setup) (move : Move) (moves : List Move) (street seat : ℕ) → move.street ≢ street → has_acted_since_raise setup (move ∷ moves) street seat ≡ has_acted_since_raise setup moves street seat
moved_same setup move moves street seat differ =
    ap (λ b. if b then ((move.seat == seat) || (nat_le move.to (current_bet setup moves street) && has_acted_since_raise setup moves street seat)) else has_acted_since_raise setup moves street seat) (ne_eqb move.street street differ)

has_to_by : (able before_able moved : Bool) (owes : ℕ) (less more : ℕ) → (able ≡ true → before_able ≡ true) → less ≤ more → (able && (if moved then false else (nat_lt 0 owes || nat_le 2 less))) ≡ true → (before_able && (if moved then false else (nat_lt 0 owes || nat_le 2 more))) ≡ true
has_to_by false before_able moved owes less more both on is = false_true is
has_to_by true before_able true owes less more both on is = false_true is
has_to_by true before_able false owes less more both on is =
    and_from before_able (nat_lt 0 owes || nat_le 2 more) (both refl) (elim (or_cases (nat_lt 0 owes) (nat_le 2 less) is) [
      | inl some ↦ or_left (nat_lt 0 owes) (nat_le 2 more) some
      | inr two ↦ or_right (nat_lt 0 owes) (nat_le 2 more) (two_still less more on two)
    ])

-- a seat that has to move on a street after a move of another street had to before it
pub has_to_still : (setup : Setup) (move : Move) (moves : List Move) (street seat : ℕ) → move.street ≢ street → has_to_move setup (move ∷ moves) street seat ≡ true → has_to_move setup moves street seat ≡ true
has_to_still setup move moves street seat differ is =
    has_to_by (can_act setup (move ∷ moves) seat) (can_act setup moves seat) (has_acted_since_raise setup moves street seat) (to_call setup moves street seat) (able_count setup (move ∷ moves)) (able_count setup moves) (able_still setup move moves seat) (able_fewer setup move moves)
    (sym (ap (λ b. can_act setup (move ∷ moves) seat && (if b then false else (nat_lt 0 (to_call setup (move ∷ moves) street seat) || nat_le 2 (able_count setup (move ∷ moves))))) (moved_same setup move moves street seat differ)
    ∙ ap (λ o. can_act setup (move ∷ moves) seat && (if has_acted_since_raise setup moves street seat then false else (nat_lt 0 o || nat_le 2 (able_count setup (move ∷ moves))))) (owed_same setup move moves street seat differ)) ∙ is)

-- betting that is closed on a street is not opened by a move of another one
pub move_still : (setup : Setup) (move : Move) (moves : List Move) (street : ℕ) → move.street ≢ street → is_move_due setup moves street ≡ false → is_move_due setup (move ∷ moves) street ≡ false
move_still setup move moves street differ is =
    none_still (has_to_move setup moves street) (has_to_move setup (move ∷ moves) street) (all_seats setup)
    (λ seat none. false_from_ne_true (has_to_move setup (move ∷ moves) street seat) (λ now. both_ways (has_to_move setup moves street seat) none (has_to_still setup move moves street seat differ now))) is

bring_by : (first opened : Bool) (less more : ℕ) → less ≤ more → (first && (nat_le 2 more && not opened)) ≡ false → (first && (nat_le 2 less && not opened)) ≡ false
bring_by false opened less more on is = refl
bring_by true true less more on is = and_right (nat_le 2 less) false refl
bring_by true false less more on is = false_from_ne_true (nat_le 2 less && true) (λ now. both_ways (nat_le 2 more && true) is (and_from (nat_le 2 more) true (two_still less more on (and_parts (nat_le 2 less) true now).0) refl))

-- a bring-in that is not due on a street does not come due by a move of another one
pub bring_still : (setup : Setup) (move : Move) (moves : List Move) (street : ℕ) → move.street ≢ street → is_bring_in_due setup moves street ≡ false → is_bring_in_due setup (move ∷ moves) street ≡ false
bring_still setup move moves street differ is =
    ap (λ l. is_stud_game setup.code && (street == 1) && nat_le 2 (able_count setup (move ∷ moves)) && not (list_any (λ (move : Move). has_opened_betting move.act) l)) (other_moves move moves street differ)
    ∙ and_group (is_stud_game setup.code) (street == 1) (nat_le 2 (able_count setup (move ∷ moves))) (not (list_any (λ (move : Move). has_opened_betting move.act) (moves_on street moves)))
    ∙ bring_by (is_stud_game setup.code && (street == 1)) (list_any (λ (move : Move). has_opened_betting move.act) (moves_on street moves)) (able_count setup (move ∷ moves)) (able_count setup moves) (able_fewer setup move moves)
    (sym (and_group (is_stud_game setup.code) (street == 1) (nat_le 2 (able_count setup moves)) (not (list_any (λ (move : Move). has_opened_betting move.act) (moves_on street moves)))) ∙ is)

-- nothing comes due on a street by an event of another
no_discard : (event : Resolved) (street : ℕ) → street_of event ≢ street → is_discard_on street event ≡ false
no_discard (Discarded on owner cards) street differ = ne_eqb on street differ
no_discard (Dealt on owner cards) street differ = refl
no_discard (Boarded on cards) street differ = refl
no_discard (Moved move) street differ = refl
no_discard (Shown on owner cards) street differ = refl
no_discard (Mucked on owner) street differ = refl

bets_still : (setup : Setup) (before : Past) (event : Resolved) (street : ℕ) → street_of event ≢ street → is_bring_in_due setup (moves_of before) street ≡ false → is_move_due setup (moves_of before) street ≡ false → (is_bring_in_due setup (moves_of (event ∷ before)) street ≡ false) × (is_move_due setup (moves_of (event ∷ before)) street ≡ false)
bets_still setup before (Moved move) street differ bring move_none = (bring_still setup move (moves_of before) street differ bring, move_still setup move (moves_of before) street differ move_none)
bets_still setup before (Dealt on owner cards) street differ bring move_none = (bring, move_none)
bets_still setup before (Boarded on cards) street differ bring move_none = (bring, move_none)
bets_still setup before (Discarded on owner cards) street differ bring move_none = (bring, move_none)
bets_still setup before (Shown on owner cards) street differ bring move_none = (bring, move_none)
bets_still setup before (Mucked on owner) street differ bring move_none = (bring, move_none)

-- what is not due on a street does not come due by an event of another one
pub not_due_still : (setup : Setup) (before : Past) (event : Resolved) (street : ℕ) → street_of event ≢ street → IsNotDue setup before street → IsNotDue setup (event ∷ before) street
not_due_still setup before event street differ none =
    let bets = bets_still setup before event street differ none.no_bring none.no_move in
    record {
      no_deal = deal_still setup before event street none.no_deal;
      no_draw = draw_still setup before event street (no_discard event street differ) none.no_draw;
      no_bring = bets.0;
      no_move = bets.1;
    }
