-- What events of cards leave due.
use Rattle.std.proofs.Common.{◌≡◌, ℕ, suc, ◌+◌, ◌-◌, ◌<◌, ◌≤◌, Bool, true, false, ◌&&◌, ◌||◌, not, nat_lt, nat_le, if◌then◌else◌, inl, inr, List, ◌∷◌, Option, Some, None, refl, sym, ap, ◌∙◌, arith}
use Rattle.std.proofs.lemmas.Bool.{or_parts, or_from, cases_lt, ltb-true, lt-ltb, true≢false}
use Rattle.std.specs.List.{list_any}
use Rattle.std.specs.Option.{option_map}
use Rattle.card_set.proofs.Any.{none_passes}
use Rattle.card_set.proofs.Finding.{none_stronger}
use Rattle.card_set.proofs.Options.{some_is_none}
use Rattle.play_event.specs.Dealing.{is_deal_due, hole_cards_owed, board_cards_owed, hole_cards_dealt, board_cards_dealt}
use Rattle.play_event.specs.Due.{turn, first_due, found_or}
use Rattle.play_event.specs.Games.{street_count, hole_cards_on, board_cards_on}
use Rattle.play_event.specs.Past.{Past, Move, Resolved, Dealt, Boarded, Moved, Discarded, Shown, Mucked, moves_of}
use Rattle.play_event.specs.Seats.{is_live, live_count, all_seats}
use Rattle.play_event.specs.Streets.{has_draw}
use Rattle.play_event.specs.declared.reason.Due.TheVariants as dues
use Rattle.play_event.specs.declared.reason.Due.{Due}
use Rattle.play_event.specs.declared.setup.Setup.{Setup}
use Rattle.play_laws.proofs.StreetTables.{each_street}
use Rattle.play_laws.proofs.TurnAfter.{due_by, few_is_over}
use Rattle.play_laws.specs.CardEvents.{is_card_event}

pub moves_kept : (event : Resolved) (past : Past) → is_card_event event ≡ true → moves_of (event ∷ past) ≡ moves_of past
moves_kept (Moved move) past card = absurd (true≢false (sym card))
moves_kept (Dealt street seat cards) past card = refl
moves_kept (Boarded street cards) past card = refl
moves_kept (Discarded street seat cards) past card = refl
moves_kept (Shown street seat cards) past card = refl
moves_kept (Mucked street seat) past card = refl

more_dealt : (event : Resolved) (past : Past) (street seat : ℕ) → hole_cards_dealt past street seat ≤ hole_cards_dealt (event ∷ past) street seat
more_dealt (Moved move) past street seat = omega arith
more_dealt (Dealt on owner cards) past street seat = omega arith
more_dealt (Boarded on cards) past street seat = omega arith
more_dealt (Discarded on owner cards) past street seat = omega arith
more_dealt (Shown on owner cards) past street seat = omega arith
more_dealt (Mucked on owner) past street seat = omega arith

more_boarded : (event : Resolved) (past : Past) (street : ℕ) → board_cards_dealt past street ≤ board_cards_dealt (event ∷ past) street
more_boarded (Moved move) past street = omega arith
more_boarded (Dealt on owner cards) past street = omega arith
more_boarded (Boarded on cards) past street = omega arith
more_boarded (Discarded on owner cards) past street = omega arith
more_boarded (Shown on owner cards) past street = omega arith
more_boarded (Mucked on owner) past street = omega arith

fewer_owed : (live : Bool) (on before after : ℕ) → before ≤ after → nat_lt 0 (if live then on - after else 0) ≡ true → nat_lt 0 (if live then on - before else 0) ≡ true
fewer_owed true on before after more is = lt-ltb 0 (on - before) (let some : 0 < on - after = ltb-true 0 (on - after) is in omega (arith, some, more))
fewer_owed false on before after more is = is

board_less : (on before after : ℕ) → before ≤ after → nat_lt 0 (on - before) ≡ false → nat_lt 0 (on - after) ≡ false
board_less on before after more none = none_by (nat_lt 0 (on - after)) refl
  where
    none_by : (b : Bool) → nat_lt 0 (on - after) ≡ b → nat_lt 0 (on - after) ≡ false
    none_by false is = is
    none_by true is = absurd (true≢false (sym (lt-ltb 0 (on - before) (let some : 0 < on - after = ltb-true 0 (on - after) is in omega (arith, some, more))) ∙ none))

-- events of cards do not make a deal due
pub dealt_more : (setup : Setup) (event : Resolved) (past : Past) (street : ℕ) → is_card_event event ≡ true → is_deal_due setup past street ≡ false → is_deal_due setup (event ∷ past) street ≡ false
dealt_more setup event past street card none =
    let owes : ℕ → Bool = λ seat. nat_lt 0 (hole_cards_owed setup past street seat) in
    let owes_after : ℕ → Bool = λ seat. nat_lt 0 (hole_cards_owed setup (event ∷ past) street seat) in
    let parts = or_parts (list_any owes (all_seats setup)) (nat_lt 0 (board_cards_owed setup past street)) none in
    or_from (list_any owes_after (all_seats setup)) (nat_lt 0 (board_cards_owed setup (event ∷ past) street))
    (none_stronger owes_after owes (λ seat is.
    fewer_owed (is_live (moves_of past) seat) (hole_cards_on setup.code street) (hole_cards_dealt past street seat) (hole_cards_dealt (event ∷ past) street seat) (more_dealt event past street seat)
    (sym (ap (λ (ms : List Move). nat_lt 0 (if is_live ms seat then hole_cards_on setup.code street - hole_cards_dealt (event ∷ past) street seat else 0)) (moves_kept event past card)) ∙ is)) (all_seats setup) parts.0)
    (board_less (board_cards_on setup.code street) (board_cards_dealt past street) (board_cards_dealt (event ∷ past) street) (more_boarded event past street) parts.1)

-- nothing is due on the streets if the walk finds nothing
none_at : (on : ℕ → Option Due) (rest street : ℕ) (here : Option Due) → on street ≡ here → (first_due on rest (street + 1) ≡ None → (between : ℕ) → street + 1 ≤ between → between < street + 1 + rest → on between ≡ None) → found_or (option_map (λ due. (street, due)) here) (first_due on rest (street + 1)) ≡ None → (between : ℕ) → street ≤ between → between < street + suc rest → on between ≡ None
none_at on rest street (Some due) is later nothing between low high = absurd (some_is_none nothing)
none_at on rest street None is later nothing between low high = elim (cases_lt street between) [
  | inl above ↦ later nothing between (omega (arith, above)) (omega (arith, high))
  | inr below ↦ let same : between ≡ street = omega (arith, below, low) in ap on same ∙ is
]

-- unless the hand is over, two or more seats are live
pub several_live : (setup : Setup) (past : Past) (street : ℕ) (due : Due) → turn setup past ≡ (street, due) → (due ≡ dues.Over → ⊥) → nat_le (live_count setup (moves_of past)) 1 ≡ false
several_live setup past street due is other = several_by (nat_le (live_count setup (moves_of past)) 1) refl
  where
    several_by : (few : Bool) → nat_le (live_count setup (moves_of past)) 1 ≡ few → nat_le (live_count setup (moves_of past)) 1 ≡ false
    several_by false few = few
    several_by true few = absurd (other (ap (λ (p : ℕ × Due). p.1) (sym is ∙ few_is_over setup past few)))

pub deal_by : (street on : ℕ) (deal draw bring_in move : Bool) → due_by street deal draw bring_in move ≡ Some (dues.Deal on) → (on ≡ street) × (deal ≡ true)
deal_by street on true draw bring_in move is = (cc, refl)
deal_by street on false true bring_in move is = absurd cc
deal_by street on false false true move is = absurd cc
deal_by street on false false false true is = absurd cc
deal_by street on false false false false is = absurd cc

pub draw_by : (street on : ℕ) (deal draw bring_in move : Bool) → due_by street deal draw bring_in move ≡ Some (dues.Draw on) → (on ≡ street) × (deal ≡ false) × (draw ≡ true)
draw_by street on true draw bring_in move is = absurd cc
draw_by street on false true bring_in move is = (cc, refl, refl)
draw_by street on false false true move is = absurd cc
draw_by street on false false false true is = absurd cc
draw_by street on false false false false is = absurd cc

none_left : (on dealt : ℕ) → nat_lt 0 on ≡ false → nat_lt 0 (on - dealt) ≡ false
none_left on dealt none = board_less on 0 dealt (omega arith) (ap (nat_lt 0) (let same : on - 0 ≡ on = omega arith in same) ∙ none)

none_owed_by : (live : Bool) (on dealt : ℕ) → nat_lt 0 on ≡ false → nat_lt 0 (if live then on - dealt else 0) ≡ false
none_owed_by true on dealt none = none_left on dealt none
none_owed_by false on dealt none = refl

-- a street that draws has no deal
pub none_dealt_in_draw : (setup : Setup) (past : Past) (street : ℕ) → 1 ≤ street → street ≤ street_count setup.code → is_deal_due setup past street ≡ true → has_draw setup.code street ≡ false
none_dealt_in_draw setup past street low high due = drawn_by (has_draw setup.code street) (nat_lt 0 (hole_cards_on setup.code street)) (nat_lt 0 (board_cards_on setup.code street)) refl refl refl (each_street setup.code street low high)
  where
    drawn_by : (draws hole board : Bool) → has_draw setup.code street ≡ draws → nat_lt 0 (hole_cards_on setup.code street) ≡ hole → nat_lt 0 (board_cards_on setup.code street) ≡ board → (if draws then not hole && not board else (hole || board)) ≡ true → has_draw setup.code street ≡ false
    drawn_by false hole board draws_is hole_is board_is fits = draws_is
    drawn_by true true board draws_is hole_is board_is fits = absurd (true≢false (sym fits))
    drawn_by true false true draws_is hole_is board_is fits = absurd (true≢false (sym fits))
    drawn_by true false false draws_is hole_is board_is fits = absurd (true≢false (sym due ∙ or_from (list_any (λ seat. nat_lt 0 (hole_cards_owed setup past street seat)) (all_seats setup)) (nat_lt 0 (board_cards_owed setup past street))
        (none_passes (λ seat. nat_lt 0 (hole_cards_owed setup past street seat)) (all_seats setup) (λ seat. none_owed_by (is_live (moves_of past) seat) (hole_cards_on setup.code street) (hole_cards_dealt past street seat) hole_is))
        (none_left (board_cards_on setup.code street) (board_cards_dealt past street) board_is)))
