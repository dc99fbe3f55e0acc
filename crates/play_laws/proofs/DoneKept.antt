-- Legal events keep what is done in a legal past.
use Rattle.std.proofs.Common.{◌≡◌, ℕ, ◌-◌, ◌≤◌, ◌<◌, Bool, true, false, ◌&&◌, ◌||◌, ◌==◌, not, nat_lt, nat_le, inl, inr, ◌⊎◌, is_some, List, [], ◌∷◌, length, refl, sym, ◌∙◌, ap, arith, if◌then◌else◌}
use Rattle.std.specs.List.{list_any}
use Rattle.std.proofs.lemmas.Bool.{or_parts, and_parts, eq-eqb, eqb-true, cases_eq, cases_lt, cases_Bool, both_ways, lt-ltb, le-ltb, ltb-false, leb-false, lt-leb, false_from_ne_true, not-true, not-false, or_left, or_right}
use Rattle.play_event.specs.declared.setup.Setup.{Setup}
use Rattle.play_event.specs.Games.{hole_cards_on, board_cards_on}
use Rattle.play_event.specs.Streets.{has_draw}
use Rattle.play_event.specs.Past.{Past, Resolved, Move, Dealt, Boarded, Moved, Discarded, Shown, Mucked, moves_of, newest_street, street_of, is_folding, moves_before}
use Rattle.play_event.specs.Seats.{is_live, all_seats, live_count}
use Rattle.play_event.specs.Dealing.{is_deal_due, is_draw_due, hole_cards_dealt, board_cards_dealt, hole_cards_owed, board_cards_owed, cards_owed, replacements_owed, has_drawn, next_to_draw}
use Rattle.card_set.proofs.Tests.{false_true}
use Rattle.play_laws.specs.PastLaws.{AreReached, has_move, PastLaw, DoneLaw, is_played_on}
use Rattle.play_laws.proofs.DueAtEvents.{Reaches, IsNotDue, not_due}
use Rattle.play_laws.proofs.LegalEvents.{Stepped, deals, boards, moves, discards, shows, mucks}
use Rattle.card_set.proofs.NumbersOfRange.{at_range, find_none}
use Rattle.play_event.proofs.StillAble.{still_live}
use Rattle.card_set.proofs.Counting.{counts_fewer}

-- an event takes place on the street of the turn
pub on_street : (setup : Setup) (before : Past) (at : ℕ) (event : Resolved) → Stepped setup before at event → street_of event ≡ at
on_street setup before at _ (deals seat cards due is some few free) = refl
on_street setup before at _ (boards cards due some few free) = refl
on_street setup before at _ (moves move no_deal no_draw on) = on
on_street setup before at _ (discards seat cards no_deal draw next few free held) = refl
on_street setup before at _ (shows seat cards may free) = refl
on_street setup before at _ (mucks seat may) = refl

-- moves before a street are the same if the event is on it or later
pub before_same : (event : Resolved) (before : Past) (street : ℕ) → street ≤ street_of event → moves_before street (moves_of (event ∷ before)) ≡ moves_before street (moves_of before)
before_same (Moved move) before street on = ap (λ b. if b then (move ∷ moves_before street (moves_of before)) else moves_before street (moves_of before)) (le-ltb move.street street on)
before_same (Dealt owner seat cards) before street on = refl
before_same (Boarded owner cards) before street on = refl
before_same (Discarded owner seat cards) before street on = refl
before_same (Shown owner seat cards) before street on = refl
before_same (Mucked owner seat) before street on = refl

-- all moves are before a later street
pub all_early : (newest street : ℕ) (list : List Move) → AreReached newest list → newest < street → moves_before street list ≡ list
all_early newest street [] reached on = refl
all_early newest street (move ∷ rest) reached on =
    ap (λ b. if b then (move ∷ moves_before street rest) else moves_before street rest) (lt-ltb move.street street (omega (arith, reached.0, on)))
    ∙ ap (λ l. move ∷ l) (all_early newest street rest reached.1 on)

-- nothing is due before the street of the turn
pub none_before : (setup : Setup) (before : Past) (at street : ℕ) → DoneLaw setup before → Reaches setup before at → 1 ≤ street → street < at → IsNotDue setup before street
none_before setup before at street law come some less = elim (cases_lt street (newest_street before)) [
  | inl early ↦ let it = law.earlier street some early in record { no_deal = it.0; no_draw = it.1.0; no_bring = it.1.1.0; no_move = it.1.1.1 }
  | inr late ↦ not_due setup before street (come.quiet street late less)
]

-- a seat that is live was live before a street
pub live_before : (list : List Move) (street seat : ℕ) → is_live list seat ≡ true → is_live (moves_before street list) seat ≡ true
live_before [] street seat is = refl
live_before (move ∷ rest) street seat is = by_street (nat_lt move.street street) (live_before rest street seat (still_live move rest seat is))
  where
    by_street : (b : Bool) → is_live (moves_before street rest) seat ≡ true → is_live (if b then (move ∷ moves_before street rest) else moves_before street rest) seat ≡ true
    by_street true later = more (is_folding move.act && (move.seat == seat)) (list_any (λ (move : Move). is_folding move.act && (move.seat == seat)) rest) (list_any (λ (move : Move). is_folding move.act && (move.seat == seat)) (moves_before street rest)) is later
      where
        more : (f all some : Bool) → not (f || all) ≡ true → not some ≡ true → not (f || some) ≡ true
        more true all some one two = one
        more false all some one two = two
    by_street false later = later

-- a seat that was live before a street, and is not now, folded there or later
pub late_fold : (newest street seat : ℕ) (list : List Move) → AreReached newest list → is_live (moves_before street list) seat ≡ true → is_live list seat ≡ false → (street < newest) ⊎ (has_move street list ≡ true)
late_fold newest street seat [] reached live folded = false_true (sym folded)
late_fold newest street seat (move ∷ rest) reached live folded = elim (cases_lt move.street street) [
  | inl early ↦
      let first : is_live (move ∷ moves_before street rest) seat ≡ true = sym (ap (λ b. is_live (if b then (move ∷ moves_before street rest) else moves_before street rest) seat) (lt-ltb move.street street early)) ∙ live in
      let none : (is_folding move.act && (move.seat == seat)) ≡ false = (or_parts (is_folding move.act && (move.seat == seat)) (list_any (λ (move : Move). is_folding move.act && (move.seat == seat)) (moves_before street rest)) (not-true (list_any (λ (move : Move). is_folding move.act && (move.seat == seat)) (move ∷ moves_before street rest)) first)).0 in
      let rest_folded : is_live rest seat ≡ false = sym (ap (λ b. not (b || list_any (λ (move : Move). is_folding move.act && (move.seat == seat)) rest)) none) ∙ folded in
      elim (late_fold newest street seat rest reached.1 (still_live move (moves_before street rest) seat first) rest_folded) [
        | inl less ↦ inl less
        | inr has ↦ inr (or_right (move.street == street) (has_move street rest) has)
      ]
  | inr late ↦ elim (cases_lt street move.street) [
    | inl less ↦ inl (omega (arith, less, reached.0))
    | inr same ↦ inr (or_left (move.street == street) (has_move street rest) (eq-eqb move.street street (omega (arith, late, same))))
  ]
]

-- a seat that was live when a street began is live, or the street's deal and draw are done
done_by_past : (setup : Setup) (before : Past) (street seat : ℕ) → PastLaw setup before → DoneLaw setup before → 1 ≤ street → is_live (moves_before street (moves_of before)) seat ≡ true → is_live (moves_of before) seat ≡ false → (is_deal_due setup before street ≡ false) × (is_draw_due setup before street ≡ false)
done_by_past setup before street seat past law some live folded = elim (late_fold (newest_street before) street seat (moves_of before) past.moved live folded) [
  | inl early ↦ let it = law.earlier street some early in (it.0, it.1.0)
  | inr has ↦ past.moved_done street has
]

-- a legal event keeps what is done, or its seat is live
pub done_or_live : (setup : Setup) (before : Past) (at street seat : ℕ) (event : Resolved) → PastLaw setup before → DoneLaw setup before → Reaches setup before at → Stepped setup before at event → 1 ≤ street → is_live (moves_before street (moves_of (event ∷ before))) seat ≡ true → (is_live (moves_of (event ∷ before)) seat ≡ true) ⊎ ((is_deal_due setup before street ≡ false) × (is_draw_due setup before street ≡ false))
done_or_live setup before at street seat _ past law come (deals owner cards due is few more free) some live = elim (cases_Bool (is_live (moves_of before) seat)) [ inl so ↦ inl so | inr folded ↦ inr (done_by_past setup before street seat past law some live folded) ]
done_or_live setup before at street seat _ past law come (boards cards due few more free) some live = elim (cases_Bool (is_live (moves_of before) seat)) [ inl so ↦ inl so | inr folded ↦ inr (done_by_past setup before street seat past law some live folded) ]
done_or_live setup before at street seat _ past law come (discards owner cards no_deal draw next few free held) some live = elim (cases_Bool (is_live (moves_of before) seat)) [ inl so ↦ inl so | inr folded ↦ inr (done_by_past setup before street seat past law some live folded) ]
done_or_live setup before at street seat _ past law come (shows owner cards may free) some live = elim (cases_Bool (is_live (moves_of before) seat)) [ inl so ↦ inl so | inr folded ↦ inr (done_by_past setup before street seat past law some live folded) ]
done_or_live setup before at street seat _ past law come (mucks owner may) some live = elim (cases_Bool (is_live (moves_of before) seat)) [ inl so ↦ inl so | inr folded ↦ inr (done_by_past setup before street seat past law some live folded) ]
done_or_live setup before at street seat _ past law come (moves move no_deal no_draw on) some live = elim (cases_Bool (is_live (move ∷ moves_of before) seat)) [
  | inl so ↦ inl so
  | inr folded ↦ elim (cases_lt street at) [
    | inl less ↦ let it = none_before setup before at street law come some less in inr (it.no_deal, it.no_draw)
    | inr more ↦ elim (cases_eq street at) [
      | inl same ↦ inr (ap (is_deal_due setup before) same ∙ no_deal, ap (is_draw_due setup before) same ∙ no_draw)
      | inr differ ↦
          let early : move.street < street = late_street more differ in
          let was : is_live (move ∷ moves_of before) seat ≡ true = ap (λ l. is_live l seat) (sym (all_early move.street street (move ∷ moves_of before) (omega arith, reached (moves_of before) past.moved) early)) ∙ live in
          absurd (both_ways (is_live (move ∷ moves_of before) seat) folded was)
    ]
  ]
]
  where
    late_street : at ≤ street → (street ≡ at → ⊥) → move.street < street
    late_street more differ = elim (cases_lt at street) [ inl less ↦ omega (arith, less, on) | inr same ↦ absurd (differ (omega (arith, same, more))) ]

    reached : (list : List Move) → AreReached (newest_street before) list → AreReached move.street list
    reached [] all = tt
    reached (first ∷ rest) all = (omega (arith, all.0, come.on, on), reached rest all.1)

-- if no deal is due each live seat has its cards of the street
pub live_dealt : (setup : Setup) (before : Past) (street seat : ℕ) → is_deal_due setup before street ≡ false → is_live (moves_of before) seat ≡ true → 1 ≤ seat → seat ≤ setup.stacks.seats → hole_cards_on setup.code street ≤ hole_cards_dealt before street seat
live_dealt setup before street seat is live least most =
    let parts = or_parts (list_any (λ seat. nat_lt 0 (hole_cards_owed setup before street seat)) (all_seats setup)) (nat_lt 0 (board_cards_owed setup before street)) is in
    let none : hole_cards_owed setup before street seat ≤ 0 = ltb-false 0 (hole_cards_owed setup before street seat) (at_range (λ seat. nat_lt 0 (hole_cards_owed setup before street seat)) 1 setup.stacks.seats seat parts.0 least (omega (arith, most))) in
    omega (arith, none, ap (λ b. if b then hole_cards_on setup.code street - hole_cards_dealt before street seat else 0) live)

-- if no draw is due each live seat has drawn
pub live_drawn : (setup : Setup) (before : Past) (street seat : ℕ) → has_draw setup.code street ≡ true → is_draw_due setup before street ≡ false → is_live (moves_of before) seat ≡ true → 1 ≤ seat → seat ≤ setup.stacks.seats → has_drawn before street seat ≡ true
live_drawn setup before street seat draws_there is live least most =
    let inside : (is_some (next_to_draw setup before street) || list_any (λ seat. nat_lt 0 (replacements_owed before street seat)) (all_seats setup)) ≡ false = sym (ap (λ b. b && (is_some (next_to_draw setup before street) || list_any (λ seat. nat_lt 0 (replacements_owed before street seat)) (all_seats setup))) draws_there) ∙ is in
    let none = find_none (λ seat. is_live (moves_of before) seat && not (has_drawn before street seat)) 1 setup.stacks.seats seat (or_parts (is_some (next_to_draw setup before street)) (list_any (λ seat. nat_lt 0 (replacements_owed before street seat)) (all_seats setup)) inside).0 least (omega (arith, most)) in
    not-false (has_drawn before street seat) (sym (ap (λ b. b && not (has_drawn before street seat)) live) ∙ none)

-- the cards dealt do not become fewer, and a seat that drew has drawn
pub dealt_more : (before : Past) (event : Resolved) (street seat : ℕ) → hole_cards_dealt before street seat ≤ hole_cards_dealt (event ∷ before) street seat
dealt_more before (Dealt on owner cards) street seat = omega arith
dealt_more before (Boarded on cards) street seat = omega arith
dealt_more before (Moved move) street seat = omega arith
dealt_more before (Discarded on owner cards) street seat = omega arith
dealt_more before (Shown on owner cards) street seat = omega arith
dealt_more before (Mucked on owner) street seat = omega arith

-- a seat that has drawn has still drawn later
pub drawn_still : (before : Past) (event : Resolved) (street seat : ℕ) → has_drawn before street seat ≡ true → has_drawn (event ∷ before) street seat ≡ true
drawn_still before (Discarded on owner cards) street seat is = or_right ((on == street) && (owner == seat)) (has_drawn before street seat) is
drawn_still before (Dealt on owner cards) street seat is = is
drawn_still before (Boarded on cards) street seat is = is
drawn_still before (Moved move) street seat is = is
drawn_still before (Shown on owner cards) street seat is = is
drawn_still before (Mucked on owner) street seat is = is

-- a seat that is live before a street with one more event was live before it
pub is_live_at_start : (event : Resolved) (before : Past) (street seat : ℕ) → is_live (moves_before street (moves_of (event ∷ before))) seat ≡ true → is_live (moves_before street (moves_of before)) seat ≡ true
is_live_at_start (Dealt on owner cards) before street seat is = is
is_live_at_start (Boarded on cards) before street seat is = is
is_live_at_start (Discarded on owner cards) before street seat is = is
is_live_at_start (Shown on owner cards) before street seat is = is
is_live_at_start (Mucked on owner) before street seat is = is
is_live_at_start (Moved move) before street seat is = by_street (nat_lt move.street street) is
  where
    by_street : (b : Bool) → is_live (if b then (move ∷ moves_before street (moves_of before)) else moves_before street (moves_of before)) seat ≡ true → is_live (moves_before street (moves_of before)) seat ≡ true
    by_street true it = still_live move (moves_before street (moves_of before)) seat it
    by_street false it = it

-- at most what the street deals
pub most_dealt : (setup : Setup) (before : Past) (at : ℕ) (event : Resolved) → Stepped setup before at event → ((street seat : ℕ) → has_draw setup.code street ≡ false → hole_cards_dealt before street seat ≤ hole_cards_on setup.code street) → (street seat : ℕ) → has_draw setup.code street ≡ false → hole_cards_dealt (event ∷ before) street seat ≤ hole_cards_on setup.code street
most_dealt setup before at _ (boards cards due some few free) law street seat no_draw = law street seat no_draw
most_dealt setup before at _ (moves move no_deal none on) law street seat no_draw = law street seat no_draw
most_dealt setup before at _ (discards owner cards no_deal draw next few free held) law street seat no_draw = law street seat no_draw
most_dealt setup before at _ (shows owner cards may free) law street seat no_draw = law street seat no_draw
most_dealt setup before at _ (mucks owner may) law street seat no_draw = law street seat no_draw
most_dealt setup before at _ (deals owner cards due is some few free) law street seat no_draw = elim (cases_Bool ((at == street) && (owner == seat))) [
  | inr never ↦ omega (arith, ap (λ b. if b then length cards else 0) never, law street seat no_draw)
  | inl here ↦
      let parts = and_parts (at == street) (owner == seat) here in
      let same : cards_owed setup before at owner ≡ cards_owed setup before street seat = ap (λ a. cards_owed setup before a owner) (eqb-true at street parts.0) ∙ ap (cards_owed setup before street) (eqb-true owner seat parts.1) in
      let owed : cards_owed setup before street seat ≡ hole_cards_owed setup before street seat = ap (λ b. if b then replacements_owed before street seat else hole_cards_owed setup before street seat) no_draw in
      omega (arith, ap (λ b. if b then length cards else 0) here, some, few, same, owed, at_most (is_live (moves_of before) seat) (hole_cards_on setup.code street - hole_cards_dealt before street seat))
]
  where
    at_most : (b : Bool) (n : ℕ) → (if b then n else 0) ≤ n
    at_most true n = omega arith
    at_most false n = omega arith

-- no legal event deals more to the board than the street has
pub most_board : (setup : Setup) (before : Past) (at : ℕ) (event : Resolved) → Stepped setup before at event → ((street : ℕ) → board_cards_dealt before street ≤ board_cards_on setup.code street) → (street : ℕ) → board_cards_dealt (event ∷ before) street ≤ board_cards_on setup.code street
most_board setup before at _ (deals owner cards due is some few free) law street = law street
most_board setup before at _ (moves move no_deal none on) law street = law street
most_board setup before at _ (discards owner cards no_deal draw next few free held) law street = law street
most_board setup before at _ (shows owner cards may free) law street = law street
most_board setup before at _ (mucks owner may) law street = law street
most_board setup before at _ (boards cards due some few free) law street = elim (cases_Bool (at == street)) [
  | inr never ↦ omega (arith, ap (λ b. if b then length cards else 0) never, law street)
  | inl here ↦ omega (arith, ap (λ b. if b then length cards else 0) here, some, few, ap (λ a. board_cards_owed setup before a) (eqb-true at street here))
]

-- an event other than a show is played with two or more live seats
pub played_several : (setup : Setup) (before : Past) (at street : ℕ) (event : Resolved) → Stepped setup before at event → (nat_le (live_count setup (moves_of before)) 1 ≡ true → is_played_on street event ≡ true → ⊥) → is_played_on street event ≡ true → nat_le (live_count setup (moves_before street (moves_of before))) 1 ≡ false
played_several setup before at street event step never plays =
    lt-leb (live_count setup (moves_before street (moves_of before))) 1 (omega (arith, more, counts_fewer (is_live (moves_of before)) (is_live (moves_before street (moves_of before))) (live_before (moves_of before) street) (all_seats setup)))
  where
    more : 1 < live_count setup (moves_of before)
    more = leb-false (live_count setup (moves_of before)) 1 (false_from_ne_true (nat_le (live_count setup (moves_of before)) 1) (λ one. never one plays))
