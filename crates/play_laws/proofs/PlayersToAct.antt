-- If a bring-in or a move is due, it is some seat's turn, or it is not known whose; and so the
-- moves of every legal past fit.
use Rattle.std.proofs.Common.{◌≡◌, ℕ, zero, suc, ◌+◌, ◌-◌, ◌≤◌, ◌<◌, Bool, true, false, ◌||◌, ◌==◌, not, nat_lt, nat_le, inl, inr, ◌⊎◌, Option, Some, None, List, [], ◌∷◌, ◌++◌, filter, find, refl, ◌∙◌, ap, subst, arith, if◌then◌else◌}
use Rattle.std.specs.List.{list_any, range_with_len}
use Rattle.std.proofs.lemmas.Bool.{or_parts, or_from, and_parts, both_ways, cases_lt, cases_Bool, false_from_ne_true, not_from_false}
use Rattle.play_event.specs.declared.setup.Setup.{Setup}
use Rattle.play_event.specs.declared.limit.Opener.{Opener}
use Rattle.play_event.specs.declared.limit.Opener.TheVariants as openers
use Rattle.play_event.specs.Streets.{opener_of}
use Rattle.play_event.specs.Past.{Move, moves_on}
use Rattle.play_event.specs.Seats.{can_act, all_seats, able_count}
use Rattle.play_event.specs.CurrentBet.{to_call}
use Rattle.play_event.specs.Due.{has_to_move, has_acted_since_raise}
use Rattle.play_event.specs.Openers.{InTurn, NoSeat, TheSeat, Undecided, in_turn, UpCards, opener_by, up_cards_opener, has_unknown_up_card, able_seats, is_opener_before}
use Rattle.card_set.specs.Known.{known_among}
use Rattle.play_event.specs.PlayerToAct.{player_to_act, seats_from, next_in_turn, first_in_turn}
use Rattle.card_set.proofs.Tests.{false_true}
use Rattle.card_set.proofs.Options.{some_is_none}
use Rattle.play_laws.proofs.SeatRanges.{any_seat}
use Rattle.card_set.proofs.NumbersOfRange.{some_in_range}
use Rattle.play_event.proofs.OpenerOrder.{opens_not, opens_trans}

-- so some seat has none before it
IsIn : List ℕ → ℕ → Type 0
IsIn [] seat = ⊥
IsIn (first ∷ rest) seat = (first ≡ seat) ⊎ IsIn rest seat

record IsLeast (before : ℕ → ℕ → Bool) (seats : List ℕ) : Type 0 where
  seat : ℕ
  is_in : IsIn seats seat
  least : list_any (λ other. before other seat) seats ≡ false

least_of : (before : ℕ → ℕ → Bool) → ((a : ℕ) → before a a ≡ false) → ((a b c : ℕ) → before a b ≡ true → before b c ≡ true → before a c ≡ true) → (first : ℕ) (rest : List ℕ) → IsLeast before (first ∷ rest)
unfolding IsIn
least_of before self more first [] = record { seat = first; is_in = inl refl; least = or_from (before first first) false (self first) refl }
least_of before self more first (next ∷ rest) = by_before (least_of before self more next rest)
  where
    none_before : (seat : ℕ) (seats : List ℕ) → before first seat ≡ true → list_any (λ other. before other seat) seats ≡ false → list_any (λ other. before other first) seats ≡ false
    none_before seat [] it none = refl
    none_before seat (other ∷ others) it none =
        let parts = or_parts (before other seat) (list_any (λ o. before o seat) others) none in
        or_from (before other first) (list_any (λ o. before o first) others) (false_from_ne_true (before other first) (λ now. both_ways (before other seat) parts.0 (more other first seat now it))) (none_before seat others it parts.1)

    by_before : IsLeast before (next ∷ rest) → IsLeast before (first ∷ next ∷ rest)
    by_before found = elim (cases_Bool (before first found.seat)) [
      | inl it ↦ record { seat = first; is_in = inl refl; least = or_from (before first first) (list_any (λ other. before other first) (next ∷ rest)) (self first) (none_before found.seat (next ∷ rest) it found.least) }
      | inr never ↦ record { seat = found.seat; is_in = inr found.is_in; least = or_from (before first found.seat) (list_any (λ other. before other found.seat) (next ∷ rest)) never found.least }
    ]

find_in : (p : ℕ → Bool) (seats : List ℕ) (seat : ℕ) → IsIn seats seat → p seat ≡ true → find p seats ≡ None → ⊥
unfolding IsIn
find_in p [] seat is_in passes none = is_in
find_in p (first ∷ rest) seat is_in passes none = by_first (p first) refl is_in none (find_in p rest seat)
  where
    by_first : (b : Bool) → p first ≡ b → (first ≡ seat) ⊎ IsIn rest seat → (if b then Some first else find p rest) ≡ None → (IsIn rest seat → p seat ≡ true → find p rest ≡ None → ⊥) → ⊥
    by_first true here where_in is later = some_is_none is
    by_first false here (inl same) is later = both_ways (p first) here (ap p same ∙ passes)
    by_first false here (inr in_rest) is later = later in_rest passes is

opener_found : (setup : Setup) (ups : UpCards) (list : List Move) (street : ℕ) → list_any (can_act setup list) (all_seats setup) ≡ true → up_cards_opener setup ups list street ≡ None → ⊥
opener_found setup ups list street some none = by_able (able_seats setup list) refl none (not_empty (all_seats setup) some)
  where
    not_empty : (seats : List ℕ) → list_any (can_act setup list) seats ≡ true → filter (can_act setup list) seats ≡ [] → ⊥
    not_empty [] is empty = both_ways false refl is
    not_empty (first ∷ rest) is empty = by_first (can_act setup list first) is empty (not_empty rest)
      where
        by_first : (b : Bool) → (b || list_any (can_act setup list) rest) ≡ true → (if b then (first ∷ filter (can_act setup list) rest) else filter (can_act setup list) rest) ≡ [] → (list_any (can_act setup list) rest ≡ true → filter (can_act setup list) rest ≡ [] → ⊥) → ⊥
        by_first true it now later = cc
        by_first false it now later = later it now

    before : ℕ → ℕ → Bool
    before other seat = is_opener_before (opener_of setup.code) (street == 1) (known_among (ups other)) (known_among (ups seat))

    by_able : (able : List ℕ) → able_seats setup list ≡ able → find (λ seat. not (list_any (λ other. is_opener_before (opener_of setup.code) (street == 1) (known_among (ups other)) (known_among (ups seat))) (able_seats setup list))) (able_seats setup list) ≡ None → (able_seats setup list ≡ [] → ⊥) → ⊥
    by_able [] same is never = never same
    by_able (first ∷ rest) same is never =
        let least = least_of (λ other seat. is_opener_before (opener_of setup.code) (street == 1) (known_among (ups other)) (known_among (ups seat)))
        (λ a. opens_not (opener_of setup.code) (street == 1) (known_among (ups a)))
        (λ a b c. opens_trans (opener_of setup.code) (street == 1) (known_among (ups a)) (known_among (ups b)) (known_among (ups c))) first rest in
        let P : List ℕ → Type 0 = λ l. find (λ seat. not (list_any (λ other. is_opener_before (opener_of setup.code) (street == 1) (known_among (ups other)) (known_among (ups seat))) l)) l ≡ None in
        find_in (λ seat. not (list_any (λ other. is_opener_before (opener_of setup.code) (street == 1) (known_among (ups other)) (known_among (ups seat))) (first ∷ rest))) (first ∷ rest) least.seat least.is_in (not_from_false _ least.least) (subst P same is)

-- going round the table from any seat, each seat is reached
range_in : (start count seat : ℕ) → start ≤ seat → seat < start + count → (rest : List ℕ) → IsIn (range_with_len start count ++ rest) seat
unfolding IsIn
range_in start zero seat least most rest = absurd (omega (arith, least, most))
range_in start (suc count) seat least most rest = elim (cases_lt start seat) [
  | inl above ↦ inr (range_in (start + 1) count seat (omega (arith, above)) (omega (arith, most)) rest)
  | inr below ↦ inl (omega (arith, below, least))
]

behind_in : (first rest : List ℕ) (seat : ℕ) → IsIn rest seat → IsIn (first ++ rest) seat
unfolding IsIn
behind_in [] rest seat is = is
behind_in (x ∷ xs) rest seat is = inr (behind_in xs rest seat is)

in_self : (list : List ℕ) (seat : ℕ) → IsIn (list ++ []) seat → IsIn list seat
unfolding IsIn
in_self [] seat is = is
in_self (x ∷ xs) seat (inl same) = inl same
in_self (x ∷ xs) seat (inr later) = inr (in_self xs seat later)

round_in : (setup : Setup) (start seat : ℕ) → 1 ≤ seat → seat ≤ setup.stacks.seats → IsIn (seats_from setup start) seat
round_in setup start seat least most = elim (cases_lt seat start) [
  | inl below ↦ behind_in (range_with_len start (setup.stacks.seats + 1 - start)) (range_with_len 1 (start - 1)) seat (in_self (range_with_len 1 (start - 1)) seat (range_in 1 (start - 1) seat least (omega (arith, below)) []))
  | inr above ↦ range_in start (setup.stacks.seats + 1 - start) seat above (omega (arith, above, most)) (range_with_len 1 (start - 1))
]

is_no_seat : InTurn → Bool
is_no_seat NoSeat = true
is_no_seat Undecided = false
is_no_seat (TheSeat seat) = false

in_turn_none : (found : Option ℕ) → in_turn found ≡ NoSeat → found ≡ None
unfolding is_no_seat
in_turn_none None is = refl
in_turn_none (Some seat) is = false_true (ap is_no_seat is)

turn_found : (setup : Setup) (holds : ℕ → Bool) (from : InTurn) → (from ≡ NoSeat → ⊥) → list_any holds (all_seats setup) ≡ true → first_in_turn setup holds from ≡ NoSeat → ⊥
unfolding is_no_seat
turn_found setup holds NoSeat never some is = never refl
turn_found setup holds Undecided never some is = both_ways false refl (ap is_no_seat is)
turn_found setup holds (TheSeat start) never some is =
    let seat = some_in_range holds 1 setup.stacks.seats some in
    find_in holds (seats_from setup start) seat.0 (round_in setup start seat.0 seat.1.0 (omega (arith, seat.1.1.0))) seat.1.1.1 (in_turn_none (find holds (seats_from setup start)) is)

opener_is : (opener : Opener) (setup : Setup) (ups : UpCards) (list : List Move) (street : ℕ) → list_any (can_act setup list) (all_seats setup) ≡ true → opener_by opener setup ups list street ≡ NoSeat → ⊥
unfolding is_no_seat
opener_is openers.Blinds setup ups list street some is = both_ways false refl (ap is_no_seat is)
opener_is openers.LowUp setup ups list street some is = by_unknown (has_unknown_up_card setup ups list) is
  where
    by_unknown : (b : Bool) → (if b then Undecided else in_turn (up_cards_opener setup ups list street)) ≡ NoSeat → ⊥
    by_unknown true it = both_ways false refl (ap is_no_seat it)
    by_unknown false it = opener_found setup ups list street some (in_turn_none (up_cards_opener setup ups list street) it)
opener_is openers.HighUp setup ups list street some is = by_unknown (has_unknown_up_card setup ups list) is
  where
    by_unknown : (b : Bool) → (if b then Undecided else in_turn (up_cards_opener setup ups list street)) ≡ NoSeat → ⊥
    by_unknown true it = both_ways false refl (ap is_no_seat it)
    by_unknown false it = opener_found setup ups list street some (in_turn_none (up_cards_opener setup ups list street) it)

next_is : (setup : Setup) (opener : InTurn) (list : List Move) → (opener ≡ NoSeat → ⊥) → next_in_turn setup opener list ≡ NoSeat → ⊥
unfolding is_no_seat
next_is setup opener [] never is = never is
next_is setup opener (move ∷ rest) never is = both_ways false refl (ap is_no_seat is)

able_some : (setup : Setup) (list : List Move) (street : ℕ) → list_any (has_to_move setup list street) (all_seats setup) ≡ true → list_any (can_act setup list) (all_seats setup) ≡ true
able_some setup list street some =
    let seat = some_in_range (has_to_move setup list street) 1 setup.stacks.seats some in
    any_seat setup (can_act setup list) seat.0 seat.1.0 (omega (arith, seat.1.1.0))
    (and_parts (can_act setup list seat.0) (if has_acted_since_raise setup list street seat.0 then false else (nat_lt 0 (to_call setup list street seat.0) || nat_le 2 (able_count setup list))) seat.1.1.1).0

-- if some seat has to move, it is some seat's turn, or it is not known whose
pub player_to_act_found : (setup : Setup) (ups : UpCards) (list : List Move) (street : ℕ) → list_any (has_to_move setup list street) (all_seats setup) ≡ true → player_to_act setup ups list street ≡ NoSeat → ⊥
player_to_act_found setup ups list street some is =
    turn_found setup (has_to_move setup list street) (next_in_turn setup (opener_by (opener_of setup.code) setup ups list street) (moves_on street list))
    (next_is setup (opener_by (opener_of setup.code) setup ups list street) (moves_on street list) (opener_is (opener_of setup.code) setup ups list street (able_some setup list street some))) some is
