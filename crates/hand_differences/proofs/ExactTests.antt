-- Each test of parts holds if and only if they are the same.
use Rattle.std.proofs.Common.{◌≡◌, ℕ, Bool, true, false, ◌&&◌, ◌==◌, bytes_eq, List, [], ◌∷◌, find, Option, Some, None, refl, sym, ap, ◌∙◌}
use Rattle.std.proofs.lemmas.Bool.{and_parts, and_from, eq-eqb, eqb-true}
use Rattle.std.proofs.lemmas.Option.{same_Some}
use Rattle.std.proofs.lemmas.Slice.Eq.{bytes_eq-Decides}
use Rattle.card_set.proofs.Bytes.{same_bytes}
use Rattle.card_set.proofs.Options.{options_same}
use Rattle.card_set.proofs.Tests.{false_true}
use Rattle.card_set.proofs.DeckLaws.{is_same_card-self, is_same_card-true}
use Rattle.card_set.specs.declared.card.Slot.{Slot}
use Rattle.card_set.specs.declared.card.Slot.TheVariants as slots
use Rattle.chip_ledger.proofs.Same.{seat_same}
use Rattle.chip_ledger.specs.declared.numbers.Seat.{Seat}
use Rattle.hand_canon.specs.declared.notes.Clock.{Clock}
use Rattle.play_event.proofs.OwnerLaws.{is_same_owner-self, is_same_owner-true}
use Rattle.play_event.specs.Code.{code_text}
use Rattle.play_event.specs.Games.{all_games}
use Rattle.play_event.specs.Places.{is_same_owner}
use Rattle.play_event.specs.declared.code.Code.{Code}
use Rattle.play_event.specs.declared.code.Code.TheVariants as games
use Rattle.play_event.specs.declared.played.Act.{Act}
use Rattle.play_event.specs.declared.played.Act.TheVariants as acts
use Rattle.play_event.specs.declared.played.Move.{Move}
use Rattle.play_event.specs.declared.played.Place.{Place}
use Rattle.hand_differences.specs.SameParts.{is_same_test, is_same_option, are_same_entries, is_same_clock, is_same_act, is_same_move, is_same_slot, is_same_place, owner_of}

-- a test passes if and only if the two values are equal
pub record IsExact {A : Type 0} (same : A → A → Bool) : Type 0 where
  pub one : (a b : A) → same a b ≡ true → a ≡ b
  pub own : (a : A) → same a a ≡ true

-- numbers
pub exact_numbers : IsExact (λ (a b : ℕ). a == b)
exact_numbers = record { one = eqb-true; own = λ a. eq-eqb a a refl }

-- lists of numbers
pub exact_bytes : IsExact bytes_eq
exact_bytes = record { one = λ a b is. (bytes_eq-Decides a b).0 is; own = same_bytes }

-- tests
one_test : (a b : Bool) → is_same_test a b ≡ true → a ≡ b
one_test true true is = refl
one_test true false is = false_true is
one_test false true is = false_true is
one_test false false is = refl

own_test : (a : Bool) → is_same_test a a ≡ true
own_test true = refl
own_test false = refl

pub exact_tests : IsExact is_same_test
exact_tests = record { one = one_test; own = own_test }

-- options
one_option : {A : Type 0} (same : A → A → Bool) → IsExact same → (a b : Option A) → is_same_option same a b ≡ true → a ≡ b
one_option same exact None None is = refl
one_option same exact None (Some b) is = false_true is
one_option same exact (Some a) None is = false_true is
one_option same exact (Some a) (Some b) is = ap Some (exact.one a b is)

own_option : {A : Type 0} (same : A → A → Bool) → IsExact same → (a : Option A) → is_same_option same a a ≡ true
own_option same exact None = refl
own_option same exact (Some a) = exact.own a

pub exact_options : {A : Type 0} (same : A → A → Bool) → IsExact same → IsExact (is_same_option same)
exact_options same exact = record { one = one_option same exact; own = own_option same exact }

-- lists
one_list : {A : Type 0} (same : A → A → Bool) → IsExact same → (xs ys : List A) → are_same_entries same xs ys ≡ true → xs ≡ ys
one_list same exact [] [] is = refl
one_list same exact [] (y ∷ ys) is = false_true is
one_list same exact (x ∷ xs) [] is = false_true is
one_list same exact (x ∷ xs) (y ∷ ys) is =
    let parts = and_parts (same x y) (are_same_entries same xs ys) is in
    ap (λ z. z ∷ xs) (exact.one x y parts.0) ∙ ap (λ zs. y ∷ zs) (one_list same exact xs ys parts.1)

own_list : {A : Type 0} (same : A → A → Bool) → IsExact same → (xs : List A) → are_same_entries same xs xs ≡ true
own_list same exact [] = refl
own_list same exact (x ∷ xs) = and_from (same x x) (are_same_entries same xs xs) (exact.own x) (own_list same exact xs)

pub exact_lists : {A : Type 0} (same : A → A → Bool) → IsExact same → IsExact (are_same_entries same)
exact_lists same exact = record { one = one_list same exact; own = own_list same exact }

-- times of a day
clock_from : ℕ → ℕ → ℕ → ℕ → Clock
clock_from hour minute second nano = record { hour = hour; minute = minute; second = second; nano = nano }

one_clock : (a b : Clock) → is_same_clock a b ≡ true → a ≡ b
unfolding clock_from
one_clock a b is =
    let three = and_parts ((a.hour == b.hour) && (a.minute == b.minute) && (a.second == b.second)) (a.nano == b.nano) is in
    let two = and_parts ((a.hour == b.hour) && (a.minute == b.minute)) (a.second == b.second) three.0 in
    let one = and_parts (a.hour == b.hour) (a.minute == b.minute) two.0 in
    ap (λ x. clock_from x a.minute a.second a.nano) (eqb-true a.hour b.hour one.0)
    ∙ ap (λ x. clock_from b.hour x a.second a.nano) (eqb-true a.minute b.minute one.1)
    ∙ ap (λ x. clock_from b.hour b.minute x a.nano) (eqb-true a.second b.second two.1)
    ∙ ap (λ x. clock_from b.hour b.minute b.second x) (eqb-true a.nano b.nano three.1)

own_clock : (a : Clock) → is_same_clock a a ≡ true
own_clock a =
    and_from ((a.hour == a.hour) && (a.minute == a.minute) && (a.second == a.second)) (a.nano == a.nano)
    (and_from ((a.hour == a.hour) && (a.minute == a.minute)) (a.second == a.second) (and_from (a.hour == a.hour) (a.minute == a.minute) (eq-eqb a.hour a.hour refl) (eq-eqb a.minute a.minute refl)) (eq-eqb a.second a.second refl))
    (eq-eqb a.nano a.nano refl)

pub exact_clocks : IsExact is_same_clock
exact_clocks = record { one = one_clock; own = own_clock }

-- acts
one_act : (a b : Act) → is_same_act a b ≡ true → a ≡ b
one_act acts.Fold acts.Fold is = refl
one_act acts.Fold acts.Call is = false_true is
one_act acts.Fold acts.Raise is = false_true is
one_act acts.Fold acts.BringIn is = false_true is
one_act acts.Call acts.Fold is = false_true is
one_act acts.Call acts.Call is = refl
one_act acts.Call acts.Raise is = false_true is
one_act acts.Call acts.BringIn is = false_true is
one_act acts.Raise acts.Fold is = false_true is
one_act acts.Raise acts.Call is = false_true is
one_act acts.Raise acts.Raise is = refl
one_act acts.Raise acts.BringIn is = false_true is
one_act acts.BringIn acts.Fold is = false_true is
one_act acts.BringIn acts.Call is = false_true is
one_act acts.BringIn acts.Raise is = false_true is
one_act acts.BringIn acts.BringIn is = refl

own_act : (a : Act) → is_same_act a a ≡ true
own_act acts.Fold = refl
own_act acts.Call = refl
own_act acts.Raise = refl
own_act acts.BringIn = refl

-- moves
move_from : ℕ → Seat → Act → ℕ → ℕ → ℕ → Bool → ℕ → Move
move_from street seat act from to price closed unit_to =
    record { street = street; seat = seat; act = act; from = from; to = to; price = price; closed = closed; unit_to = unit_to }

one_move : (a b : Move) → is_same_move a b ≡ true → a ≡ b
unfolding move_from
one_move a b is =
    let seven = and_parts _ (a.unit_to == b.unit_to) is in
    let six = and_parts _ (is_same_test a.closed b.closed) seven.0 in
    let five = and_parts _ (a.price == b.price) six.0 in
    let four = and_parts _ (a.to == b.to) five.0 in
    let three = and_parts _ (a.from == b.from) four.0 in
    let two = and_parts _ (is_same_act a.act b.act) three.0 in
    let one = and_parts (a.street == b.street) (a.seat.number == b.seat.number) two.0 in
    ap (λ x. move_from x a.seat a.act a.from a.to a.price a.closed a.unit_to) (eqb-true a.street b.street one.0)
    ∙ ap (λ x. move_from b.street x a.act a.from a.to a.price a.closed a.unit_to) (seat_same a.seat b.seat (eqb-true a.seat.number b.seat.number one.1))
    ∙ ap (λ x. move_from b.street b.seat x a.from a.to a.price a.closed a.unit_to) (one_act a.act b.act two.1)
    ∙ ap (λ x. move_from b.street b.seat b.act x a.to a.price a.closed a.unit_to) (eqb-true a.from b.from three.1)
    ∙ ap (λ x. move_from b.street b.seat b.act b.from x a.price a.closed a.unit_to) (eqb-true a.to b.to four.1)
    ∙ ap (λ x. move_from b.street b.seat b.act b.from b.to x a.closed a.unit_to) (eqb-true a.price b.price five.1)
    ∙ ap (λ x. move_from b.street b.seat b.act b.from b.to b.price x a.unit_to) (one_test a.closed b.closed six.1)
    ∙ ap (λ x. move_from b.street b.seat b.act b.from b.to b.price b.closed x) (eqb-true a.unit_to b.unit_to seven.1)

own_move : (a : Move) → is_same_move a a ≡ true
own_move a =
    and_from _ (a.unit_to == a.unit_to)
    (and_from _ (is_same_test a.closed a.closed)
    (and_from _ (a.price == a.price)
    (and_from _ (a.to == a.to)
    (and_from _ (a.from == a.from)
    (and_from _ (is_same_act a.act a.act)
    (and_from (a.street == a.street) (a.seat.number == a.seat.number) (eq-eqb a.street a.street refl) (eq-eqb a.seat.number a.seat.number refl))
    (own_act a.act)) (eq-eqb a.from a.from refl)) (eq-eqb a.to a.to refl)) (eq-eqb a.price a.price refl)) (own_test a.closed)) (eq-eqb a.unit_to a.unit_to refl)

pub exact_moves : IsExact is_same_move
exact_moves = record { one = one_move; own = own_move }

-- cards that are known or not
one_slot : (a b : Slot) → is_same_slot a b ≡ true → a ≡ b
one_slot (slots.Known a) (slots.Known b) is = ap slots.Known (is_same_card-true a b is)
one_slot (slots.Known a) slots.Unknown is = false_true is
one_slot slots.Unknown (slots.Known b) is = false_true is
one_slot slots.Unknown slots.Unknown is = refl

own_slot : (a : Slot) → is_same_slot a a ≡ true
own_slot (slots.Known a) = is_same_card-self a
own_slot slots.Unknown = refl

-- dealt cards
place_from : Option Seat → ℕ → Slot → ℕ → Place
place_from owner street slot gone = record { owner = owner; street = street; slot = slot; gone = gone }

one_place : (a b : Place) → is_same_place a b ≡ true → a ≡ b
unfolding place_from
one_place a b is =
    let three = and_parts _ (a.gone == b.gone) is in
    let two = and_parts _ (is_same_slot a.slot b.slot) three.0 in
    let one = and_parts (is_same_owner (owner_of a) (owner_of b)) (a.street == b.street) two.0 in
    ap (λ x. place_from x a.street a.slot a.gone) (options_same (λ (seat : Seat). seat.number) seat_same a.owner b.owner (is_same_owner-true (owner_of a) (owner_of b) one.0))
    ∙ ap (λ x. place_from b.owner x a.slot a.gone) (eqb-true a.street b.street one.1)
    ∙ ap (λ x. place_from b.owner b.street x a.gone) (one_slot a.slot b.slot two.1)
    ∙ ap (λ x. place_from b.owner b.street b.slot x) (eqb-true a.gone b.gone three.1)

own_place : (a : Place) → is_same_place a a ≡ true
own_place a =
    and_from _ (a.gone == a.gone)
    (and_from _ (is_same_slot a.slot a.slot)
    (and_from (is_same_owner (owner_of a) (owner_of a)) (a.street == a.street) (is_same_owner-self (owner_of a)) (eq-eqb a.street a.street refl))
    (own_slot a.slot)) (eq-eqb a.gone a.gone refl)

pub exact_places : IsExact is_same_place
exact_places = record { one = one_place; own = own_place }

-- codes: each text is that of one game
game_of_text : List ℕ → Option Code
game_of_text text = find (λ code. bytes_eq text (code_text code)) all_games

own_game : (code : Code) → game_of_text (code_text code) ≡ Some code
unfolding game_of_text
own_game games.FT = refl
own_game games.NT = refl
own_game games.NS = refl
own_game games.PO = refl
own_game games.FO8 = refl
own_game games.F7S = refl
own_game games.F7S8 = refl
own_game games.FR = refl
own_game games.N2L1D = refl
own_game games.F2L3D = refl
own_game games.FB = refl

-- games with the same text as code are the same game
pub one_game : (a b : Code) → code_text a ≡ code_text b → a ≡ b
one_game a b same = same_Some a b (sym (own_game a) ∙ ap game_of_text same ∙ own_game b)
