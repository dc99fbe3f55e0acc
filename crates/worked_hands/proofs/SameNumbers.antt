-- Traces that have the same numbers are the same.
use Rattle.std.proofs.Common.{◌≡◌, ℕ, Bool, true, false, ◌==◌, if◌then◌else◌, List, [], ◌∷◌, ◌++◌, flat_map, length, Option, Some, None, refl, sym, ap, ◌∙◌}
use Rattle.std.proofs.lemmas.Bool.{eqb-true}
use Rattle.std.proofs.lemmas.List.{append_assoc}
use Rattle.card_set.proofs.Tests.{false_true}
use Rattle.card_set.specs.declared.card.Slot.{Slot}
use Rattle.card_set.specs.declared.card.Slot.TheVariants as slots
use Rattle.card_set.proofs.DeckLaws.{deck_index-same}
use Rattle.chip_ledger.specs.Pots.{PlainPot}
use Rattle.play_event.specs.Past.{Act, BroughtIn, Called, Folded, Raised}
use Rattle.play_event.specs.Trace.{TracedMove, TracedPlace}
use Rattle.play_event.specs.TraceCore.{TraceCore}
use Rattle.worked_hands.specs.TraceNumbers.{act_number, is_same_list, move_numbers, owner_number, place_numbers, pot_numbers, slot_number, trace_numbers}

same_list : (xs ys : List ℕ) → is_same_list xs ys ≡ true → xs ≡ ys
same_list [] [] is = refl
same_list [] (y ∷ ys) is = false_true is
same_list (x ∷ xs) [] is = false_true is
same_list (x ∷ xs) (y ∷ ys) is = by_first (x == y) refl is (same_list xs ys)
  where
    by_first : (b : Bool) → (x == y) ≡ b → (if b then is_same_list xs ys else false) ≡ true → (is_same_list xs ys ≡ true → xs ≡ ys) → (x ∷ xs) ≡ (y ∷ ys)
    by_first true same rest later = ap (λ n. n ∷ xs) (eqb-true x y same) ∙ ap (λ l. y ∷ l) (later rest)
    by_first false same rest later = false_true rest

same_slot : (a b : Slot) → slot_number a ≡ slot_number b → a ≡ b
same_slot (slots.Known a) (slots.Known b) is = ap (λ card. slots.Known card) (deck_index-same a b (cc (is)))
same_slot (slots.Known a) slots.Unknown is = cc (is)
same_slot slots.Unknown (slots.Known b) is = cc (is)
same_slot slots.Unknown slots.Unknown is = refl

same_owner : (a b : Option ℕ) → owner_number a ≡ owner_number b → a ≡ b
same_owner (Some a) (Some b) is = ap (λ seat. Some seat) (cc (is))
same_owner (Some a) None is = cc (is)
same_owner None (Some b) is = cc (is)
same_owner None None is = refl

same_act : (a b : Act) → act_number a ≡ act_number b → a ≡ b
same_act Folded Folded is = refl
same_act Called Called is = refl
same_act Raised Raised is = refl
same_act BroughtIn BroughtIn is = refl
same_act Folded Called is = cc (is)
same_act Folded Raised is = cc (is)
same_act Folded BroughtIn is = cc (is)
same_act Called Folded is = cc (is)
same_act Called Raised is = cc (is)
same_act Called BroughtIn is = cc (is)
same_act Raised Folded is = cc (is)
same_act Raised Called is = cc (is)
same_act Raised BroughtIn is = cc (is)
same_act BroughtIn Folded is = cc (is)
same_act BroughtIn Called is = cc (is)
same_act BroughtIn Raised is = cc (is)

flag_number : Bool → ℕ
flag_number b = if b then 1 else 0

same_flag : (a b : Bool) → (if a then 1 else 0) ≡ flag_number b → a ≡ b
unfolding flag_number
same_flag true true is = refl
same_flag true false is = cc (is)
same_flag false true is = cc (is)
same_flag false false is = refl

-- numbers determine what they are the front of, and what comes after them
abbrev TellsFront : {X : Type 0} → (X → List ℕ) → Type 0
TellsFront {X} numbers = (x y : X) (r s : List ℕ) → numbers x ++ r ≡ numbers y ++ s → (x ≡ y) × (r ≡ s)

fronts : {X : Type 0} (numbers : X → List ℕ) → TellsFront numbers → (xs ys : List X) → length xs ≡ length ys → (r s : List ℕ) → flat_map numbers xs ++ r ≡ flat_map numbers ys ++ s → (xs ≡ ys) × (r ≡ s)
fronts numbers tells [] [] count r s is = (refl, is)
fronts numbers tells [] (y ∷ ys) count r s is = cc (count)
fronts numbers tells (x ∷ xs) [] count r s is = cc (count)
fronts numbers tells (x ∷ xs) (y ∷ ys) count r s is =
    let first = tells x y (flat_map numbers xs ++ r) (flat_map numbers ys ++ s) (sym (append_assoc (numbers x) (flat_map numbers xs) r) ∙ (is ∙ append_assoc (numbers y) (flat_map numbers ys) s)) in
    let rest = fronts numbers tells xs ys (cc (count)) r s first.1 in
    (ap (λ z. z ∷ xs) first.0 ∙ ap (λ l. y ∷ l) rest.0, rest.1)

numbers_front : (xs ys : List ℕ) → length xs ≡ length ys → (r s : List ℕ) → xs ++ r ≡ ys ++ s → (xs ≡ ys) × (r ≡ s)
numbers_front [] [] count r s is = (refl, is)
numbers_front [] (y ∷ ys) count r s is = cc (count)
numbers_front (x ∷ xs) [] count r s is = cc (count)
numbers_front (x ∷ xs) (y ∷ ys) count r s is =
    let rest = numbers_front xs ys (cc (count)) r s (cc (is)) in
    let first : x ≡ y = cc (is) in
    (ap (λ z. z ∷ xs) first ∙ ap (λ l. y ∷ l) rest.0, rest.1)

place_front : TellsFront place_numbers
place_front x y r s is =
    let place : Option ℕ → ℕ → Slot → ℕ → TracedPlace = λ owner street slot discarded. record { owner = owner; street = street; slot = slot; discarded = discarded } in
    let owner : x.owner ≡ y.owner = same_owner x.owner y.owner (cc (is)) in
    let street : x.street ≡ y.street = cc (is) in
    let slot : x.slot ≡ y.slot = same_slot x.slot y.slot (cc (is)) in
    let discarded : x.discarded ≡ y.discarded = cc (is) in (
      ap (λ o. place o x.street x.slot x.discarded) owner
          ∙ (ap (λ n. place y.owner n x.slot x.discarded) street ∙ (ap (λ c. place y.owner y.street c x.discarded) slot ∙ ap (place y.owner y.street y.slot) discarded)),
      cc (is),
    )

move_front : TellsFront move_numbers
unfolding flag_number
move_front x y r s is =
    let move : ℕ → ℕ → Act → ℕ → ℕ → ℕ → Bool → ℕ → TracedMove =
    λ street seat act from to price closed unit_to. record { street = street; seat = seat; act = act; from = from; to = to; price = price; closed = closed; unit_to = unit_to } in
    let street : x.street ≡ y.street = cc (is) in
    let seat : x.seat ≡ y.seat = cc (is) in
    let act : x.act ≡ y.act = same_act x.act y.act (cc (is)) in
    let from : x.from ≡ y.from = cc (is) in
    let to : x.to ≡ y.to = cc (is) in
    let price : x.price ≡ y.price = cc (is) in
    let closed : x.closed ≡ y.closed = same_flag x.closed y.closed (cc (is)) in
    let unit_to : x.unit_to ≡ y.unit_to = cc (is) in (
      ap (λ n. move n x.seat x.act x.from x.to x.price x.closed x.unit_to) street
          ∙ (ap (λ n. move y.street n x.act x.from x.to x.price x.closed x.unit_to) seat
          ∙ (ap (λ a. move y.street y.seat a x.from x.to x.price x.closed x.unit_to) act
          ∙ (ap (λ n. move y.street y.seat y.act n x.to x.price x.closed x.unit_to) from
          ∙ (ap (λ n. move y.street y.seat y.act y.from n x.price x.closed x.unit_to) to
          ∙ (ap (λ n. move y.street y.seat y.act y.from y.to n x.closed x.unit_to) price
          ∙ (ap (λ b. move y.street y.seat y.act y.from y.to y.price b x.unit_to) closed
          ∙ ap (move y.street y.seat y.act y.from y.to y.price y.closed) unit_to)))))),
      cc (is),
    )

pot_front : TellsFront pot_numbers
pot_front x y r s is =
    let pot : ℕ → List ℕ → PlainPot = λ chips eligible. record { chips = chips; eligible = eligible } in
    let chips : x.chips ≡ y.chips = cc (is) in
    let eligible = numbers_front x.eligible y.eligible (cc (is)) r s (cc (is)) in
    (ap (λ n. pot n x.eligible) chips ∙ ap (pot y.chips) eligible.0, eligible.1)

-- what comes after the places, the moves, the shown seats and the mucked ones
abbrev behind_mucked : TraceCore → List ℕ
behind_mucked trace = length trace.pots ∷ flat_map pot_numbers trace.pots ++ trace.returned

abbrev behind_shown : TraceCore → List ℕ
behind_shown trace = length trace.mucked ∷ trace.mucked ++ behind_mucked trace

abbrev behind_moves : TraceCore → List ℕ
behind_moves trace = length trace.shown ∷ trace.shown ++ behind_shown trace

abbrev behind_places : TraceCore → List ℕ
behind_places trace = length trace.moves ∷ flat_map move_numbers trace.moves ++ behind_moves trace

-- traces with the same numbers
pub numbers_tell : (a b : TraceCore) → is_same_list (trace_numbers a) (trace_numbers b) ≡ true → a ≡ b
numbers_tell a b same =
    let is = same_list (trace_numbers a) (trace_numbers b) same in
    let places = fronts place_numbers place_front a.places b.places (cc (is)) (behind_places a) (behind_places b) (cc (is)) in
    let moves = fronts move_numbers move_front a.moves b.moves (cc (places.1)) (behind_moves a) (behind_moves b) (cc (places.1)) in
    let shown = numbers_front a.shown b.shown (cc (moves.1)) (behind_shown a) (behind_shown b) (cc (moves.1)) in
    let mucked = numbers_front a.mucked b.mucked (cc (shown.1)) (behind_mucked a) (behind_mucked b) (cc (shown.1)) in
    let pots = fronts pot_numbers pot_front a.pots b.pots (cc (mucked.1)) a.returned b.returned (cc (mucked.1)) in
    let core : List TracedPlace → List TracedMove → List ℕ → List ℕ → List PlainPot → List ℕ → TraceCore =
    λ places moves shown mucked pots returned. record { places = places; moves = moves; shown = shown; mucked = mucked; pots = pots; returned = returned } in
    ap (λ p. core p a.moves a.shown a.mucked a.pots a.returned) places.0
    ∙ (ap (λ m. core b.places m a.shown a.mucked a.pots a.returned) moves.0
    ∙ (ap (λ s. core b.places b.moves s a.mucked a.pots a.returned) shown.0
    ∙ (ap (λ m. core b.places b.moves b.shown m a.pots a.returned) mucked.0
    ∙ (ap (λ p. core b.places b.moves b.shown b.mucked p a.returned) pots.0 ∙ ap (core b.places b.moves b.shown b.mucked b.pots) pots.1))))
