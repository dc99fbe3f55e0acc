-- A seat never holds more than seven cards, and never discards more at once.
use Rattle.std.proofs.Common.{◌≡◌, ℕ, zero, suc, ◌+◌, ◌-◌, ◌≤◌, ◌<◌, Bool, true, false, ◌&&◌, ◌==◌, not, nat_lt, nat_le, inl, inr, ◌⊎◌, Some, List, [], ◌∷◌, filter, length, slice_get, refl, ◌∙◌, ap, arith, if◌then◌else◌}
use Rattle.std.specs.Option.{option_map_or}
use Rattle.std.proofs.lemmas.Bool.{and_parts, and_from, and_left, and_right, cases_Bool, cases_lt, lt-ltb, le-ltb, leb-true, eqb-true, eq-eqb, ne_eqb, not_from_false, ltb-true}
use Rattle.play_event.specs.declared.code.Code.{Code}
use Rattle.play_event.specs.declared.code.Code.TheVariants as games
use Rattle.play_event.specs.declared.setup.Setup.{Setup}
use Rattle.play_event.specs.declared.setup.Rules.{Rules}
use Rattle.play_event.specs.Games.{game_of, hole_cards_on}
use Rattle.play_event.specs.declared.street.Street.{Street}
use Rattle.play_event.specs.Streets.{has_draw}
use Rattle.play_event.specs.Said.{Said}
use Rattle.play_event.specs.Past.{Past}
use Rattle.play_event.specs.Dealing.{hole_cards_dealt, cards_discarded}
use Rattle.play_event.specs.Places.{Place, is_same_owner, is_in_group}
use Rattle.play_event.specs.Table.{places_of}
use Rattle.play_event.specs.Scripts.{past_of}
use Rattle.play_event.specs.Laws.{AreLegal, IsAmong}
use Rattle.play_laws.proofs.LegalPlaces.{legal_past, group_count, LegalPast}
use Rattle.play_laws.proofs.DonePasts.{legal_done}
use Rattle.play_laws.proofs.DiscardCounts.{is_out_of, out_counts}
use Rattle.card_set.proofs.Tests.{false_true, one_if}

-- the hole cards of the first streets
unfoldable pub first_holes : List Street → ℕ → ℕ
first_holes [] count = 0
first_holes (s ∷ rest) zero = 0
first_holes (s ∷ rest) (suc count) = (s.down + s.up) + first_holes rest count

-- the hole cards of all streets
unfoldable pub all_holes : List Street → ℕ
all_holes [] = 0
all_holes (s ∷ rest) = (s.down + s.up) + all_holes rest

-- no streets have none
pub no_holes : (streets : List Street) → first_holes streets 0 ≡ 0
unfolding first_holes
no_holes [] = refl
no_holes (s ∷ rest) = refl

-- one more street
pub one_more : (streets : List Street) (count : ℕ) → first_holes streets (suc count) ≡ first_holes streets count + option_map_or (λ s. s.down + s.up) (slice_get streets count) 0
unfolding first_holes
one_more [] count = refl
one_more (s ∷ rest) zero = omega (arith, no_holes rest)
one_more (s ∷ rest) (suc count) = omega (arith, one_more rest count)

-- the first streets have no more than all of them
pub not_more : (streets : List Street) (count : ℕ) → first_holes streets count ≤ all_holes streets
unfolding first_holes all_holes
not_more [] count = omega arith
not_more (s ∷ rest) zero = omega arith
not_more (s ∷ rest) (suc count) = omega (arith, not_more rest count)

seven : (code : Code) → nat_le (all_holes (game_of code).streets) 7 ≡ true
unfolding all_holes
seven games.FT = refl
seven games.NT = refl
seven games.NS = refl
seven games.PO = refl
seven games.FO8 = refl
seven games.F7S = refl
seven games.F7S8 = refl
seven games.FR = refl
seven games.N2L1D = refl
seven games.F2L3D = refl
seven games.FB = refl

-- no street deals more than seven hole cards
pub holes_seven : (code : Code) (street : ℕ) → 1 ≤ street → hole_cards_on code street ≤ 7
holes_seven code street some = omega (arith, one_more (game_of code).streets (street - 1), not_more (game_of code).streets (suc (street - 1)), leb-true (all_holes (game_of code).streets) 7 (seven code))

-- a card that a seat holds when a street begins
abbrev pub is_held_at : ℕ → ℕ → Place → Bool
is_held_at seat street place = is_same_owner place.owner (Some seat) && (nat_lt place.street street && not (nat_lt 0 place.discarded && nat_lt place.discarded street))

-- tests that pass no more often
pub less_step : (p q : Place → Bool) (place : Place) (rest : List Place) (a b : Bool) → (a ≡ true → b ≡ true) → length (filter p rest) ≤ length (filter q rest) → length (if a then (place ∷ filter p rest) else filter p rest) ≤ length (if b then (place ∷ filter q rest) else filter q rest)
less_step p q place rest true true less later = omega (arith, later)
less_step p q place rest true false less later = false_true (less refl)
less_step p q place rest false true less later = omega (arith, later)
less_step p q place rest false false less later = later

-- a stronger test keeps no more places
pub filter_less : (p q : Place → Bool) (placed : List Place) → ((place : Place) → IsAmong placed place → p place ≡ true → q place ≡ true) → length (filter p placed) ≤ length (filter q placed)
filter_less p q [] less = omega arith
filter_less p q (place ∷ rest) less = less_step p q place rest (p place) (q place) (less place (inl refl)) (filter_less p q rest (λ other among. less other (inr among)))

-- a test that no place passes keeps none
pub none_pass : (p : Place → Bool) (placed : List Place) → ((place : Place) → IsAmong placed place → p place ≡ false) → length (filter p placed) ≡ 0
none_pass p [] none = refl
none_pass p (place ∷ rest) none =
    ap (λ b. length (if b then (place ∷ filter p rest) else filter p rest)) (none place (inl refl)) ∙ none_pass p rest (λ other among. none other (inr among))

-- what is held next plus what was discarded is what was held plus what was dealt

four : (a b c d : Bool) (w x y z : Bool) → a ≡ w → b ≡ x → c ≡ y → d ≡ z → one_if w + one_if x ≡ one_if y + one_if z → one_if a + one_if b ≡ one_if c + one_if d
four a b c d w x y z p q r s is = omega (arith, ap one_if p, ap one_if q, ap one_if r, ap one_if s, is)

one_place : (seat street : ℕ) (place : Place) (owned : Bool) → 1 ≤ street → (0 < place.discarded → place.street < place.discarded) → one_if (owned && (nat_lt place.street (street + 1) && not (nat_lt 0 place.discarded && nat_lt place.discarded (street + 1)))) + one_if (owned && (place.discarded == street)) ≡ one_if (owned && (nat_lt place.street street && not (nat_lt 0 place.discarded && nat_lt place.discarded street))) + one_if (owned && (place.street == street))
one_place seat street place false some after = refl
one_place seat street place true some after = elim (cases_lt place.street street) [
  | inl early ↦ elim (cases_lt 0 place.discarded) [
    | inr none ↦ by true false true false
        (now_in (omega (arith, early)) (stays_none none)) (ne_eqb place.discarded street (λ same. omega (arith, same, none, some)))
        (was_in early (and_left (nat_lt 0 place.discarded) (nat_lt place.discarded street) (le-ltb 0 place.discarded none))) (ne_eqb place.street street (λ same. omega (arith, same, early))) refl
    | inl out ↦ elim (cases_lt place.discarded street) [
      | inl before ↦ by false false false false
          (now_out out (omega (arith, before))) (ne_eqb place.discarded street (λ same. omega (arith, same, before)))
          (was_out out before) (ne_eqb place.street street (λ same. omega (arith, same, early))) refl
      | inr not_before ↦ elim (cases_lt street place.discarded) [
        | inl later ↦ by true false true false
            (now_in (omega (arith, early)) (and_right (nat_lt 0 place.discarded) (nat_lt place.discarded (street + 1)) (le-ltb place.discarded (street + 1) (omega (arith, later))))) (ne_eqb place.discarded street (λ same. omega (arith, same, later)))
            (was_in early (and_right (nat_lt 0 place.discarded) (nat_lt place.discarded street) (le-ltb place.discarded street not_before))) (ne_eqb place.street street (λ same. omega (arith, same, early))) refl
        | inr here ↦ by false true true false
            (now_out out (omega (arith, here))) (eq-eqb place.discarded street (omega (arith, here, not_before)))
            (was_in early (and_right (nat_lt 0 place.discarded) (nat_lt place.discarded street) (le-ltb place.discarded street not_before))) (ne_eqb place.street street (λ same. omega (arith, same, early))) refl
      ]
    ]
  ]
  | inr late ↦ elim (cases_lt street place.street) [
    | inl above ↦ by false false false false
        (and_left (nat_lt place.street (street + 1)) (not (nat_lt 0 place.discarded && nat_lt place.discarded (street + 1))) (le-ltb place.street (street + 1) (omega (arith, above))))
        (ne_eqb place.discarded street (λ same. omega (arith, same, above, after (omega (arith, same, some)))))
        (and_left (nat_lt place.street street) (not (nat_lt 0 place.discarded && nat_lt place.discarded street)) (le-ltb place.street street late))
        (ne_eqb place.street street (λ same. omega (arith, same, above))) refl
    | inr here ↦ by true false false true
        (now_in (omega (arith, here)) (new_in (omega (arith, here, late)) (cases_Bool (nat_lt 0 place.discarded))))
        (ne_eqb place.discarded street (λ same. omega (arith, same, late, after (omega (arith, same, some)))))
        (and_left (nat_lt place.street street) (not (nat_lt 0 place.discarded && nat_lt place.discarded street)) (le-ltb place.street street late))
        (eq-eqb place.street street (omega (arith, here, late))) refl
  ]
]
  where
    by : (w x y z : Bool) → (nat_lt place.street (street + 1) && not (nat_lt 0 place.discarded && nat_lt place.discarded (street + 1))) ≡ w → (place.discarded == street) ≡ x → (nat_lt place.street street && not (nat_lt 0 place.discarded && nat_lt place.discarded street)) ≡ y → (place.street == street) ≡ z → one_if w + one_if x ≡ one_if y + one_if z → one_if (nat_lt place.street (street + 1) && not (nat_lt 0 place.discarded && nat_lt place.discarded (street + 1))) + one_if (place.discarded == street) ≡ one_if (nat_lt place.street street && not (nat_lt 0 place.discarded && nat_lt place.discarded street)) + one_if (place.street == street)
    by w x y z p q r s is = four (nat_lt place.street (street + 1) && not (nat_lt 0 place.discarded && nat_lt place.discarded (street + 1))) (place.discarded == street) (nat_lt place.street street && not (nat_lt 0 place.discarded && nat_lt place.discarded street)) (place.street == street) w x y z p q r s is

    now_in : place.street < street + 1 → (nat_lt 0 place.discarded && nat_lt place.discarded (street + 1)) ≡ false → (nat_lt place.street (street + 1) && not (nat_lt 0 place.discarded && nat_lt place.discarded (street + 1))) ≡ true
    now_in less out = and_from (nat_lt place.street (street + 1)) (not (nat_lt 0 place.discarded && nat_lt place.discarded (street + 1))) (lt-ltb place.street (street + 1) less) (ap not out)

    was_in : place.street < street → (nat_lt 0 place.discarded && nat_lt place.discarded street) ≡ false → (nat_lt place.street street && not (nat_lt 0 place.discarded && nat_lt place.discarded street)) ≡ true
    was_in less out = and_from (nat_lt place.street street) (not (nat_lt 0 place.discarded && nat_lt place.discarded street)) (lt-ltb place.street street less) (ap not out)

    now_out : 0 < place.discarded → place.discarded < street + 1 → (nat_lt place.street (street + 1) && not (nat_lt 0 place.discarded && nat_lt place.discarded (street + 1))) ≡ false
    now_out out less = and_right (nat_lt place.street (street + 1)) (not (nat_lt 0 place.discarded && nat_lt place.discarded (street + 1))) (ap not (and_from (nat_lt 0 place.discarded) (nat_lt place.discarded (street + 1)) (lt-ltb 0 place.discarded out) (lt-ltb place.discarded (street + 1) less)))

    was_out : 0 < place.discarded → place.discarded < street → (nat_lt place.street street && not (nat_lt 0 place.discarded && nat_lt place.discarded street)) ≡ false
    was_out out less = and_right (nat_lt place.street street) (not (nat_lt 0 place.discarded && nat_lt place.discarded street)) (ap not (and_from (nat_lt 0 place.discarded) (nat_lt place.discarded street) (lt-ltb 0 place.discarded out) (lt-ltb place.discarded street less)))

    stays_none : place.discarded ≤ 0 → (nat_lt 0 place.discarded && nat_lt place.discarded (street + 1)) ≡ false
    stays_none none = and_left (nat_lt 0 place.discarded) (nat_lt place.discarded (street + 1)) (le-ltb 0 place.discarded none)

    new_in : place.street ≡ street → (nat_lt 0 place.discarded ≡ true) ⊎ (nat_lt 0 place.discarded ≡ false) → (nat_lt 0 place.discarded && nat_lt place.discarded (street + 1)) ≡ false
    new_in here (inr none) = and_left (nat_lt 0 place.discarded) (nat_lt place.discarded (street + 1)) none
    new_in here (inl out) = and_right (nat_lt 0 place.discarded) (nat_lt place.discarded (street + 1)) (le-ltb place.discarded (street + 1) (omega (arith, here, after (ltb-true 0 place.discarded out))))

sum_step : (p q r t : Place → Bool) (place : Place) (rest : List Place) (a b c d : Bool) → one_if a + one_if b ≡ one_if c + one_if d → length (filter p rest) + length (filter q rest) ≡ length (filter r rest) + length (filter t rest) → length (if a then (place ∷ filter p rest) else filter p rest) + length (if b then (place ∷ filter q rest) else filter q rest) ≡ length (if c then (place ∷ filter r rest) else filter r rest) + length (if d then (place ∷ filter t rest) else filter t rest)
sum_step p q r t place rest a b c d is later = omega (arith, is, later, counted p place rest a, counted q place rest b, counted r place rest c, counted t place rest d)
  where
    counted : (p : Place → Bool) (place : Place) (rest : List Place) (a : Bool) → length (if a then (place ∷ filter p rest) else filter p rest) ≡ one_if a + length (filter p rest)
    counted p place rest true = omega arith
    counted p place rest false = omega arith

-- what a seat holds after a street plus what it discarded there is what it held and was dealt
pub balance : (seat street : ℕ) (placed : List Place) → 1 ≤ street → ((place : Place) → IsAmong placed place → 0 < place.discarded → place.street < place.discarded) → length (filter (is_held_at seat (street + 1)) placed) + length (filter (is_out_of street seat) placed) ≡ length (filter (is_held_at seat street) placed) + length (filter (is_in_group (Some seat) street) placed)
balance seat street [] some after = refl
balance seat street (place ∷ rest) some after =
    sum_step (is_held_at seat (street + 1)) (is_out_of street seat) (is_held_at seat street) (is_in_group (Some seat) street) place rest (is_held_at seat (street + 1) place) (is_out_of street seat place) (is_held_at seat street place) (is_in_group (Some seat) street place)
    (one_place seat street place (is_same_owner place.owner (Some seat)) some (after place (inl refl)))
    (balance seat street rest some (λ other among. after other (inr among)))

-- a seat holds no more than its hole cards
pub held_most : (setup : Setup) (rules : Rules) (events : List Said) (seat count : ℕ) → AreLegal setup rules events → length (filter (is_held_at seat (count + 1)) (places_of setup.code (past_of setup events))) ≤ first_holes (game_of setup.code).streets count
held_most setup rules events seat zero legal =
    let law = (legal_past setup rules events legal).places in
    omega (
      arith,
      none_pass (is_held_at seat (0 + 1)) (places_of setup.code (past_of setup events)) (λ place among.
          and_right (is_same_owner place.owner (Some seat)) (nat_lt place.street (0 + 1) && not (nat_lt 0 place.discarded && nat_lt place.discarded (0 + 1)))
          (and_left (nat_lt place.street (0 + 1)) (not (nat_lt 0 place.discarded && nat_lt place.discarded (0 + 1))) (le-ltb place.street (0 + 1) (omega (arith, law.since place among))))),
    )
held_most setup rules events seat (suc count) legal =
    let script : Past = past_of setup events in
    let placed : List Place = places_of setup.code script in
    let law = legal_past setup rules events legal in
    let before = held_most setup rules events seat count legal in
    let all = balance seat (count + 1) placed (omega arith) law.places.out_after in
    let dealt = group_count setup.code script (count + 1) seat in
    let out = out_counts setup rules events legal (count + 1) seat (omega arith) in
    let next : suc count ≡ count + 1 = omega arith in
    let index : (count + 1) - 1 ≡ count = omega arith in
    let step = one_more (game_of setup.code).streets count in
    let same = ap (λ k. length (filter (is_held_at seat (k + 1)) placed)) next in
    let nth = ap (λ k. option_map_or (λ (s : Street). s.down + s.up) (slice_get (game_of setup.code).streets k) 0) index in
    by_draw (has_draw setup.code (count + 1)) refl before all dealt out step same nth law
  where
    by_draw : (b : Bool) → has_draw setup.code (count + 1) ≡ b → length (filter (is_held_at seat (count + 1)) (places_of setup.code (past_of setup events))) ≤ first_holes (game_of setup.code).streets count → length (filter (is_held_at seat ((count + 1) + 1)) (places_of setup.code (past_of setup events))) + length (filter (is_out_of (count + 1) seat) (places_of setup.code (past_of setup events))) ≡ length (filter (is_held_at seat (count + 1)) (places_of setup.code (past_of setup events))) + length (filter (is_in_group (Some seat) (count + 1)) (places_of setup.code (past_of setup events))) → length (filter (is_in_group (Some seat) (count + 1)) (places_of setup.code (past_of setup events))) ≡ hole_cards_dealt (past_of setup events) (count + 1) seat → length (filter (is_out_of (count + 1) seat) (places_of setup.code (past_of setup events))) ≡ cards_discarded (past_of setup events) (count + 1) seat → first_holes (game_of setup.code).streets (suc count) ≡ first_holes (game_of setup.code).streets count + option_map_or (λ s. s.down + s.up) (slice_get (game_of setup.code).streets count) 0 → length (filter (is_held_at seat (suc count + 1)) (places_of setup.code (past_of setup events))) ≡ length (filter (is_held_at seat ((count + 1) + 1)) (places_of setup.code (past_of setup events))) → hole_cards_on setup.code (count + 1) ≡ option_map_or (λ s. s.down + s.up) (slice_get (game_of setup.code).streets count) 0 → LegalPast setup (past_of setup events) → length (filter (is_held_at seat (suc count + 1)) (places_of setup.code (past_of setup events))) ≤ first_holes (game_of setup.code).streets (suc count)
    by_draw true draws before all dealt out step same nth law = omega (arith, before, all, dealt, out, step, same, law.past.drawn_count (count + 1) seat draws)
    by_draw false draws before all dealt out step same nth law = omega (arith, before, all, dealt, out, step, same, nth, (legal_done setup rules events legal).done.dealt_most (count + 1) seat draws)

-- and so no more than seven
pub held_seven : (setup : Setup) (rules : Rules) (events : List Said) (seat count : ℕ) → AreLegal setup rules events → length (filter (is_held_at seat (count + 1)) (places_of setup.code (past_of setup events))) ≤ 7
held_seven setup rules events seat count legal =
    omega (arith, held_most setup rules events seat count legal, not_more (game_of setup.code).streets count, leb-true (all_holes (game_of setup.code).streets) 7 (seven setup.code))

-- what a draw takes was held when its street began
pub out_seven : (setup : Setup) (rules : Rules) (events : List Said) (seat street : ℕ) → AreLegal setup rules events → 1 ≤ street → length (filter (is_out_of street seat) (places_of setup.code (past_of setup events))) ≤ 7
out_seven setup rules events seat street legal some =
    let placed : List Place = places_of setup.code (past_of setup events) in
    let law = (legal_past setup rules events legal).places in
    let same : (street - 1) + 1 ≡ street = omega (arith, some) in
    omega (
      arith,
      held_seven setup rules events seat (street - 1) legal,
      ap (λ k. length (filter (is_held_at seat k) placed)) same,
      filter_less (is_out_of street seat) (is_held_at seat street) placed (λ place among is.
          let parts = and_parts (is_same_owner place.owner (Some seat)) (place.discarded == street) is in
          let here : place.discarded ≡ street = eqb-true place.discarded street parts.1 in
          and_from (is_same_owner place.owner (Some seat)) (nat_lt place.street street && not (nat_lt 0 place.discarded && nat_lt place.discarded street)) parts.0
          (and_from (nat_lt place.street street) (not (nat_lt 0 place.discarded && nat_lt place.discarded street)) (lt-ltb place.street street (omega (arith, here, law.out_after place among (omega (arith, here, some)))))
          (not_from_false (nat_lt 0 place.discarded && nat_lt place.discarded street) (and_right (nat_lt 0 place.discarded) (nat_lt place.discarded street) (le-ltb place.discarded street (omega (arith, here))))))),
    )
