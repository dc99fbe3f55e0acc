-- What holds of a legal hand that a log says: nobody mucks, all hole cards of a seat are known or
-- all are unknown, and in a limit game each raise is by the unit.
use Rattle.std.proofs.Common.{◌≡◌, ℕ, zero, suc, ◌+◌, ◌≤◌, Bool, true, false, ◌&&◌, ◌||◌, ◌==◌, not, if◌then◌else◌, List, [], ◌∷◌, ◌++◌, map, length, Option, Some, None, inl, inr, refl, sym, ap, subst, ◌∙◌, arith, true≢false}
use Rattle.std.specs.List.{AllByRecursion, list_any}
use Rattle.std.proofs.lemmas.Bool.{and_from, eq-eqb, eqb-true, or_cases, or_left, or_right}
use Rattle.card_set.specs.Known.{hides_card, known_slots}
use Rattle.card_set.specs.declared.card.Slot.{Slot}
use Rattle.play_event.specs.Amounts.{unit_target}
use Rattle.play_event.specs.Dealing.{hole_cards_dealt}
use Rattle.play_event.specs.Due.{turn}
use Rattle.play_event.specs.Games.{hole_cards_on}
use Rattle.play_event.specs.Laws.{AreLegal, IsAmong}
use Rattle.play_event.specs.Past.{Move, Past, is_raising, moves_of}
use Rattle.play_event.specs.Places.{Place, after_fold, folded_place, gone_now, is_held_by, is_in_group, is_same_owner, places_dealt}
use Rattle.play_event.specs.Said as said
use Rattle.play_event.specs.Said.{Said}
use Rattle.play_event.specs.Scripts.{past_of, with_event}
use Rattle.play_event.specs.Showing.{has_mucked}
use Rattle.play_event.specs.Table.{places_of}
use Rattle.play_event.specs.declared.event.Spelled.{Spelled}
use Rattle.play_event.specs.declared.event.Spelled.TheVariants as spelled
use Rattle.play_event.specs.declared.setup.Rules.{Rules}
use Rattle.play_event.specs.declared.setup.Setup.{Setup}
use Rattle.play_laws.proofs.DonePasts.{legal_done}
use Rattle.play_laws.proofs.DueAtEvents.{turn_reaches}
use Rattle.play_laws.proofs.LegalPlaces.{group_count, legal_past, some_passes}
use Rattle.acpc_format.proofs.Holdem.{IsHoldem}
use Rattle.acpc_format.proofs.LogEvents.{IsLogEvent}

-- ---- mucks

-- no event of a log is a muck
pub none_mucked : (no_limit : Bool) (setup : Setup) (events : List Said) (seat : ℕ) → AllByRecursion (IsLogEvent no_limit) events → has_mucked (past_of setup events) seat ≡ false
unfolding with_event
none_mucked no_limit setup [] seat each = refl
none_mucked no_limit setup (said.Hole owner cards ∷ events) seat each = none_mucked no_limit setup events seat each.1
none_mucked no_limit setup (said.Board cards ∷ events) seat each = none_mucked no_limit setup events seat each.1
none_mucked no_limit setup (said.Fold named ∷ events) seat each = none_mucked no_limit setup events seat each.1
none_mucked no_limit setup (said.Call named stated ∷ events) seat each = none_mucked no_limit setup events seat each.1
none_mucked no_limit setup (said.Raise named amount ∷ events) seat each = none_mucked no_limit setup events seat each.1
none_mucked no_limit setup (said.BringIn named ∷ events) seat each = absurd each.0
none_mucked no_limit setup (said.Discard owner cards ∷ events) seat each = absurd each.0
none_mucked no_limit setup (said.Show owner cards ∷ events) seat each = absurd each.0
none_mucked no_limit setup (said.Muck owner ∷ events) seat each = absurd each.0

-- ---- raises

-- each raise has the target of one by the unit
abbrev pub AreByUnit : Setup → List Move → Type 0
AreByUnit setup [] = Unit {0}
AreByUnit setup (move ∷ older) = (is_raising move.act ≡ true → move.to ≡ unit_target setup older move.street move.seat) × AreByUnit setup older

raise_unit : (setup : Setup) (past : Past) (named : Option ℕ) (amount : Spelled) → IsLogEvent false (said.Raise named amount) → AreByUnit setup (moves_of past) → AreByUnit setup (moves_of (with_event setup (said.Raise named amount) past))
unfolding with_event
raise_unit setup past None spelled.Unit is older = (λ raises. refl, older)
raise_unit setup past None (spelled.HandTotal total) is older = absurd (true≢false (sym is))
raise_unit setup past None (spelled.To target) is older = absurd is
raise_unit setup past None (spelled.Added chips) is older = absurd is
raise_unit setup past (Some seat) amount is older = absurd is

pub by_unit : (setup : Setup) (events : List Said) → AllByRecursion (IsLogEvent false) events → AreByUnit setup (moves_of (past_of setup events))
unfolding with_event
by_unit setup [] each = tt
by_unit setup (said.Hole owner cards ∷ events) each = by_unit setup events each.1
by_unit setup (said.Board cards ∷ events) each = by_unit setup events each.1
by_unit setup (said.Fold named ∷ events) each = (λ raises. absurd (true≢false (sym raises)), by_unit setup events each.1)
by_unit setup (said.Call named stated ∷ events) each = (λ raises. absurd (true≢false (sym raises)), by_unit setup events each.1)
by_unit setup (said.Raise named amount ∷ events) each = raise_unit setup (past_of setup events) named amount each.0 (by_unit setup events each.1)
by_unit setup (said.BringIn named ∷ events) each = absurd each.0
by_unit setup (said.Discard owner cards ∷ events) each = absurd each.0
by_unit setup (said.Show owner cards ∷ events) each = absurd each.0
by_unit setup (said.Muck owner ∷ events) each = absurd each.0

-- ---- hole cards

-- if each of some places fails a test, none passes it
none_among : (p : Place → Bool) (placed : List Place) → ((place : Place) → IsAmong placed place → p place ≡ false) → list_any p placed ≡ false
none_among p [] none = refl
none_among p (first ∷ rest) none = by_first (p first) (none first (inl refl)) (none_among p rest (λ place among. none place (inr among)))
  where
    by_first : (b : Bool) → b ≡ false → list_any p rest ≡ false → (b || list_any p rest) ≡ false
    by_first false is rest_none = rest_none
    by_first true is rest_none = absurd (true≢false is)

-- if some place passes one test, one passes another
pub any_among : (p q : Place → Bool) (placed : List Place) → ((place : Place) → IsAmong placed place → p place ≡ true → q place ≡ true) → list_any p placed ≡ true → list_any q placed ≡ true
any_among p q [] goes some = some
any_among p q (first ∷ rest) goes some = elim (or_cases (p first) (list_any p rest) some) [
  | inl here ↦ or_left (q first) (list_any q rest) (goes first (inl refl) here)
  | inr there ↦ or_right (q first) (list_any q rest) (any_among p q rest (λ place among. goes place (inr among)) there)
]

-- the card of a seat that is unknown, and one that is known
abbrev pub is_hidden_of : ℕ → Place → Bool
is_hidden_of seat place = is_same_owner place.owner (Some seat) && hides_card place.slot

abbrev pub is_open_of : ℕ → Place → Bool
is_open_of seat place = is_same_owner place.owner (Some seat) && not (hides_card place.slot)

-- no seat has both a known and an unknown card
abbrev pub IsWholeSeat : List Place → ℕ → Type 0
IsWholeSeat placed seat = (list_any (is_hidden_of seat) placed && list_any (is_open_of seat) placed) ≡ false

-- a card of a seat was dealt to it on a street
dealt_there : (setup : Setup) (past : Past) (seat : ℕ) (place : Place) → IsAmong (places_of setup.code past) place → is_same_owner place.owner (Some seat) ≡ true → 1 ≤ hole_cards_dealt past place.street seat
dealt_there setup past seat place among own =
    omega (
      arith,
      group_count setup.code past place.street seat,
      some_passes (is_in_group (Some seat) place.street) (places_of setup.code past) place among (and_from (is_same_owner place.owner (Some seat)) (place.street == place.street) own (eq-eqb place.street place.street refl)),
    )

-- hole cards are dealt on the first street only
first_alone : (setup : Setup) (rules : Rules) (events : List Said) (seat street : ℕ) → IsHoldem setup.code → AreLegal setup rules events → 1 ≤ street → 1 ≤ hole_cards_dealt (past_of setup events) street seat → street ≡ 1
first_alone setup rules events seat zero is legal since some = absurd (omega (arith, since))
first_alone setup rules events seat (suc zero) is legal since some = refl
first_alone setup rules events seat (suc (suc before)) is legal since some =
    absurd (omega (arith, some, (legal_done setup rules events legal).done.dealt_most (suc (suc before)) seat (is.no_draw (suc (suc before))), is.later_holes (suc (suc before)) (omega arith)))

pub on_first : (setup : Setup) (rules : Rules) (events : List Said) (seat : ℕ) (place : Place) → IsHoldem setup.code → AreLegal setup rules events → IsAmong (places_of setup.code (past_of setup events)) place → is_same_owner place.owner (Some seat) ≡ true → place.street ≡ 1
on_first setup rules events seat place is legal among own =
    first_alone setup rules events seat place.street is legal ((legal_past setup rules events legal).places.since place among) (dealt_there setup (past_of setup events) seat place among own)

-- places that are dealt together
any_append : (p : Place → Bool) (xs ys : List Place) → list_any p (xs ++ ys) ≡ (list_any p xs || list_any p ys)
any_append p [] ys = refl
any_append p (x ∷ xs) ys = ap (λ b. p x || b) (any_append p xs ys) ∙ group (p x) (list_any p xs) (list_any p ys)
  where
    group : (a b c : Bool) → (a || (b || c)) ≡ ((a || b) || c)
    group true b c = refl
    group false b c = refl

dealt_any : (test : Slot → Bool) (owner : Option ℕ) (seat street : ℕ) (late : Bool) (index number : ℕ) (cards : List Slot)
    → list_any (λ (place : Place). is_same_owner place.owner (Some seat) && test place.slot) (places_dealt owner street late index number cards) ≡ (is_same_owner owner (Some seat) && list_any test cards)
dealt_any test owner seat street late index number [] = none (is_same_owner owner (Some seat))
  where
    none : (b : Bool) → false ≡ (b && false)
    none true = refl
    none false = refl
dealt_any test owner seat street late index number (card ∷ cards) =
    ap (λ b. (is_same_owner owner (Some seat) && test card) || b) (dealt_any test owner seat street late (index + 1) (number + 1) cards) ∙ both (is_same_owner owner (Some seat)) (test card) (list_any test cards)
  where
    both : (own here there : Bool) → ((own && here) || (own && there)) ≡ (own && (here || there))
    both true here there = refl
    both false here there = refl

-- a fold does not change owners and cards
fold_any : (test : Slot → Bool) (seat folder count : ℕ) (placed : List Place) → list_any (λ (place : Place). is_same_owner place.owner (Some seat) && test place.slot) (map (folded_place folder count) placed) ≡ list_any (λ (place : Place). is_same_owner place.owner (Some seat) && test place.slot) placed
fold_any test seat folder count [] = refl
fold_any test seat folder count (place ∷ placed) =
    ap (λ b. b || list_any (λ (p : Place). is_same_owner p.owner (Some seat) && test p.slot) (map (folded_place folder count) placed)) (one (is_held_by folder place))
    ∙ ap (λ b. (is_same_owner place.owner (Some seat) && test place.slot) || b) (fold_any test seat folder count placed)
  where
    one : (b : Bool) → (is_same_owner (if b then gone_now count place else place).owner (Some seat) && test (if b then gone_now count place else place).slot) ≡ (is_same_owner place.owner (Some seat) && test place.slot)
    one true = refl
    one false = refl

is_open : Slot → Bool
is_open slot = not (hides_card slot)

-- a deal to the board does not change the cards of a seat
board_whole : (seat street : ℕ) (late : Bool) (index number : ℕ) (cards : List Slot) (placed : List Place) → IsWholeSeat placed seat → IsWholeSeat (placed ++ places_dealt None street late index number cards) seat
unfolding is_open
board_whole seat street late index number cards placed whole =
    ap (λ b. b && list_any (is_open_of seat) (placed ++ places_dealt None street late index number cards)) (any_append (is_hidden_of seat) placed (places_dealt None street late index number cards) ∙ ap (λ b. list_any (is_hidden_of seat) placed || b) (dealt_any hides_card None seat street late index number cards))
    ∙ ap (λ b. (list_any (is_hidden_of seat) placed || false) && b) (any_append (is_open_of seat) placed (places_dealt None street late index number cards) ∙ ap (λ b. list_any (is_open_of seat) placed || b) (dealt_any is_open None seat street late index number cards))
    ∙ none_more (list_any (is_hidden_of seat) placed) (list_any (is_open_of seat) placed) whole
  where
    none_more : (a b : Bool) → (a && b) ≡ false → ((a || false) && (b || false)) ≡ false
    none_more true true is = is
    none_more true false is = refl
    none_more false b is = refl

-- a deal of cards that are all known or all unknown to a seat that had none
hole_whole : (seat owner street : ℕ) (late : Bool) (index number : ℕ) (cards : List Slot) (placed : List Place) → (list_any hides_card cards && list_any is_open cards) ≡ false
    → (owner ≡ seat → (list_any (is_hidden_of seat) placed ≡ false) × (list_any (is_open_of seat) placed ≡ false)) → IsWholeSeat placed seat → IsWholeSeat (placed ++ places_dealt (Some owner) street late index number cards) seat
unfolding is_open
hole_whole seat owner street late index number cards placed two first whole =
    ap (λ b. b && list_any (is_open_of seat) (placed ++ places_dealt (Some owner) street late index number cards)) (any_append (is_hidden_of seat) placed (places_dealt (Some owner) street late index number cards) ∙ ap (λ b. list_any (is_hidden_of seat) placed || b) (dealt_any hides_card (Some owner) seat street late index number cards))
    ∙ ap (λ b. (list_any (is_hidden_of seat) placed || ((owner == seat) && list_any hides_card cards)) && b) (any_append (is_open_of seat) placed (places_dealt (Some owner) street late index number cards) ∙ ap (λ b. list_any (is_open_of seat) placed || b) (dealt_any is_open (Some owner) seat street late index number cards))
    ∙ by_own (owner == seat) refl (list_any (is_hidden_of seat) placed) refl (list_any (is_open_of seat) placed) refl
  where
    by_own : (own : Bool) → (owner == seat) ≡ own → (a : Bool) → list_any (is_hidden_of seat) placed ≡ a → (b : Bool) → list_any (is_open_of seat) placed ≡ b
        → ((a || (own && list_any hides_card cards)) && (b || (own && list_any is_open cards))) ≡ false
    by_own false other a is_a b is_b = none_more a b (sym (ap (λ x. x && list_any (is_open_of seat) placed) is_a ∙ ap (λ x. a && x) is_b) ∙ whole)
      where
        none_more : (a b : Bool) → (a && b) ≡ false → ((a || false) && (b || false)) ≡ false
        none_more true true is = is
        none_more true false is = refl
        none_more false b is = refl
    by_own true own a is_a b is_b =
        let none = first (eqb-true owner seat own) in
        ap (λ x. (x || list_any hides_card cards) && (b || list_any is_open cards)) (sym is_a ∙ none.0)
        ∙ ap (λ x. list_any hides_card cards && (x || list_any is_open cards)) (sym is_b ∙ none.1)
        ∙ two

fold_whole : (seat folder : ℕ) (placed : List Place) → IsWholeSeat placed seat → IsWholeSeat (after_fold folder placed) seat
unfolding is_open
fold_whole seat folder placed whole =
    ap (λ b. b && list_any (is_open_of seat) (after_fold folder placed)) (fold_any hides_card seat folder (length placed) placed)
    ∙ ap (λ b. list_any (is_hidden_of seat) placed && b) (fold_any is_open seat folder (length placed) placed)
    ∙ whole

-- before a deal of two cards a seat has none
no_card_yet : (setup : Setup) (rules : Rules) (events : List Said) (seat : ℕ) (cards : List Slot) → IsHoldem setup.code → AreLegal setup rules (said.Hole seat cards ∷ events) → length cards ≡ 2
    → (place : Place) → IsAmong (places_of setup.code (past_of setup events)) place → is_same_owner place.owner (Some seat) ≡ false
unfolding with_event
no_card_yet setup rules events seat cards is legal two place among = by_own (is_same_owner place.owner (Some seat)) refl
  where
    past : Past
    past = past_of setup events

    street : ℕ
    street = (turn setup past).0

    since : 1 ≤ street
    since =
        let law = (legal_past setup rules events legal.1).past in
        omega (arith, law.since, (turn_reaches setup past law.within).on)

    more : hole_cards_dealt (past_of setup (said.Hole seat cards ∷ events)) street seat ≡ 2 + hole_cards_dealt past street seat
    more =
        ap {B = ℕ} (λ b. (if b && (seat == seat) then length cards else 0) + hole_cards_dealt past street seat) (eq-eqb street street refl)
        ∙ ap {B = ℕ} (λ b. (if b then length cards else 0) + hole_cards_dealt past street seat) (eq-eqb seat seat refl)
        ∙ omega (arith, two)

    here : street ≡ 1
    here = first_alone setup rules (said.Hole seat cards ∷ events) seat street is legal since (omega (arith, more))

    most : hole_cards_dealt (past_of setup (said.Hole seat cards ∷ events)) street seat ≤ hole_cards_on setup.code street
    most = (legal_done setup rules (said.Hole seat cards ∷ events) legal).done.dealt_most street seat (is.no_draw street)

    by_own : (own : Bool) → is_same_owner place.owner (Some seat) ≡ own → own ≡ false
    by_own false own = refl
    by_own true own =
        let same : place.street ≡ street = on_first setup rules events seat place is legal.1 among own ∙ sym here in
        absurd (omega (arith, more, most, ap (hole_cards_on setup.code) here, is.holes, ap (λ n. hole_cards_dealt past n seat) same, dealt_there setup past seat place among own))

no_slot_yet : (setup : Setup) (rules : Rules) (events : List Said) (seat : ℕ) (cards : List Slot) (test : Slot → Bool) → IsHoldem setup.code → AreLegal setup rules (said.Hole seat cards ∷ events) → length cards ≡ 2
    → list_any (λ (place : Place). is_same_owner place.owner (Some seat) && test place.slot) (places_of setup.code (past_of setup events)) ≡ false
no_slot_yet setup rules events seat cards test is legal two =
    none_among (λ (place : Place). is_same_owner place.owner (Some seat) && test place.slot) (places_of setup.code (past_of setup events)) (λ place among.
    ap (λ b. b && test place.slot) (no_card_yet setup rules events seat cards is legal two place among))

-- all hole cards of a seat are known, or all are unknown
pub all_whole : (no_limit : Bool) (setup : Setup) (rules : Rules) (events : List Said) (seat : ℕ) → IsHoldem setup.code → AreLegal setup rules events → AllByRecursion (IsLogEvent no_limit) events → IsWholeSeat (places_of setup.code (past_of setup events)) seat
unfolding with_event is_open
all_whole no_limit setup rules [] seat is legal each = refl
all_whole no_limit setup rules (said.Hole owner cards ∷ events) seat is legal each =
    let placed = places_of setup.code (past_of setup events) in
    hole_whole seat owner _ _ _ _ cards placed each.0.whole
    (λ same.
    let P : ℕ → Type 0 = λ n. (list_any (is_hidden_of n) placed ≡ false) × (list_any (is_open_of n) placed ≡ false) in
    subst P same (no_slot_yet setup rules events owner cards hides_card is legal each.0.two, no_slot_yet setup rules events owner cards is_open is legal each.0.two))
    (all_whole no_limit setup rules events seat is legal.1 each.1)
all_whole no_limit setup rules (said.Board cards ∷ events) seat is legal each =
    board_whole seat _ _ _ _ (known_slots cards) (places_of setup.code (past_of setup events)) (all_whole no_limit setup rules events seat is legal.1 each.1)
all_whole no_limit setup rules (said.Fold named ∷ events) seat is legal each =
    fold_whole seat _ (places_of setup.code (past_of setup events)) (all_whole no_limit setup rules events seat is legal.1 each.1)
all_whole no_limit setup rules (said.Call named stated ∷ events) seat is legal each = all_whole no_limit setup rules events seat is legal.1 each.1
all_whole no_limit setup rules (said.Raise named amount ∷ events) seat is legal each = all_whole no_limit setup rules events seat is legal.1 each.1
all_whole no_limit setup rules (said.BringIn named ∷ events) seat is legal each = absurd each.0
all_whole no_limit setup rules (said.Discard owner cards ∷ events) seat is legal each = absurd each.0
all_whole no_limit setup rules (said.Show owner cards ∷ events) seat is legal each = absurd each.0
all_whole no_limit setup rules (said.Muck owner ∷ events) seat is legal each = absurd each.0
