-- The trace's order has all places of its streets, and keeps each seat's order of dealing.
use Rattle.std.proofs.Common.{◌≡◌, ℕ, zero, suc, ◌+◌, ◌≤◌, ◌<◌, Bool, true, false, ◌&&◌, ◌==◌, not, nat_lt, nat_le, inl, inr, Option, Some, None, List, [], ◌∷◌, ◌++◌, map, filter, length, count_by, refl, sym, ◌∙◌, ap, subst, arith, if◌then◌else◌}
use Rattle.std.specs.List.{flat_map, range_with_len}
use Rattle.std.proofs.lemmas.Bool.{and_parts, and_from, eqb-true, eq-eqb, ne_eqb, both_ways, lt-ltb, ltb-true, le-leb, leb-true, not_from_false, not_from_true}
use Rattle.std.proofs.lemmas.List.Sums.{length-filter, count_by-le-length}
use Rattle.card_set.specs.declared.card.Slot.{Slot}
use Rattle.card_set.specs.declared.card.Slot.TheVariants as slots
use Rattle.play_event.specs.declared.setup.Setup.{Setup}
use Rattle.play_event.specs.declared.setup.Rules.{Rules}
use Rattle.play_event.specs.Said.{Said}
use Rattle.play_event.specs.Past.{Past, Resolved, Move, is_folding}
use Rattle.play_event.specs.Due.{turn}
use Rattle.play_event.specs.Places.{Place, is_same_owner, is_in_group, is_up, is_past_deck, places_dealt, after_deal, after_fold, group_of}
use Rattle.play_event.specs.NameMatching.{after_discard, after_show}
use Rattle.play_event.specs.Table.{places_of}
use Rattle.play_event.specs.Scripts.{with_event, past_of}
use Rattle.play_event.specs.Trace.{owners, places_on}
use Rattle.play_event.specs.Laws.{IsAmong, AreLegal}
use Rattle.card_set.proofs.Tests.{false_true}
use Rattle.play_event.proofs.ClashLaws.{among_append}
use Rattle.canon_laws.proofs.Mirrors.{Mirrors, AreMirrored}
use Rattle.play_laws.proofs.LegalEvents.{Stepped, deals, boards, moves, discards, shows, mucks, stepped}
use Rattle.play_laws.proofs.DealtPlaces.{are_new}
use Rattle.play_laws.proofs.PlaceGroups.{AreRising, passed, rising_filter}
use Rattle.canon_laws.proofs.FreeGroups.{IsAsLate, is_out_by}
use Rattle.play_laws.proofs.KnownUpCards.{AreSureOf, discard_sure, show_sure, fold_sure}
use Rattle.play_laws.proofs.UnknownOrder.{AreSorted, street_number, sure_from}
use Rattle.play_laws.proofs.MovesLaw.{is_up_by, ups_by}
use Rattle.canon_laws.proofs.TraceOrder.{IsOwner, a_seat, the_board, finals_of, finals_group, is_final, on_street_is, finals_from, filter_flat, owners_hit, street_group}

-- each card is a seat's or the board's
abbrev pub AreOwned : Setup → List Place → Type 0
AreOwned setup placed = (place : Place) → IsAmong placed place → IsOwner setup place.owner

owned_sure : (setup : Setup) (olds news : List Place) → AreSureOf olds news → AreOwned setup olds → AreOwned setup news
owned_sure setup olds news sure owned place among =
    let it = sure_from olds news place sure among in
    let P : Option ℕ → Type 0 = IsOwner setup in subst P (sym it.sure.owner) (owned it.old it.among)

owned_deal : (setup : Setup) (owner : Option ℕ) (at : ℕ) (cards : List Slot) (placed : List Place) → IsOwner setup owner → AreOwned setup placed → AreOwned setup (after_deal setup.code owner at cards placed)
owned_deal setup owner at cards placed own owned place among =
    let late : Bool = is_past_deck setup.code placed at in
    let index : ℕ = count_by (is_in_group owner at) placed in
    let P : Option ℕ → Type 0 = IsOwner setup in
    elim (among_append placed (places_dealt owner at late index (length placed) cards) place among) [
      | inl old ↦ owned place old
      | inr new ↦ subst P (sym (are_new owner at late index (length placed) cards place new).owner) own
    ]

owned_step : (setup : Setup) (before : Past) (at : ℕ) (event : Resolved) → Stepped setup before at event → AreOwned setup (places_of setup.code before) → AreOwned setup (places_of setup.code (event ∷ before))
owned_step setup before at _ (deals seat cards due is some few free) owned =
    let parts = and_parts (nat_le 1 seat) (nat_le seat setup.stacks.seats) is in
    owned_deal setup (Some seat) at cards (places_of setup.code before) (a_seat seat (leb-true 1 seat parts.0) (leb-true seat setup.stacks.seats parts.1)) owned
owned_step setup before at _ (boards cards due some few free) owned = owned_deal setup None at (map (λ card. slots.Known card) cards) (places_of setup.code before) the_board owned
owned_step setup before at _ (mucks seat may) owned = owned
owned_step setup before at _ (shows seat cards may free) owned = owned_sure setup (places_of setup.code before) (after_show setup.code seat cards (places_of setup.code before)) (show_sure setup.code seat cards (places_of setup.code before)) owned
owned_step setup before at _ (discards seat cards no_deal draw next few free held) owned = owned_sure setup (places_of setup.code before) (after_discard at seat cards (places_of setup.code before)) (discard_sure at seat cards (places_of setup.code before)) owned
owned_step setup before at _ (moves played no_deal no_draw on) owned = by_fold (is_folding played.act)
  where
    by_fold : (b : Bool) → AreOwned setup (if b then after_fold played.seat (places_of setup.code before) else places_of setup.code before)
    by_fold true = owned_sure setup (places_of setup.code before) (after_fold played.seat (places_of setup.code before)) (fold_sure played.seat (length (places_of setup.code before)) (places_of setup.code before)) owned
    by_fold false = owned

-- after legal events each place is a seat's or the board's
pub legal_owned : (setup : Setup) (rules : Rules) (events : List Said) → AreLegal setup rules events → AreOwned setup (places_of setup.code (past_of setup events))
unfolding with_event
legal_owned setup rules [] legal = λ place among. absurd among
legal_owned setup rules (event ∷ events) legal =
    owned_step setup (past_of setup events) (turn setup (past_of setup events)).0 _ (stepped setup rules (past_of setup events) event legal.0) (legal_owned setup rules events legal.1)

-- a card is in the trace's order
pub in_filter : (p : Place → Bool) (placed : List Place) (place : Place) → IsAmong placed place → p place ≡ true → IsAmong (filter p placed) place
in_filter p [] place among is = absurd among
in_filter p (first ∷ rest) place (inl same) is =
    let P : List Place → Type 0 = λ l. IsAmong l place in
    subst P (sym (ap (λ b. if b then (first ∷ filter p rest) else filter p rest) (ap p same ∙ is))) (inl same)
in_filter p (first ∷ rest) place (inr later) is = by_first (p first) (in_filter p rest place later is)
  where
    by_first : (b : Bool) → IsAmong (filter p rest) place → IsAmong (if b then (first ∷ filter p rest) else filter p rest) place
    by_first true it = inr it
    by_first false it = it

-- each place of a street up to this one is in the trace's order
pub in_finals : (setup : Setup) (placed : List Place) (count : ℕ) (place : Place) → AreOwned setup placed → IsAmong placed place → 1 ≤ place.street → place.street ≤ count → IsAmong (finals_of setup placed count) place
in_finals setup placed count place owned among least most =
    let P : List Place → Type 0 = λ l. IsAmong l place in
    let here : IsAmong (group_of placed place.street place.owner) place = in_filter (is_in_group place.owner place.street) placed place among (and_from (is_same_owner place.owner place.owner) (place.street == place.street) (self place.owner) (eq-eqb place.street place.street refl)) in
    (passed (is_in_group place.owner place.street) (finals_of setup placed count) place (subst P (sym (finals_group setup placed place.owner place.street count (owned place among) least most)) here)).among
  where
    self : (owner : Option ℕ) → is_same_owner owner owner ≡ true
    self (Some seat) = eq-eqb seat seat refl
    self None = refl

-- different places that are all among others are at most as many
less_one : (place : Place) (places : List Place) → IsAmong places place → length (filter (λ (other : Place). not (other.number == place.number)) places) + 1 ≤ length places
less_one place [] among = absurd among
less_one place (first ∷ rest) (inl same) =
    omega (arith, ap (λ b. length (if b then (first ∷ filter (λ (other : Place). not (other.number == place.number)) rest) else filter (λ (other : Place). not (other.number == place.number)) rest)) (not_from_true (first.number == place.number) (eq-eqb first.number place.number (ap (λ (p : Place). p.number) same))), at_most rest)
  where
    at_most : (places : List Place) → length (filter (λ (other : Place). not (other.number == place.number)) places) ≤ length places
    at_most places = omega (arith, length-filter (λ (other : Place). not (other.number == place.number)) places, count_by-le-length (λ (other : Place). not (other.number == place.number)) places)
less_one place (first ∷ rest) (inr later) = by_first (not (first.number == place.number)) (less_one place rest later)
  where
    by_first : (b : Bool) → length (filter (λ (other : Place). not (other.number == place.number)) rest) + 1 ≤ length rest → length (if b then (first ∷ filter (λ (other : Place). not (other.number == place.number)) rest) else filter (λ (other : Place). not (other.number == place.number)) rest) + 1 ≤ length (first ∷ rest)
    by_first true it = omega (arith, it)
    by_first false it = omega (arith, it)

-- places with rising numbers that are all among others are at most as many
pub no_more : (some all : List Place) → AreRising some → ((place : Place) → IsAmong some place → IsAmong all place) → length some ≤ length all
no_more [] all up sub = omega arith
no_more (first ∷ rest) all up sub =
    let left : List Place = filter (λ (other : Place). not (other.number == first.number)) all in
    let fewer = no_more rest left up.1 (λ place among. in_filter (λ (other : Place). not (other.number == first.number)) all place (sub place (inr among)) (not_from_false (place.number == first.number) (ne_eqb place.number first.number (λ same. omega (arith, same, up.0 place among))))) in
    omega (arith, fewer, less_one first all (sub first (inl refl)))

-- a test passes in the trace's order as often as among the places
pub all_there : (setup : Setup) (placed : List Place) (p : Place → Bool) (count : ℕ) → AreRising placed → AreOwned setup placed → ((place : Place) → IsAmong placed place → p place ≡ true → (1 ≤ place.street) × (place.street ≤ count)) → length (filter p placed) ≤ length (filter p (finals_of setup placed count))
all_there setup placed p count up owned within =
    no_more (filter p placed) (filter p (finals_of setup placed count)) (rising_filter p placed up) (λ place among.
    let it = passed p placed place among in
    let on = within place it.among it.passes in
    in_filter p (finals_of setup placed count) place (in_finals setup placed count place owned it.among on.0 on.1) it.passes)

-- two ascending lists of the same places are the same
first_of : (xs : List Place) (x y : Place) (ys : List Place) → AreRising (x ∷ xs) → AreRising (y ∷ ys) → IsAmong (y ∷ ys) x → IsAmong (x ∷ xs) y → x ≡ y
first_of xs x y ys up_x up_y (inl same) in_y = sym same
first_of xs x y ys up_x up_y (inr later) (inl same) = same
first_of xs x y ys up_x up_y (inr x_later) (inr y_later) = absurd (omega (arith, up_y.0 x x_later, up_x.0 y y_later))

-- lists of ascending numbers with the same places are the same
pub rising_same : (xs ys : List Place) → AreRising xs → AreRising ys → ((place : Place) → IsAmong xs place → IsAmong ys place) → ((place : Place) → IsAmong ys place → IsAmong xs place) → xs ≡ ys
rising_same [] [] up_x up_y there back = refl
rising_same [] (y ∷ ys) up_x up_y there back = absurd (back y (inl refl))
rising_same (x ∷ xs) [] up_x up_y there back = absurd (there x (inl refl))
rising_same (x ∷ xs) (y ∷ ys) up_x up_y there back =
    let same : x ≡ y = first_of xs x y ys up_x up_y (there x (inl refl)) (back y (inl refl)) in
    ap (λ p. p ∷ xs) same ∙ ap (λ l. y ∷ l) (rising_same xs ys up_x.1 up_y.1
    (λ place among. elim (there place (inr among)) [ inl is ↦ absurd (omega (arith, up_x.0 place among, ap (λ (p : Place). p.number) (same ∙ is))) | inr later ↦ later ])
    (λ place among. elim (back place (inr among)) [ inl is ↦ absurd (omega (arith, up_y.0 place among, ap (λ (p : Place). p.number) (sym same ∙ is))) | inr later ↦ later ]))

-- the numbers of one owner's cards are ascending in the trace's order
rising_append : (xs ys : List Place) → AreRising xs → AreRising ys → ((x y : Place) → IsAmong xs x → IsAmong ys y → x.number < y.number) → AreRising (xs ++ ys)
rising_append [] ys up_x up_y cross = up_y
rising_append (x ∷ xs) ys up_x up_y cross = (
  λ later among. elim (among_append xs ys later among) [ inl here ↦ up_x.0 later here | inr there ↦ cross x later (inl refl) there ],
  rising_append xs ys up_x.1 up_y (λ a b in_a in_b. cross a b (inr in_a) in_b),
)

filter_sub : (q g : Place → Bool) (places : List Place) → ((place : Place) → IsAmong places place → q place ≡ true → g place ≡ true) → filter q places ≡ filter q (filter g places)
filter_sub q g [] sub = refl
filter_sub q g (first ∷ rest) sub = by_both (q first) (g first) refl refl (filter_sub q g rest (λ place among. sub place (inr among)))
  where
    by_both : (a b : Bool) → q first ≡ a → g first ≡ b → filter q rest ≡ filter q (filter g rest) → (if q first then (first ∷ filter q rest) else filter q rest) ≡ filter q (if g first then (first ∷ filter g rest) else filter g rest)
    by_both true true is_q is_g later =
        ap (λ c. if c then (first ∷ filter q rest) else filter q rest) is_q
        ∙ (ap (λ l. first ∷ l) later ∙ sym (ap (λ c. filter q (if c then (first ∷ filter g rest) else filter g rest)) is_g ∙ ap (λ c. if c then (first ∷ filter q (filter g rest)) else filter q (filter g rest)) is_q))
    by_both true false is_q is_g later = absurd (both_ways (g first) is_g (sub first (inl refl) is_q))
    by_both false true is_q is_g later =
        ap (λ c. if c then (first ∷ filter q rest) else filter q rest) is_q
        ∙ (later ∙ sym (ap (λ c. filter q (if c then (first ∷ filter g rest) else filter g rest)) is_g ∙ ap (λ c. if c then (first ∷ filter q (filter g rest)) else filter q (filter g rest)) is_q))
    by_both false false is_q is_g later =
        ap (λ c. if c then (first ∷ filter q rest) else filter q rest) is_q
        ∙ (later ∙ sym (ap (λ c. filter q (if c then (first ∷ filter g rest) else filter g rest)) is_g))

seat_on : (setup : Setup) (placed : List Place) (q : Place → Bool) (seat street : ℕ) → 1 ≤ seat → seat ≤ setup.stacks.seats → ((place : Place) → q place ≡ true → is_same_owner place.owner (Some seat) ≡ true) → filter q (places_on setup placed street) ≡ filter q (group_of placed street (Some seat))
seat_on setup placed q seat street least most mine =
    filter_sub q (is_in_group (Some seat) street) (places_on setup placed street) (λ place among is. and_from (is_same_owner place.owner (Some seat)) (place.street == street) (mine place is) (eq-eqb place.street street (on_street_is setup placed street (owners setup) place among).1))
    ∙ ap (filter q) (street_group setup placed (Some seat) street street ∙ owners_hit setup placed (Some seat) street street (a_seat seat least most) (eq-eqb street street refl))

seat_rises : (setup : Setup) (placed : List Place) (q : Place → Bool) (seat start count : ℕ) → AreRising placed → AreSorted placed → 1 ≤ start → 1 ≤ seat → seat ≤ setup.stacks.seats → ((place : Place) → q place ≡ true → is_same_owner place.owner (Some seat) ≡ true) → AreRising (flat_map (λ street. filter q (places_on setup placed street)) (range_with_len start count))
seat_rises setup placed q seat start zero up sorted some least most mine = tt
seat_rises setup placed q seat start (suc count) up sorted some least most mine =
    let P : List Place → Type 0 = AreRising in
    rising_append (filter q (places_on setup placed start)) (flat_map (λ street. filter q (places_on setup placed street)) (range_with_len (start + 1) count))
    (subst P (sym (seat_on setup placed q seat start least most mine)) (rising_filter q (group_of placed start (Some seat)) (rising_filter (is_in_group (Some seat) start) placed up)))
    (seat_rises setup placed q seat (start + 1) count up sorted (omega arith) least most mine)
    (λ x y in_x in_y.
    let one = on_street_is setup placed start (owners setup) x (passed q (places_on setup placed start) x in_x).among in
    let Q : List Place → Type 0 = λ l. IsAmong l y in
    let two = finals_from setup placed (start + 1) count y (omega arith) (passed q (flat_map (places_on setup placed) (range_with_len (start + 1) count)) y (subst Q (sym (filter_flat q (places_on setup placed) (range_with_len (start + 1) count))) in_y)).among in
    street_number placed x y up sorted one.0 two.0 (omega (arith, one.1, two.1.0)))

-- so what a seat has of a kind is the same list in both orders
pub seat_same : (setup : Setup) (placed : List Place) (q : Place → Bool) (seat count : ℕ) → AreRising placed → AreSorted placed → AreOwned setup placed → 1 ≤ seat → seat ≤ setup.stacks.seats → ((place : Place) → q place ≡ true → is_same_owner place.owner (Some seat) ≡ true) → ((place : Place) → IsAmong placed place → q place ≡ true → (1 ≤ place.street) × (place.street ≤ count)) → filter q (finals_of setup placed count) ≡ filter q placed
seat_same setup placed q seat count up sorted owned least most mine within =
    let P : List Place → Type 0 = AreRising in
    rising_same (filter q (finals_of setup placed count)) (filter q placed)
    (subst P (sym (filter_flat q (places_on setup placed) (range_with_len 1 count))) (seat_rises setup placed q seat 1 count up sorted (omega arith) least most mine))
    (rising_filter q placed up)
    (λ place among. let it = passed q (finals_of setup placed count) place among in in_filter q placed place (is_final setup placed count place it.among).among it.passes)
    (λ place among. let it = passed q placed place among in let on = within place it.among it.passes in in_filter q (finals_of setup placed count) place (in_finals setup placed count place owned it.among on.0 on.1) it.passes)

-- up-cards are the same in the trace's order
pub ups_finals : (setup : Setup) (placed : List Place) (street seat : ℕ) → AreRising placed → AreSorted placed → AreOwned setup placed → ((place : Place) → IsAmong placed place → 1 ≤ place.street) → 1 ≤ seat → seat ≤ setup.stacks.seats → ups_by setup.code (finals_of setup placed street) street seat ≡ ups_by setup.code placed street seat
ups_finals setup placed street seat up sorted owned since least most =
    ap (map (λ (p : Place). p.slot)) (seat_same setup placed (is_up_by setup.code street seat) seat street up sorted owned least most
    (λ place is. (and_parts (is_same_owner place.owner (Some seat)) (is_up setup.code place && nat_le place.street street) is).0)
    (λ place among is. (since place among, leb-true place.street street (and_parts (is_up setup.code place) (nat_le place.street street) (and_parts (is_same_owner place.owner (Some seat)) (is_up setup.code place && nat_le place.street street) is).1).1)))

-- counts of mirrored places
mirror_count : (list : List Move) (out p q : Place → Bool) (mines finals : List Place) → AreMirrored list out mines finals → ((mine final : Place) → IsAmong finals final → Mirrors list out mine final → q final ≡ true → p mine ≡ true) → length (filter q finals) ≤ length (filter p mines)
mirror_count list out p q [] [] mirrored both = omega arith
mirror_count list out p q [] (final ∷ finals) mirrored both = absurd mirrored
mirror_count list out p q (mine ∷ mines) [] mirrored both = absurd mirrored
mirror_count list out p q (mine ∷ mines) (final ∷ finals) mirrored both =
    by_both (q final) (p mine) (both mine final (inl refl) mirrored.0) (mirror_count list out p q mines finals mirrored.1 (λ m f among. both m f (inr among)))
  where
    by_both : (a b : Bool) → (a ≡ true → b ≡ true) → length (filter q finals) ≤ length (filter p mines) → length (if a then (final ∷ filter q finals) else filter q finals) ≤ length (if b then (mine ∷ filter p mines) else filter p mines)
    by_both true true it later = omega (arith, later)
    by_both true false it later = false_true (it refl)
    by_both false true it later = omega (arith, later)
    by_both false false it later = later

-- the deck has run out in the canonical order if it has in the script
pub as_late : (setup : Setup) (placed mines : List Place) (list : List Move) (before : ℕ) → AreRising placed → AreOwned setup placed → ((place : Place) → IsAmong placed place → 1 ≤ place.street) → ((place : Place) → IsAmong placed place → 0 < place.discarded → place.street < place.discarded) → AreMirrored list (is_out_by (before + 1)) mines (finals_of setup placed before) → IsAsLate setup.code placed mines (before + 1)
as_late setup placed mines list before up owned since out_after mirrored =
    let street : ℕ = before + 1 in
    record {
      dealt = omega (
        arith,
        length-filter (λ (place : Place). nat_lt place.street street) placed,
        length-filter (λ (place : Place). nat_lt place.street street) mines,
        all_there setup placed (λ place. nat_lt place.street street) before up owned (λ place among is. (since place among, omega (arith, ltb-true place.street street is))),
        mirror_count list (is_out_by street) (λ place. nat_lt place.street street) (λ place. nat_lt place.street street) mines (finals_of setup placed before) mirrored (λ mine final among mirror is. ap (λ s. nat_lt s street) mirror.street ∙ is),
      );
      discarded = omega (
        arith,
        length-filter (λ (place : Place). place.discarded == street) placed,
        length-filter (λ (place : Place). place.discarded == street) mines,
        all_there setup placed (λ place. place.discarded == street) before up owned (λ place among is. (since place among, omega (arith, eqb-true place.discarded street is, out_after place among (omega (arith, eqb-true place.discarded street is))))),
        mirror_count list (is_out_by street) (λ place. place.discarded == street) (λ place. place.discarded == street) mines (finals_of setup placed before) mirrored (λ mine final among mirror is.
            let same : final.discarded ≡ street = eqb-true final.discarded street is in
            let out_now : is_out_by street final ≡ true = and_from (nat_lt 0 final.discarded) (nat_le final.discarded street) (lt-ltb 0 final.discarded (omega (arith, same))) (le-leb final.discarded street (omega (arith, same))) in
            ap (λ d. d == street) (mirror.discarded ∙ ap (λ b. if b then final.discarded else 0) out_now) ∙ is),
      );
    }
