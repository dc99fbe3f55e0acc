-- The draw of a street took as many cards from a seat as the seat discarded there.
use Rattle.std.proofs.Common.{◌≡◌, ℕ, ◌≤◌, ◌<◌, Bool, true, false, ◌&&◌, ◌||◌, ◌==◌, not, inl, inr, Option, Some, None, List, [], ◌∷◌, ◌++◌, map, filter, length, count_by, refl, sym, ◌∙◌, ap, arith, if◌then◌else◌}
use Rattle.std.proofs.lemmas.Bool.{and_parts, and_from, and_right, eqb-true, ne_eqb, cases_Bool}
use Rattle.std.proofs.lemmas.List.{append-nil}
use Rattle.card_set.specs.declared.card.Slot.{Slot}
use Rattle.card_set.specs.declared.card.Slot.TheVariants as slots
use Rattle.std.proofs.lemmas.List.Elements.{filter-append}
use Rattle.play_event.specs.declared.code.Code.{Code}
use Rattle.play_event.specs.declared.setup.Setup.{Setup}
use Rattle.play_event.specs.declared.setup.Rules.{Rules}
use Rattle.play_event.specs.Said.{Said}
use Rattle.play_event.specs.Past.{Past, Resolved, is_folding}
use Rattle.card_set.specs.Known.{known_among}
use Rattle.play_event.specs.Dealing.{cards_discarded}
use Rattle.play_event.specs.Due.{turn}
use Rattle.play_event.specs.Places.{Place, is_same_owner, is_in_group, is_past_deck, places_dealt, after_deal, is_held_by, folded_place, after_fold, gone_now}
use Rattle.play_event.specs.NameMatching.{after_discard, after_show, discarded_now, unmatched_names, blanks_in, can_be_named, is_show_of_all}
use Rattle.play_event.specs.Table.{places_of}
use Rattle.play_event.specs.Taken.{may_repeat, is_gone_before, is_one_card}
use Rattle.play_event.specs.Scripts.{with_event, past_of}
use Rattle.play_event.specs.Laws.{IsAmong, AreLegal, NoneClash}
use Rattle.card_set.proofs.Tests.{and_swap, false_true}
use Rattle.play_event.proofs.SafePlaces.{none_clash}
use Rattle.play_laws.specs.PastLaws.{PastLaw}
use Rattle.play_laws.proofs.DueAtEvents.{Reaches, turn_reaches}
use Rattle.play_laws.proofs.LegalEvents.{Stepped, deals, boards, moves, discards, shows, mucks, stepped}
use Rattle.play_laws.proofs.PastLawKept.{is_next_to_draw}
use Rattle.play_laws.proofs.LegalPlaces.{PlacesOf, legal_past, group_step}
use Rattle.play_laws.proofs.PlaceLists.{rising}
use Rattle.play_laws.proofs.InDeck.{legal_cards}
use Rattle.play_laws.proofs.PlaceGroups.{AreRising, Passed, passed, rising_filter}
use Rattle.play_laws.proofs.QuietEvents.{IsMarked, HowMarked, kept, marked, AreMarked, discard_marks, show_marks, is_nothing, held_parts}
use Rattle.play_laws.proofs.DrawnDiscards.{covers_hand}
use Rattle.play_laws.proofs.DealtPlaces.{are_new}
use Rattle.play_laws.proofs.NamedCounts.{AllApart, IsMarking, discard_count}

-- cards that are held at the same time differ
held_apart : (seat : ℕ) (placed : List Place) → NoneClash placed → AreRising placed → AllApart (filter (is_held_by seat) placed)
held_apart seat placed none up = all_apart (filter (is_held_by seat) placed) (rising_filter (is_held_by seat) placed up) (λ place among. passed (is_held_by seat) placed place among)
  where
    apart : (first later : Place) → Passed (is_held_by seat) placed first → Passed (is_held_by seat) placed later → first.number < later.number → is_one_card first.slot later.slot ≡ false
    apart first later one two less =
        let gone_first = (held_parts seat first one.passes).0 in
        let gone_later = (held_parts seat later two.passes).0 in
        let no_first : may_repeat first later ≡ false = and_right first.past_deck (is_gone_before later.gone_after first.number) (ap (λ g. is_gone_before g first.number) gone_later) in
        let no_later : may_repeat later first ≡ false = and_right later.past_deck (is_gone_before first.gone_after later.number) (ap (λ g. is_gone_before g later.number) gone_first) in
        sym (ap (λ b. not (b || may_repeat later first) && is_one_card first.slot later.slot) no_first ∙ ap (λ b. not b && is_one_card first.slot later.slot) no_later)
        ∙ none first later one.among two.among (λ same. omega (arith, same, less))

    all_apart : (held : List Place) → AreRising held → ((place : Place) → IsAmong held place → Passed (is_held_by seat) placed place) → AllApart held
    all_apart [] up_held pass = tt
    all_apart (first ∷ rest) up_held pass = (λ later among. apart first later (pass first (inl refl)) (pass later (inr among)) (up_held.0 later among), all_apart rest up_held.1 (λ place among. pass place (inr among)))

-- a card of a seat that the draw of a street took
abbrev pub is_out_of : ℕ → ℕ → Place → Bool
is_out_of street seat place = is_same_owner place.owner (Some seat) && (place.discarded == street)

marked_alike : (p : Place → Bool) (covers : Place → Bool) (count draw : ℕ) (olds news : List Place) → ((old new : Place) → IsAmong olds old → IsMarked covers count draw old new → p new ≡ p old) → AreMarked covers count draw olds news → length (filter p news) ≡ length (filter p olds)
marked_alike p covers count draw [] [] same is = refl
marked_alike p covers count draw [] (new ∷ news) same is = absurd is
marked_alike p covers count draw (old ∷ olds) [] same is = absurd is
marked_alike p covers count draw (old ∷ olds) (new ∷ news) same is =
    group_step old new (filter p olds) (filter p news) (p new) (p old) (same old new (inl refl) is.0) (marked_alike p covers count draw olds news (λ o n among. same o n (inr among)) is.1)

out_same : (street seat : ℕ) (old new : Place) → new.owner ≡ old.owner → new.discarded ≡ old.discarded → is_out_of street seat new ≡ is_out_of street seat old
out_same street seat old new owner same = ap (λ o. is_same_owner o (Some seat) && (new.discarded == street)) owner ∙ ap (λ d. is_same_owner old.owner (Some seat) && (d == street)) same

-- a show takes nothing
shown_out : (count draw street seat : ℕ) (old new : Place) → IsMarked is_nothing count draw old new → is_out_of street seat new ≡ is_out_of street seat old
shown_out count draw street seat old new is = by_how is.how
  where
    by_how : HowMarked is_nothing count draw old new → is_out_of street seat new ≡ is_out_of street seat old
    by_how (kept gone same) = out_same street seat old new is.owner same
    by_how (marked covered now on) = false_true covered

other_out : (at who street seat count : ℕ) (old new : Place) → 1 ≤ street → ((at == street) && (who == seat)) ≡ false → (is_held_by who old ≡ true → (old.owner ≡ Some who) × (old.discarded ≡ 0)) → IsMarked (is_held_by who) count at old new → is_out_of street seat new ≡ is_out_of street seat old
other_out at who street seat count old new some other held is = by_how is.how
  where
    by_how : HowMarked (is_held_by who) count at old new → is_out_of street seat new ≡ is_out_of street seat old
    by_how (kept gone same) = out_same street seat old new is.owner same
    by_how (marked covered now on) =
        let it = held covered in
        let was : is_out_of street seat old ≡ false = and_right (is_same_owner old.owner (Some seat)) (old.discarded == street) (ne_eqb old.discarded street (λ same. omega (arith, same, it.1, some))) in
        let now_is : is_out_of street seat new ≡ ((who == seat) && (at == street)) = ap (λ o. is_same_owner o (Some seat) && (new.discarded == street)) (is.owner ∙ it.0) ∙ ap (λ d. (who == seat) && (d == street)) on in
        now_is ∙ (and_swap (who == seat) (at == street) ∙ (other ∙ sym was))

fold_out : (street seat who count : ℕ) (placed : List Place) → length (filter (is_out_of street seat) (map (folded_place who count) placed)) ≡ length (filter (is_out_of street seat) placed)
fold_out street seat who count [] = refl
fold_out street seat who count (place ∷ rest) =
    group_step place (folded_place who count place) (filter (is_out_of street seat) rest) (filter (is_out_of street seat) (map (folded_place who count) rest)) (is_out_of street seat (folded_place who count place)) (is_out_of street seat place) (one (is_held_by who place)) (fold_out street seat who count rest)
  where
    one : (b : Bool) → is_out_of street seat (if b then gone_now count place else place) ≡ is_out_of street seat place
    one true = refl
    one false = refl

none_new : (street seat : ℕ) (places : List Place) → 1 ≤ street → ((place : Place) → IsAmong places place → place.discarded ≡ 0) → filter (is_out_of street seat) places ≡ []
none_new street seat [] some none = refl
none_new street seat (place ∷ rest) some none =
    ap (λ b. if b then (place ∷ filter (is_out_of street seat) rest) else filter (is_out_of street seat) rest) (and_right (is_same_owner place.owner (Some seat)) (place.discarded == street) (ne_eqb place.discarded street (λ same. omega (arith, same, none place (inl refl), some))))
    ∙ none_new street seat rest some (λ other among. none other (inr among))

deal_out : (code : Code) (owner : Option ℕ) (on : ℕ) (cards : List Slot) (placed : List Place) (street seat : ℕ) → 1 ≤ street → length (filter (is_out_of street seat) (after_deal code owner on cards placed)) ≡ length (filter (is_out_of street seat) placed)
deal_out code owner on cards placed street seat some =
    let late : Bool = is_past_deck code placed on in
    let news : List Place = places_dealt owner on late (count_by (is_in_group owner on) placed) (length placed) cards in
    ap (λ (l : List Place). length l) (filter-append (is_out_of street seat) placed news
    ∙ ap (λ l. filter (is_out_of street seat) placed ++ l) (none_new street seat news some (λ place among. (are_new owner on late (count_by (is_in_group owner on) placed) (length placed) cards place among).discarded))
    ∙ append-nil (filter (is_out_of street seat) placed))

-- each event
abbrev pub OutCounts : Setup → Past → Type 0
OutCounts setup before = (street seat : ℕ) → 1 ≤ street → length (filter (is_out_of street seat) (places_of setup.code before)) ≡ cards_discarded before street seat

out_step : (setup : Setup) (before : Past) (at : ℕ) (event : Resolved) → PastLaw setup before → PlacesOf setup before → Reaches setup before at → Stepped setup before at event → NoneClash (places_of setup.code before) → AreRising (places_of setup.code before) → OutCounts setup before → OutCounts setup (event ∷ before)
out_step setup before at _ past law come (deals who cards due is more few free) apart up counts street seat some = deal_out setup.code (Some who) at cards (places_of setup.code before) street seat some ∙ counts street seat some
out_step setup before at _ past law come (boards cards due more few free) apart up counts street seat some = deal_out setup.code None at (map (λ card. slots.Known card) cards) (places_of setup.code before) street seat some ∙ counts street seat some
out_step setup before at _ past law come (mucks who may) apart up counts street seat some = counts street seat some
out_step setup before at _ past law come (moves move no_deal no_draw on) apart up counts street seat some = by_fold (is_folding move.act)
  where
    by_fold : (b : Bool) → length (filter (is_out_of street seat) (if b then after_fold move.seat (places_of setup.code before) else places_of setup.code before)) ≡ cards_discarded before street seat
    by_fold true = fold_out street seat move.seat (length (places_of setup.code before)) (places_of setup.code before) ∙ counts street seat some
    by_fold false = counts street seat some
out_step setup before at _ past law come (shows who cards may free) apart up counts street seat some =
    let placed = places_of setup.code before in
    let covers : Place → Bool = can_be_named setup.code who (is_show_of_all placed who cards) in
    marked_alike (is_out_of street seat) is_nothing (length placed) at placed (after_show setup.code who cards placed) (λ old new among is. shown_out (length placed) at street seat old new is)
    (show_marks covers (length placed) at cards (unmatched_names (filter covers placed) cards) 0 placed) ∙ counts street seat some
out_step setup before at _ past law come (discards who cards no_deal draw next few free held) apart up counts street seat some =
    let placed = places_of setup.code before in
    let hand = covers_hand setup before at who past law come (is_next_to_draw setup before at who next) in
    elim (cases_Bool ((at == street) && (who == seat))) [
      | inr other ↦ omega (
        arith,
        counts street seat some,
        ap (λ b. if b then length cards else 0) other,
        marked_alike (is_out_of street seat) (is_held_by who) (length placed) at placed (after_discard at who cards placed) (λ old new among is. other_out at who street seat (length placed) old new some other (λ covered. hand.held old among covered) is)
            (discard_marks (is_held_by who) (length placed) at (known_among cards) (unmatched_names (filter (is_held_by who) placed) (known_among cards)) (blanks_in cards) placed),
      )
      | inl here ↦
          let parts = and_parts (at == street) (who == seat) here in
          let on : at ≡ street = eqb-true at street parts.0 in
          let same : who ≡ seat = eqb-true who seat parts.1 in
          let marking : IsMarking (is_held_by who) (is_out_of street seat) (discarded_now at (length placed)) placed = record {
            before = λ place among covered. and_right (is_same_owner place.owner (Some seat)) (place.discarded == street) (ne_eqb place.discarded street (λ now. omega (arith, now, (hand.held place among covered).1, some)));
            after = λ place slot among covered. and_from (is_same_owner place.owner (Some seat)) (at == street) (ap (λ o. is_same_owner o (Some seat)) (hand.held place among covered).0 ∙ parts.1) parts.0;
          } in
          omega (arith, counts street seat some, ap (λ b. if b then length cards else 0) here, discard_count (is_out_of street seat) at who cards placed marking (held_apart who placed apart up) held)
    ]

-- after legal events each seat has as many places discarded on a street as it discarded cards there
pub out_counts : (setup : Setup) (rules : Rules) (events : List Said) → AreLegal setup rules events → OutCounts setup (past_of setup events)
unfolding with_event
out_counts setup rules [] legal = λ street seat some. refl
out_counts setup rules (event ∷ events) legal =
    let before = past_of setup events in
    let it = legal_past setup rules events legal.1 in
    out_step setup before (turn setup before).0 _ it.past it.places (turn_reaches setup before it.past.within) (stepped setup rules before event legal.0) (none_clash setup rules events legal.1)
    (rising 0 (places_of setup.code before) (legal_cards setup rules events legal.1).list.numbered) (out_counts setup rules events legal.1)
