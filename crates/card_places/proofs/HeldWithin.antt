-- What an owner has, with all that it may still be dealt, never grows.
use Rattle.std.proofs.Common.{◌≡◌, ◌≢◌, ◌⊎◌, inl, inr, ℕ, ◌+◌, ◌-◌, ◌≤◌, Bool, true, false, ◌&&◌, ◌==◌, nat_eq, if◌then◌else◌, Option, Some, None, List, [], ◌++◌, length, count_by, refl, sym, ap, subst, ◌∙◌, arith}
use Rattle.std.proofs.lemmas.Bool.{eqb-true, eq-eqb}
use Rattle.std.proofs.lemmas.List.Sums.{length-filter}
use Rattle.card_set.specs.declared.card.Slot.{Slot}
use Rattle.play_event.proofs.OwnerLaws.{is_same_owner-true}
use Rattle.play_event.specs.declared.code.Code.{Code}
use Rattle.play_event.specs.declared.code.Code.TheVariants as games
use Rattle.play_event.specs.Games.{game_of, hole_cards_on, board_cards_on, street_count}
use Rattle.play_event.specs.Streets.{has_draw}
use Rattle.play_event.specs.Places.{Place, is_same_owner, is_in_group, places_dealt}
use Rattle.card_places.specs.declared.draws.Draws.{Draws}
use Rattle.card_places.specs.Drawn.{named_at}
use Rattle.play_event.specs.Held.{is_held}
use Rattle.card_places.specs.Room.{may_come, sum_from, held_most, is_owner, AreHeldWithin, IsOwed}
use Rattle.play_laws.proofs.Groups.{still_group}
use Rattle.play_laws.specs.Groups.{AreStill}
use Rattle.card_places.proofs.HeldCards.{deal_held}
use Rattle.card_places.proofs.Rooms.{group_more, seat_parts, street_parts}
use Rattle.card_places.proofs.Sums.{sum_least, sum_more, sum_most_more}

-- the cards of a street that the owner is to have
to_have : Code → Draws → Option ℕ → ℕ → ℕ
to_have code draws (Some seat) street = if has_draw code street then named_at draws street seat else hole_cards_on code street
to_have code draws None street = board_cards_on code street

come_is : (code : Code) (draws : Draws) (placed : List Place) (owner : Option ℕ) (street : ℕ) → may_come code draws placed owner street ≡ to_have code draws owner street - count_by (is_in_group owner street) placed
unfolding to_have
come_is code draws placed (Some seat) street = refl
come_is code draws placed None street = refl

-- no more cards may come if the group is as long or longer
pub come_less : (code : Code) (draws : Draws) (olds news : List Place) (owner : Option ℕ) (street : ℕ) → count_by (is_in_group owner street) olds ≤ count_by (is_in_group owner street) news → may_come code draws news owner street ≤ may_come code draws olds owner street
come_less code draws olds news owner street more = omega (arith, come_is code draws olds owner street, come_is code draws news owner street, more)

at_least : (b : Bool) (n k : ℕ) → k ≤ (if b then n else 0) + k
at_least true n k = omega arith
at_least false n k = omega arith

-- the places after a deal
abbrev dealt_behind : List Place → Option ℕ → ℕ → Bool → (index number : ℕ) → List Slot → List Place
dealt_behind placed to on past_deck index number cards = placed ++ places_dealt to on past_deck index number cards

fewer_come : (code : Code) (draws : Draws) (placed : List Place) (to owner : Option ℕ) (on : ℕ) (past_deck : Bool) (index number : ℕ) (cards : List Slot) (street : ℕ) → may_come code draws (dealt_behind placed to on past_deck index number cards) owner street ≤ may_come code draws placed owner street
fewer_come code draws placed to owner on past_deck index number cards street =
    come_less code draws placed (dealt_behind placed to on past_deck index number cards) owner street
    (omega (arith, group_more owner to street on past_deck index number cards placed, at_least (is_same_owner to owner && (on == street)) (length cards) (count_by (is_in_group owner street) placed)))

came_here : (code : Code) (seats : ℕ) (draws : Draws) (placed : List Place) (to owner : Option ℕ) (on : ℕ) (past_deck : Bool) (index number : ℕ) (cards : List Slot) → IsOwed code seats draws placed to on (length cards) → is_same_owner to owner ≡ true → may_come code draws (dealt_behind placed to on past_deck index number cards) owner on + length cards ≤ may_come code draws placed owner on
came_here code seats draws placed to owner on past_deck index number cards owed same =
    let news : List Place = dealt_behind placed to on past_deck index number cards in
    let all : (is_same_owner to owner && (on == on)) ≡ true = ap (λ b. b && (on == on)) same ∙ eq-eqb on on refl in
    let more : count_by (is_in_group owner on) news ≡ length cards + count_by (is_in_group owner on) placed = group_more owner to on on past_deck index number cards placed ∙ ap (λ (b : Bool). (if b then length cards else 0) + count_by (is_in_group owner on) placed) all in
    let few : length cards ≤ may_come code draws placed owner on = subst (λ (o : Option ℕ). length cards ≤ may_come code draws placed o on) (is_same_owner-true to owner same) owed.few in
    omega (arith, come_is code draws placed owner on, come_is code draws news owner on, more, few, owed.some)

-- after a deal
pub held_deal : (code : Code) (seats : ℕ) (draws : Draws) (placed : List Place) (to : Option ℕ) (on : ℕ) (past_deck : Bool) (index number : ℕ) (cards : List Slot) → AreHeldWithin code seats draws placed → IsOwed code seats draws placed to on (length cards) → AreHeldWithin code seats draws (placed ++ places_dealt to on past_deck index number cards)
held_deal code seats draws placed to on past_deck index number cards held owed owner inside = by_owner (is_same_owner to owner) refl
  where
    by_owner : (b : Bool) → is_same_owner to owner ≡ b → count_by (is_held owner) (dealt_behind placed to on past_deck index number cards) + sum_from (may_come code draws (dealt_behind placed to on past_deck index number cards) owner) 1 (street_count code) ≤ held_most code owner
    by_owner true same =
        let news : List Place = dealt_behind placed to on past_deck index number cards in
        let at = street_parts code on owed.street_in in
        let has : count_by (is_held owner) news ≡ length cards + count_by (is_held owner) placed = deal_held owner to on past_deck index number cards placed ∙ ap (λ (b : Bool). (if b then length cards else 0) + count_by (is_held owner) placed) same in
        omega (arith, held owner inside, has, sum_more (may_come code draws placed owner) (may_come code draws news owner) 1 (street_count code) on (length cards) (fewer_come code draws placed to owner on past_deck index number cards) at.0 (omega (arith, at.1)) (came_here code seats draws placed to owner on past_deck index number cards owed same))
    by_owner false same =
        let news : List Place = dealt_behind placed to on past_deck index number cards in
        let has : count_by (is_held owner) news ≡ 0 + count_by (is_held owner) placed = deal_held owner to on past_deck index number cards placed ∙ ap (λ (b : Bool). (if b then length cards else 0) + count_by (is_held owner) placed) same in
        omega (arith, held owner inside, has, sum_least (may_come code draws placed owner) (may_come code draws news owner) 1 (street_count code) (λ k from. fewer_come code draws placed to owner on past_deck index number cards k))

group_as_long : (owner : Option ℕ) (street : ℕ) (olds news : List Place) → AreStill olds news → count_by (is_in_group owner street) olds ≡ count_by (is_in_group owner street) news
group_as_long owner street olds news same = omega (arith, still_group owner street olds news same, length-filter (is_in_group owner street) olds, length-filter (is_in_group owner street) news)

-- after a fold or a show
pub held_still : (code : Code) (seats : ℕ) (draws : Draws) (olds news : List Place) → AreStill olds news → ((owner : Option ℕ) → count_by (is_held owner) news ≤ count_by (is_held owner) olds) → AreHeldWithin code seats draws olds → AreHeldWithin code seats draws news
held_still code seats draws olds news same fewer held owner inside =
    omega (arith, held owner inside, fewer owner, sum_least (may_come code draws olds owner) (may_come code draws news owner) 1 (street_count code) (λ k from. come_less code draws olds news owner k (omega (arith, group_as_long owner k olds news same))))

same_to_have : (draws_here : Bool) (named other hole old new : ℕ) → named ≡ other → old ≡ new → (if draws_here then named else hole) - new ≤ (if draws_here then other else hole) - old
same_to_have true named other hole old new same long = omega (arith, same, long)
same_to_have false named other hole old new same long = omega (arith, long)

more_to_have : (draws_here : Bool) (named before count hole old new : ℕ) → named ≡ count → old ≡ new → (if draws_here then named else hole) - new ≤ ((if draws_here then before else hole) - old) + count
more_to_have true named before count hole old new is long = omega (arith, is, long)
more_to_have false named before count hole old new is long = omega (arith, long)

-- what a discard changes in the draws and the cards
pub record Discards (old new : Draws) (olds news : List Place) (on seat count : ℕ) : Type 0 where
  pub same : AreStill olds news
  pub fewer : (owner : Option ℕ) → count_by (is_held owner) news ≤ count_by (is_held owner) olds
  pub takes : count_by (is_held (Some seat)) news + count ≤ count_by (is_held (Some seat)) olds
  pub named : named_at new on seat ≡ count
  pub others : (street number : ℕ) → 1 ≤ number → number ≤ 10 → (street ≢ on) ⊎ (number ≢ seat) → named_at new street number ≡ named_at old street number

-- after a discard
pub held_discard : (code : Code) (seats : ℕ) (old new : Draws) (olds news : List Place) (on seat count : ℕ) → seats ≤ 10 → Discards old new olds news on seat count → AreHeldWithin code seats old olds → AreHeldWithin code seats new news
held_discard code seats old new olds news on seat count ten gone_after held None inside =
    omega (arith, held None inside, gone_after.fewer None, sum_least (may_come code old olds None) (may_come code new news None) 1 (street_count code) (λ k from. omega (arith, group_as_long None k olds news gone_after.same)))
held_discard code seats old new olds news on seat count ten gone_after held (Some number) inside = by_seat (nat_eq number seat) refl
  where
    apart : (a b : ℕ) → nat_eq a b ≡ false → a ≢ b
    apart a b is same = let yes_is : nat_eq a b ≡ true = eq-eqb a b same in absurd cc

    parts : (1 ≤ number) × (number ≤ seats)
    parts = seat_parts seats number inside

    long : (street : ℕ) → count_by (is_in_group (Some number) street) olds ≡ count_by (is_in_group (Some number) street) news
    long street = group_as_long (Some number) street olds news gone_after.same

    by_seat : (b : Bool) → nat_eq number seat ≡ b → count_by (is_held (Some number)) news + sum_from (may_come code new news (Some number)) 1 (street_count code) ≤ held_most code (Some number)
    by_seat true is =
        let same : number ≡ seat = eqb-true number seat is in
        let takes : count_by (is_held (Some number)) news + count ≤ count_by (is_held (Some number)) olds = subst (λ (n : ℕ). count_by (is_held (Some n)) news + count ≤ count_by (is_held (Some n)) olds) (sym same) gone_after.takes in
        let named : named_at new on number ≡ count = subst (λ (n : ℕ). named_at new on n ≡ count) (sym same) gone_after.named in
        omega (
          arith,
          held (Some number) inside,
          takes,
          sum_most_more (may_come code new news (Some number)) (may_come code old olds (Some number)) 1 (street_count code) on count
              (λ j other. same_to_have (has_draw code j) (named_at new j number) (named_at old j number) (hole_cards_on code j) (count_by (is_in_group (Some number) j) olds) (count_by (is_in_group (Some number) j) news) (gone_after.others j number parts.0 (omega (arith, parts.1, ten)) (inl other)) (long j))
              (more_to_have (has_draw code on) (named_at new on number) (named_at old on number) count (hole_cards_on code on) (count_by (is_in_group (Some number) on) olds) (count_by (is_in_group (Some number) on) news) named (long on)),
        )
    by_seat false is =
        omega (
          arith,
          held (Some number) inside,
          gone_after.fewer (Some number),
          sum_least (may_come code old olds (Some number)) (may_come code new news (Some number)) 1 (street_count code)
              (λ j from. same_to_have (has_draw code j) (named_at new j number) (named_at old j number) (hole_cards_on code j) (count_by (is_in_group (Some number) j) olds) (count_by (is_in_group (Some number) j) news) (gone_after.others j number parts.0 (omega (arith, parts.1, ten)) (inr (apart number seat is))) (long j)),
        )

-- before any card is dealt, the streets give a hand or a board
come_first : (code : Code) (draws : Draws) (seat street : ℕ) → named_at draws street seat ≡ 0 → may_come code draws [] (Some seat) street ≤ hole_cards_on code street
come_first code draws seat street none = by_draw (has_draw code street) (hole_cards_on code street) (named_at draws street seat) none
  where
    by_draw : (b : Bool) (hole named : ℕ) → named ≡ 0 → (if b then named else hole) - 0 ≤ hole
    by_draw true hole named is = omega (arith, is)
    by_draw false hole named is = omega arith

hand_of_streets : (code : Code) → sum_from (hole_cards_on code) 1 (street_count code) ≤ (game_of code).hole
hand_of_streets games.FT = omega arith
hand_of_streets _ = omega arith

board_of_streets : (code : Code) → sum_from (board_cards_on code) 1 (street_count code) ≤ (game_of code).board
board_of_streets games.FT = omega arith
board_of_streets _ = omega arith

pub held_first : (code : Code) (seats : ℕ) (draws : Draws) → ((street seat : ℕ) → named_at draws street seat ≡ 0) → AreHeldWithin code seats draws []
held_first code seats draws none (Some seat) inside =
    omega (arith, sum_least (hole_cards_on code) (may_come code draws [] (Some seat)) 1 (street_count code) (λ k from. come_first code draws seat k (none k seat)), hand_of_streets code)
held_first code seats draws none None inside =
    omega (arith, sum_least (board_cards_on code) (may_come code draws [] None) 1 (street_count code) (λ k from. omega arith), board_of_streets code)

-- a hand has at most seven cards, and so has a board
few_held : (code : Code) (owner : Option ℕ) → held_most code owner ≤ 7
few_held games.FT (Some seat) = omega arith
few_held games.FT None = omega arith
few_held _ (Some seat) = omega arith
few_held _ None = omega arith

pub seven_held : (code : Code) (seats : ℕ) (draws : Draws) (placed : List Place) (owner : Option ℕ) → AreHeldWithin code seats draws placed → is_owner seats owner ≡ true → count_by (is_held owner) placed ≤ 7
seven_held code seats draws placed owner held inside = omega (arith, held owner inside, few_held code owner)

ten_seats : (code : Code) → (game_of code).seats ≤ 10
ten_seats games.FT = omega arith
ten_seats _ = omega arith

pub at_most_ten : (code : Code) (seats : ℕ) → seats ≤ (game_of code).seats → seats ≤ 10
at_most_ten code seats few = omega (arith, few, ten_seats code)
