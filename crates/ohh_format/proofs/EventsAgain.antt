-- What is read from the rounds of a hand: its events with the numbers of their actions, and its
-- posts.
use Rattle.std.proofs.Common.{◌≡◌, ℕ, zero, suc, ◌+◌, ◌-◌, ◌<◌, ◌≤◌, ◌==◌, Bool, true, false, cond, if◌then◌else◌, List, [], ◌∷◌, ◌++◌, length, map, find, replicate, Option, Some, None, option_map, refl, sym, ap, ap₂, subst, ◌∙◌, arith, append_assoc, true≢false}
use Rattle.std.specs.List.{AllByRecursion, flat_map, range_with_len}
use Rattle.std.specs.Option.{option_map_or, option_or}
use Rattle.std.proofs.lemmas.Bool.{eq-eqb, ne_eqb}
use Rattle.std.proofs.lemmas.Grind.{flat_map-append}
use Rattle.std.proofs.lemmas.List.{append-nil}
use Rattle.std.proofs.lemmas.List.Folds.{find-append, list_any-append}
use Rattle.card_set.specs.Known.{known_among}
use Rattle.card_set.specs.declared.card.Slot.{Slot}
use Rattle.card_set.specs.declared.card.Slot.TheVariants as slots
use Rattle.play_event.specs.CanonScript.{deal_said}
use Rattle.play_event.specs.declared.event.Spelled.TheVariants as spelled
use Rattle.play_event.specs.Said as said
use Rattle.play_event.specs.Said.{Numbered, Said}
use Rattle.ohh_members.specs.declared.dialect.Dialect.{Dialect}
use Rattle.ohh_writing.specs.Actions.{has_known_card}
use Rattle.ohh_rounds.specs.Posts.{PlainPost}
use Rattle.ohh_rounds.specs.Actions.{raise_by}
use Rattle.ohh_rounds.specs.Play.{event_in, events_in, hole_cards, hole_deal, post_in, posts_in}
use Rattle.ohh_rounds.specs.Steps.{PlainStep, dealt_in, dealt_to, is_deal_to, is_fold_of, is_folded}
use Rattle.ohh_format.specs.Again.{numbered_from}
use Rattle.ohh_format.proofs.Effects.{ActionEffect, Bets, Calls, Checks, Deals, Folds, Mucks, Posts, Raises, Shows}
use Rattle.ohh_format.proofs.EffectRounds.{EffectRound, steps_after}
use Rattle.ohh_format.proofs.PutsAgain.{Put, posts_at}
use Rattle.ohh_format.proofs.RoundsAgain.{board_step, with_board}
use Rattle.ohh_format.proofs.StepsAgain.{step_of, steps_of}
use Rattle.first_fault.specs.Numbers.{saturated}

-- ---- steps, one after the other

-- the step of a board that was dealt, if it was
abbrev pub board_steps : List Slot → List PlainStep
board_steps [] = []
board_steps (slot ∷ rest) = board_step (slot ∷ rest) ∷ []

board_is : (earlier : List PlainStep) (cards : List Slot) → with_board earlier cards ≡ earlier ++ board_steps cards
board_is earlier [] = sym (append-nil earlier)
board_is earlier (slot ∷ rest) = refl

-- the steps of rounds
abbrev pub round_steps : Dialect → ℕ → ℕ → List EffectRound → List PlainStep
round_steps dialect n index [] = []
round_steps dialect n index (one ∷ rest) =
    board_steps one.cards ++ (steps_of dialect n index 0 one.effects ++ round_steps dialect (n + length one.effects) (index + 1) rest)

pub steps_behind : (dialect : Dialect) (earlier : List PlainStep) (n index : ℕ) (rounds : List EffectRound) → steps_after dialect earlier n index rounds ≡ earlier ++ round_steps dialect n index rounds
steps_behind dialect earlier n index [] = sym (append-nil earlier)
steps_behind dialect earlier n index (one ∷ rest) =
    let effects : List PlainStep = steps_of dialect n index 0 one.effects in
    let more : List PlainStep = round_steps dialect (n + length one.effects) (index + 1) rest in
    steps_behind dialect (with_board earlier one.cards ++ effects) (n + length one.effects) (index + 1) rest
    ∙ append_assoc (with_board earlier one.cards) effects more
    ∙ ap (λ (l : List PlainStep). l ++ (effects ++ more)) (board_is earlier one.cards)
    ∙ append_assoc earlier (board_steps one.cards) (effects ++ more)

-- ---- events

-- the event of what is done, if it is one
abbrev pub event_of : Dialect → ActionEffect → List Said
event_of dialect (Posts kind seat amount left) = []
event_of dialect (Deals seat cards) = []
event_of dialect (Folds seat) = said.Fold (Some seat) ∷ []
event_of dialect (Checks seat) = said.Call (Some seat) (Some 0) ∷ []
event_of dialect (Calls seat amount left) = said.Call (Some seat) (Some amount) ∷ []
event_of dialect (Bets seat amount left) = said.Raise (Some seat) (spelled.Added amount) ∷ []
event_of dialect (Raises seat amount left) = said.Raise (Some seat) (raise_by dialect amount) ∷ []
event_of dialect (Shows seat cards) = said.Show seat (known_among cards) ∷ []
event_of dialect (Mucks seat) = said.Muck seat ∷ []

-- events with the number of one action
abbrev pub at_number : ℕ → List Said → List Numbered
at_number n events = map (λ event. (saturated n, event)) events

-- the events of what is done; the first has this number
abbrev pub numbered_effects : Dialect → ℕ → List ActionEffect → List Numbered
numbered_effects dialect n [] = []
numbered_effects dialect n (effect ∷ rest) = at_number n (event_of dialect effect) ++ numbered_effects dialect (n + 1) rest

pub numbered_both : (dialect : Dialect) (n : ℕ) (some more : List ActionEffect) → numbered_effects dialect n (some ++ more) ≡ numbered_effects dialect n some ++ numbered_effects dialect (n + length some) more
numbered_both dialect n [] more = ap (λ k. numbered_effects dialect k more) (omega arith)
numbered_both dialect n (effect ∷ some) more =
    ap (λ (l : List Numbered). at_number n (event_of dialect effect) ++ l) (numbered_both dialect (n + 1) some more ∙ ap (λ k. numbered_effects dialect (n + 1) some ++ numbered_effects dialect k more) (omega arith))
    ∙ sym (append_assoc (at_number n (event_of dialect effect)) (numbered_effects dialect (n + 1) some) (numbered_effects dialect (n + length (effect ∷ some)) more))

one_event : (dialect : Dialect) (n round index : ℕ) (effect : ActionEffect) → event_in (step_of dialect n round index effect) (step_of dialect n round index effect).effect ≡ at_number n (event_of dialect effect)
one_event dialect n round index (Posts kind seat amount left) = refl
one_event dialect n round index (Deals seat cards) = refl
one_event dialect n round index (Folds seat) = refl
one_event dialect n round index (Checks seat) = refl
one_event dialect n round index (Calls seat amount left) = refl
one_event dialect n round index (Bets seat amount left) = refl
one_event dialect n round index (Raises seat amount left) = refl
one_event dialect n round index (Shows seat cards) = refl
one_event dialect n round index (Mucks seat) = refl

events_of_steps : (dialect : Dialect) (n round index : ℕ) (effects : List ActionEffect) → events_in (steps_of dialect n round index effects) ≡ numbered_effects dialect n effects
events_of_steps dialect n round index [] = refl
events_of_steps dialect n round index (effect ∷ rest) =
    ap₂ (λ (a b : List Numbered). a ++ b) (one_event dialect n round index effect) (events_of_steps dialect (n + 1) round (index + 1) rest)

-- the event of a board, if it was dealt
abbrev pub board_events : List Slot → List Numbered
board_events [] = []
board_events (slot ∷ rest) = (0, said.Board (known_among (slot ∷ rest))) ∷ []

abbrev pub round_events : Dialect → ℕ → List EffectRound → List Numbered
round_events dialect n [] = []
round_events dialect n (one ∷ rest) = board_events one.cards ++ (numbered_effects dialect n one.effects ++ round_events dialect (n + length one.effects) rest)

board_event : (cards : List Slot) → events_in (board_steps cards) ≡ board_events cards
board_event [] = refl
board_event (slot ∷ rest) = refl

events_both : (some more : List PlainStep) → events_in (some ++ more) ≡ events_in some ++ events_in more
events_both some more = flat_map-append (λ (step : PlainStep). event_in step step.effect) some more

-- the events of rounds
pub events_of_rounds : (dialect : Dialect) (n index : ℕ) (rounds : List EffectRound) → events_in (round_steps dialect n index rounds) ≡ round_events dialect n rounds
events_of_rounds dialect n index [] = refl
events_of_rounds dialect n index (one ∷ rest) =
    let effects : List PlainStep = steps_of dialect n index 0 one.effects in
    let more : List PlainStep = round_steps dialect (n + length one.effects) (index + 1) rest in
    events_both (board_steps one.cards) (effects ++ more)
    ∙ ap₂ (λ (a b : List Numbered). a ++ b) (board_event one.cards)
    (events_both effects more ∙ ap₂ (λ (a b : List Numbered). a ++ b) (events_of_steps dialect n index 0 one.effects) (events_of_rounds dialect (n + length one.effects) (index + 1) rest))

-- the number of deeds in rounds
abbrev pub effects_in : List EffectRound → ℕ
effects_in [] = 0
effects_in (one ∷ rest) = length one.effects + effects_in rest

pub round_events_both : (dialect : Dialect) (n : ℕ) (some more : List EffectRound) → round_events dialect n (some ++ more) ≡ round_events dialect n some ++ round_events dialect (n + effects_in some) more
round_events_both dialect n [] more = ap (λ k. round_events dialect k more) (omega arith)
round_events_both dialect n (one ∷ some) more =
    let here : List Numbered = numbered_effects dialect n one.effects in
    let next : ℕ = n + length one.effects in
    let last : List Numbered = round_events dialect (n + effects_in (one ∷ some)) more in
    ap (λ (l : List Numbered). board_events one.cards ++ (here ++ l)) (round_events_both dialect next some more ∙ ap (λ k. round_events dialect next some ++ round_events dialect k more) (omega arith))
    ∙ ap (λ (l : List Numbered). board_events one.cards ++ l) (sym (append_assoc here (round_events dialect next some) last))
    ∙ sym (append_assoc (board_events one.cards) (here ++ round_events dialect next some) last)

-- ---- posts

-- the posts among what is done
abbrev pub puts_among : List ActionEffect → List Put
puts_among [] = []
puts_among (Posts kind seat amount left ∷ rest) = record { kind = kind; seat = seat; amount = amount } ∷ puts_among rest
puts_among (Deals seat cards ∷ rest) = puts_among rest
puts_among (Folds seat ∷ rest) = puts_among rest
puts_among (Checks seat ∷ rest) = puts_among rest
puts_among (Calls seat amount left ∷ rest) = puts_among rest
puts_among (Bets seat amount left ∷ rest) = puts_among rest
puts_among (Raises seat amount left ∷ rest) = puts_among rest
puts_among (Shows seat cards ∷ rest) = puts_among rest
puts_among (Mucks seat ∷ rest) = puts_among rest

-- what is done is a post, or is not; or is not a deal, or not a fold of a seat
abbrev pub IsPost : ActionEffect → Type 0
IsPost (Posts kind seat amount left) = Unit {0}
IsPost (Deals seat cards) = ⊥
IsPost (Folds seat) = ⊥
IsPost (Checks seat) = ⊥
IsPost (Calls seat amount left) = ⊥
IsPost (Bets seat amount left) = ⊥
IsPost (Raises seat amount left) = ⊥
IsPost (Shows seat cards) = ⊥
IsPost (Mucks seat) = ⊥

abbrev pub IsNoPost : ActionEffect → Type 0
IsNoPost (Posts kind seat amount left) = ⊥
IsNoPost (Deals seat cards) = Unit {0}
IsNoPost (Folds seat) = Unit {0}
IsNoPost (Checks seat) = Unit {0}
IsNoPost (Calls seat amount left) = Unit {0}
IsNoPost (Bets seat amount left) = Unit {0}
IsNoPost (Raises seat amount left) = Unit {0}
IsNoPost (Shows seat cards) = Unit {0}
IsNoPost (Mucks seat) = Unit {0}

abbrev pub IsNoDeal : ActionEffect → Type 0
IsNoDeal (Posts kind seat amount left) = Unit {0}
IsNoDeal (Deals seat cards) = ⊥
IsNoDeal (Folds seat) = Unit {0}
IsNoDeal (Checks seat) = Unit {0}
IsNoDeal (Calls seat amount left) = Unit {0}
IsNoDeal (Bets seat amount left) = Unit {0}
IsNoDeal (Raises seat amount left) = Unit {0}
IsNoDeal (Shows seat cards) = Unit {0}
IsNoDeal (Mucks seat) = Unit {0}

abbrev pub IsNoFold : ℕ → ActionEffect → Type 0
IsNoFold seat (Posts kind other amount left) = Unit {0}
IsNoFold seat (Deals other cards) = Unit {0}
IsNoFold seat (Folds other) = (other == seat) ≡ false
IsNoFold seat (Checks other) = Unit {0}
IsNoFold seat (Calls other amount left) = Unit {0}
IsNoFold seat (Bets other amount left) = Unit {0}
IsNoFold seat (Raises other amount left) = Unit {0}
IsNoFold seat (Shows other cards) = Unit {0}
IsNoFold seat (Mucks other) = Unit {0}

pub posts_of_steps : (dialect : Dialect) (n index : ℕ) (effects : List ActionEffect) → AllByRecursion IsPost effects → posts_in (steps_of dialect n 0 index effects) ≡ posts_at index (puts_among effects)
posts_of_steps dialect n index [] all = refl
posts_of_steps dialect n index (Posts kind seat amount left ∷ rest) all =
    ap (λ (l : List PlainPost). record { kind = kind; seat = seat; amount = amount; early = true; place = record { round = 0; action = index } } ∷ l) (posts_of_steps dialect (n + 1) (index + 1) rest all.1)
posts_of_steps dialect n index (Deals seat cards ∷ rest) all = absurd all.0
posts_of_steps dialect n index (Folds seat ∷ rest) all = absurd all.0
posts_of_steps dialect n index (Checks seat ∷ rest) all = absurd all.0
posts_of_steps dialect n index (Calls seat amount left ∷ rest) all = absurd all.0
posts_of_steps dialect n index (Bets seat amount left ∷ rest) all = absurd all.0
posts_of_steps dialect n index (Raises seat amount left ∷ rest) all = absurd all.0
posts_of_steps dialect n index (Shows seat cards ∷ rest) all = absurd all.0
posts_of_steps dialect n index (Mucks seat ∷ rest) all = absurd all.0

no_post : (dialect : Dialect) (n round index : ℕ) (effect : ActionEffect) → IsNoPost effect → post_in (step_of dialect n round index effect).effect ≡ []
no_post dialect n round index (Posts kind seat amount left) is = absurd is
no_post dialect n round index (Deals seat cards) is = refl
no_post dialect n round index (Folds seat) is = refl
no_post dialect n round index (Checks seat) is = refl
no_post dialect n round index (Calls seat amount left) is = refl
no_post dialect n round index (Bets seat amount left) is = refl
no_post dialect n round index (Raises seat amount left) is = refl
no_post dialect n round index (Shows seat cards) is = refl
no_post dialect n round index (Mucks seat) is = refl

pub no_posts : (dialect : Dialect) (n round index : ℕ) (effects : List ActionEffect) → AllByRecursion IsNoPost effects → posts_in (steps_of dialect n round index effects) ≡ []
no_posts dialect n round index [] all = refl
no_posts dialect n round index (effect ∷ rest) all =
    ap₂ (λ (a b : List PlainPost). a ++ b) (no_post dialect n round index effect all.0) (no_posts dialect (n + 1) round (index + 1) rest all.1)

pub posts_both : (some more : List PlainStep) → posts_in (some ++ more) ≡ posts_in some ++ posts_in more
posts_both some more = flat_map-append (λ (step : PlainStep). post_in step.effect) some more

-- ---- folds

no_fold : (dialect : Dialect) (n round index seat : ℕ) (effect : ActionEffect) → IsNoFold seat effect → is_fold_of seat (step_of dialect n round index effect).effect ≡ false
no_fold dialect n round index seat (Posts kind other amount left) is = refl
no_fold dialect n round index seat (Deals other cards) is = refl
no_fold dialect n round index seat (Folds other) is = is
no_fold dialect n round index seat (Checks other) is = refl
no_fold dialect n round index seat (Calls other amount left) is = refl
no_fold dialect n round index seat (Bets other amount left) is = refl
no_fold dialect n round index seat (Raises other amount left) is = refl
no_fold dialect n round index seat (Shows other cards) is = refl
no_fold dialect n round index seat (Mucks other) is = refl

pub no_folds : (dialect : Dialect) (n round index seat : ℕ) (effects : List ActionEffect) → AllByRecursion (IsNoFold seat) effects → is_folded seat (steps_of dialect n round index effects) ≡ false
no_folds dialect n round index seat [] all = refl
no_folds dialect n round index seat (effect ∷ rest) all = rw (no_fold dialect n round index seat effect all.0) (no_folds dialect (n + 1) round (index + 1) seat rest all.1)

pub folded_both : (seat : ℕ) (some more : List PlainStep) → is_folded seat some ≡ false → is_folded seat more ≡ false → is_folded seat (some ++ more) ≡ false
folded_both seat some more one other = list_any-append (λ (step : PlainStep). is_fold_of seat step.effect) some more ∙ rw (one, other) refl

-- ---- deals

-- steps deal nothing to a seat
pub record NoDeal (seat : ℕ) (steps : List PlainStep) : Type 0 where
  pub cards : dealt_to seat steps ≡ []
  pub none : find (λ (step : PlainStep). is_deal_to seat step.effect) steps ≡ None

pub no_deal_both : (seat : ℕ) (some more : List PlainStep) → NoDeal seat some → NoDeal seat more → NoDeal seat (some ++ more)
no_deal_both seat some more one other =
    record {
      cards = flat_map-append (λ (step : PlainStep). dealt_in seat step.effect) some more ∙ ap₂ (λ (a b : List Slot). a ++ b) one.cards other.cards;
      none = find-append (λ (step : PlainStep). is_deal_to seat step.effect) some more ∙ ap₂ (λ (a b : Option PlainStep). option_or a b) one.none other.none;
    }

-- one step that deals nothing to the seat
pub record NoDealIn (seat : ℕ) (step : PlainStep) : Type 0 where
  pub cards : dealt_in seat step.effect ≡ []
  pub none : is_deal_to seat step.effect ≡ false

pub no_deal_more : (seat : ℕ) (step : PlainStep) (rest : List PlainStep) → NoDealIn seat step → NoDeal seat rest → NoDeal seat (step ∷ rest)
no_deal_more seat step rest one other =
    record {
      cards = ap₂ (λ (a b : List Slot). a ++ b) one.cards other.cards;
      none = ap (λ (b : Bool). cond b (Some step) (find (λ (step : PlainStep). is_deal_to seat step.effect) rest)) one.none ∙ other.none;
    }

no_deal_in : (dialect : Dialect) (n round index seat : ℕ) (effect : ActionEffect) → IsNoDeal effect → NoDealIn seat (step_of dialect n round index effect)
no_deal_in dialect n round index seat (Posts kind other amount left) is = record { cards = refl; none = refl }
no_deal_in dialect n round index seat (Deals other cards) is = absurd is
no_deal_in dialect n round index seat (Folds other) is = record { cards = refl; none = refl }
no_deal_in dialect n round index seat (Checks other) is = record { cards = refl; none = refl }
no_deal_in dialect n round index seat (Calls other amount left) is = record { cards = refl; none = refl }
no_deal_in dialect n round index seat (Bets other amount left) is = record { cards = refl; none = refl }
no_deal_in dialect n round index seat (Raises other amount left) is = record { cards = refl; none = refl }
no_deal_in dialect n round index seat (Shows other cards) is = record { cards = refl; none = refl }
no_deal_in dialect n round index seat (Mucks other) is = record { cards = refl; none = refl }

pub no_deals : (dialect : Dialect) (n round index seat : ℕ) (effects : List ActionEffect) → AllByRecursion IsNoDeal effects → NoDeal seat (steps_of dialect n round index effects)
no_deals dialect n round index seat [] all = record { cards = refl; none = refl }
no_deals dialect n round index seat (effect ∷ rest) all =
    no_deal_more seat (step_of dialect n round index effect) (steps_of dialect (n + 1) round (index + 1) rest) (no_deal_in dialect n round index seat effect all.0) (no_deals dialect (n + 1) round (index + 1) seat rest all.1)

pub no_deal_board : (seat : ℕ) (cards : List Slot) → NoDeal seat (board_steps cards)
no_deal_board seat [] = record { cards = refl; none = refl }
no_deal_board seat (slot ∷ rest) = record { cards = refl; none = refl }

all_hidden : (cards : List Slot) → has_known_card cards ≡ false → replicate (length cards) slots.Unknown ≡ cards
all_hidden [] none = refl
all_hidden (slots.Known card ∷ rest) none = absurd (true≢false none)
all_hidden (slots.Unknown ∷ rest) none = ap (λ (l : List Slot). slots.Unknown ∷ l) (all_hidden rest none)

deal_there : (seat : ℕ) (cards : List Slot) → 1 ≤ length cards → deal_said seat cards ≡ said.Hole seat cards ∷ []
deal_there seat [] some = absurd (omega (arith, some))
deal_there seat (slot ∷ rest) some = refl

module _ (dialect : Dialect) (count : ℕ) (some : 1 ≤ count) (cards : ℕ → List Slot) where
  abbrev pub deal_of : ℕ → List ActionEffect
  deal_of seat = if has_known_card (cards seat) then Deals seat (cards seat) ∷ [] else []

  -- no seat before the first is dealt anything
  no_later : (n index seat first many : ℕ) → seat < first → NoDeal seat (steps_of dialect n 0 index (flat_map deal_of (range_with_len first many)))
  no_later n index seat first zero before = record { cards = refl; none = refl }
  no_later n index seat first (suc many) before = by_known (has_known_card (cards first)) (λ k i. no_later k i seat (first + 1) many (omega (arith, before)))
    where
      by_known : (known : Bool) → ((k i : ℕ) → NoDeal seat (steps_of dialect k 0 i (flat_map deal_of (range_with_len (first + 1) many))))
          → NoDeal seat (steps_of dialect n 0 index ((if known then Deals first (cards first) ∷ [] else []) ++ flat_map deal_of (range_with_len (first + 1) many)))
      by_known false later = later n index
      by_known true later =
          let apart : (first == seat) ≡ false = ne_eqb first seat (λ same. omega (arith, same, before)) in
          no_deal_more seat (step_of dialect n 0 index (Deals first (cards first))) (steps_of dialect (n + 1) 0 (index + 1) (flat_map deal_of (range_with_len (first + 1) many)))
          (record { cards = ap (λ (b : Bool). if b then cards first else []) apart; none = apart }) (later (n + 1) (index + 1))

  -- the deals of hole cards
  pub holes_again : (n index first many : ℕ) (all front back : List PlainStep) → all ≡ front ++ (steps_of dialect n 0 index (flat_map deal_of (range_with_len first many)) ++ back)
      → ((seat : ℕ) → first ≤ seat → seat < first + many → length (cards seat) ≡ count)
      → ((seat : ℕ) → first ≤ seat → NoDeal seat front) → ((seat : ℕ) → NoDeal seat back)
      → map (hole_deal count all) (range_with_len first many) ≡ numbered_from n (flat_map (λ seat. deal_said seat (cards seat)) (range_with_len first many))
  holes_again n index first zero all front back is whole before behind = refl
  holes_again n index first (suc many) all front back is whole before behind =
      by_known (has_known_card (cards first)) refl is (λ k i l same none. holes_again k i (first + 1) many all l back same (λ seat from within. whole seat (omega (arith, from)) (omega (arith, within))) none behind)
    where
      rest_said : List Said
      rest_said = flat_map (λ seat. deal_said seat (cards seat)) (range_with_len (first + 1) many)

      here : deal_said first (cards first) ≡ said.Hole first (cards first) ∷ []
      here = deal_there first (cards first) (let long = whole first (omega arith) (omega arith) in omega (arith, long, some))

      whole_row : (l : List Slot) → length l ≡ count → hole_cards count l ≡ l
      whole_row l long = let none : count - length l ≡ 0 = omega (arith, long) in ap (λ (k : ℕ). l ++ replicate k slots.Unknown) none ∙ append-nil l

      by_known : (known : Bool) → has_known_card (cards first) ≡ known
          → all ≡ front ++ (steps_of dialect n 0 index ((if known then Deals first (cards first) ∷ [] else []) ++ flat_map deal_of (range_with_len (first + 1) many)) ++ back)
          → ((k i : ℕ) (l : List PlainStep) → all ≡ l ++ (steps_of dialect k 0 i (flat_map deal_of (range_with_len (first + 1) many)) ++ back) → ((seat : ℕ) → first + 1 ≤ seat → NoDeal seat l)
          → map (hole_deal count all) (range_with_len (first + 1) many) ≡ numbered_from k rest_said)
          → hole_deal count all first ∷ map (hole_deal count all) (range_with_len (first + 1) many) ≡ numbered_from n (deal_said first (cards first) ++ rest_said)
      by_known true e same later =
          let step : PlainStep = step_of dialect n 0 index (Deals first (cards first)) in
          let others : List PlainStep = steps_of dialect (n + 1) 0 (index + 1) (flat_map deal_of (range_with_len (first + 1) many)) in
          let none : NoDeal first (others ++ back) = no_deal_both first others back (no_later (n + 1) (index + 1) first (first + 1) many (omega arith)) (behind first) in
          let self : (first == first) ≡ true = eq-eqb first first refl in
          let mine : dealt_to first (step ∷ (others ++ back)) ≡ cards first = ap₂ (λ (a b : List Slot). a ++ b) (ap (λ (b : Bool). if b then cards first else []) self) none.cards ∙ append-nil (cards first) in
          let dealt : dealt_to first all ≡ cards first =
          ap (dealt_to first) same
          ∙ flat_map-append (λ (x : PlainStep). dealt_in first x.effect) front (step ∷ (others ++ back))
          ∙ ap₂ (λ (a b : List Slot). a ++ b) (before first (omega arith)).cards mine in
          let found : find (λ (x : PlainStep). is_deal_to first x.effect) all ≡ Some step =
          ap (find (λ (x : PlainStep). is_deal_to first x.effect)) same
          ∙ find-append (λ (x : PlainStep). is_deal_to first x.effect) front (step ∷ (others ++ back))
          ∙ ap₂ (λ (a b : Option PlainStep). option_or a b) (before first (omega arith)).none (ap (λ (b : Bool). cond b (Some step) (find (λ (x : PlainStep). is_deal_to first x.effect) (others ++ back))) self) in
          let one : hole_deal count all first ≡ (saturated n, said.Hole first (cards first)) =
          ap₂ (λ (f : Option PlainStep) (l : List Slot). (option_map_or (λ number. number) (option_map (λ (x : PlainStep). x.number) f) 0, said.Hole first (hole_cards count l))) found dealt
          ∙ ap (λ (l : List Slot). (saturated n, said.Hole first l)) (whole_row (cards first) (whole first (omega arith) (omega arith))) in
          let next : (seat : ℕ) → first + 1 ≤ seat → NoDeal seat (front ++ step ∷ []) =
          λ seat from. no_deal_both seat front (step ∷ []) (before seat (omega (arith, from)))
          (no_deal_more seat step [] (let apart : (first == seat) ≡ false = ne_eqb first seat (λ at. omega (arith, at, from)) in record { cards = ap (λ (b : Bool). if b then cards first else []) apart; none = apart }) (record { cards = refl; none = refl })) in
          ap₂ (λ (x : Numbered) (l : List Numbered). x ∷ l) one (later (n + 1) (index + 1) (front ++ step ∷ []) (same ∙ sym (append_assoc front (step ∷ []) (others ++ back))) next)
          ∙ sym (ap (λ (l : List Said). numbered_from n (l ++ rest_said)) here
          ∙ ap (λ (b : Bool). if b then (saturated n, said.Hole first (cards first)) ∷ numbered_from (n + 1) rest_said else (0, said.Hole first (cards first)) ∷ numbered_from n rest_said) e)
      by_known false e same later =
          let others : List PlainStep = steps_of dialect n 0 index (flat_map deal_of (range_with_len (first + 1) many)) in
          let none : NoDeal first all = subst (NoDeal first) (sym same) (no_deal_both first front (others ++ back) (before first (omega arith)) (no_deal_both first others back (no_later n index first (first + 1) many (omega arith)) (behind first))) in
          let all_left : count - 0 ≡ length (cards first) = let long = whole first (omega arith) (omega arith) in omega (arith, long) in
          let hidden : replicate (count - 0) slots.Unknown ≡ cards first = ap (λ (k : ℕ). replicate k slots.Unknown) all_left ∙ all_hidden (cards first) e in
          let one : hole_deal count all first ≡ (0, said.Hole first (cards first)) =
          ap₂ (λ (f : Option PlainStep) (l : List Slot). (option_map_or (λ number. number) (option_map (λ (x : PlainStep). x.number) f) 0, said.Hole first (hole_cards count l))) none.none none.cards
          ∙ ap (λ (l : List Slot). (0, said.Hole first l)) hidden in
          ap₂ (λ (x : Numbered) (l : List Numbered). x ∷ l) one (later n index front same (λ seat from. before seat (omega (arith, from))))
          ∙ sym (ap (λ (l : List Said). numbered_from n (l ++ rest_said)) here
          ∙ ap (λ (b : Bool). if b then (saturated n, said.Hole first (cards first)) ∷ numbered_from (n + 1) rest_said else (0, said.Hole first (cards first)) ∷ numbered_from n rest_said) e)
