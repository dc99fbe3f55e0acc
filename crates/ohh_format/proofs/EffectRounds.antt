-- The rounds of a hand that was written, each with its board and what is done in it, and the steps
-- that are read from them.
use Rattle.std.proofs.Common.{◌≡◌, ℕ, ◌+◌, List, [], ◌∷◌, ◌++◌, length, map, Option, Some, None, Result, Ok, refl, sym, ap, ap₂, ◌∙◌}
use Rattle.std.proofs.lemmas.List.{map-append}
use Rattle.card_set.specs.declared.card.Slot.{Slot}
use Rattle.play_event.specs.CanonScript.{dealt_slots}
use Rattle.hand_canon.specs.TraceRows.{core_said}
use Rattle.hand_canon.specs.declared.trace.Trace.{Trace}
use Rattle.ohh_members.specs.declared.dialect.Dialect.{Dialect}
use Rattle.ohh_members.specs.declared.fault.MemberFault.{MemberFault}
use Rattle.ohh_writing.specs.Actions.{PlainAction, showings}
use Rattle.ohh_writing.specs.Rounds.{PlainRound, board_round, board_round_on, first_actions, hand_rounds, moves_on, round, showdown_round}
use Rattle.ohh_writing.specs.Tree.{round_trees}
use Rattle.first_fault.specs.Reading.{added_from}
use Rattle.ohh_rounds.specs.Rounds.{SoFar, round_said}
use Rattle.ohh_rounds.specs.HandContext.{PlainHandContext}
use Rattle.ohh_rounds.specs.Steps.{PlainStep}
use Rattle.ohh_format.proofs.Effects.{ActionEffect, action_of, deal_effects, deals_are, move_effects, moves_are, post_effects, posts_are, showing_effects, showings_are}
use Rattle.ohh_format.proofs.RoundsAgain.{FitsRound, round_read, with_board}
use Rattle.ohh_format.proofs.StepsAgain.{steps_of}
use Rattle.play_event.specs.Seats.{all_seats}
use Rattle.ohh_members.specs.declared.street.StreetName.{StreetName}
use Rattle.ohh_members.specs.declared.street.StreetName.TheVariants as streets

-- a round: its street, the cards that it deals to the board, and what is done
pub record EffectRound : Type 0 where
  pub street : StreetName
  pub cards : List Slot
  pub effects : List ActionEffect

-- the round as it is written
abbrev pub round_of : EffectRound → PlainRound
round_of one = round one.street one.cards (map action_of one.effects)

abbrev pub effect_round : StreetName → List Slot → List ActionEffect → EffectRound
effect_round street cards effects = record { street = street; cards = cards; effects = effects }

-- ---- what is read from rounds

-- the steps after rounds; the first has this index, and its first action this number
abbrev pub steps_after : Dialect → List PlainStep → ℕ → ℕ → List EffectRound → List PlainStep
steps_after dialect earlier n index [] = earlier
steps_after dialect earlier n index (one ∷ rest) =
    steps_after dialect (with_board earlier one.cards ++ steps_of dialect n index 0 one.effects) (n + length one.effects) (index + 1) rest

-- the last street of rounds
abbrev pub last_street : Option StreetName → List EffectRound → Option StreetName
last_street last [] = last
last_street last (one ∷ rest) = last_street (Some one.street) rest

module _ (setting : PlainHandContext) where
  -- each round fits, after those before it
  abbrev pub FitRounds : Option StreetName → List PlainStep → ℕ → ℕ → List EffectRound → Type 0
  FitRounds last earlier n index [] = Unit {0}
  FitRounds last earlier n index (one ∷ rest) =
      FitsRound setting last earlier n index one.street one.cards one.effects
      × FitRounds (Some one.street) (with_board earlier one.cards ++ steps_of setting.dialect n index 0 one.effects) (n + length one.effects) (index + 1) rest

  so_far : Option StreetName → List PlainStep → Result SoFar MemberFault
  so_far last steps = Ok (last, steps)

  pub rounds_read : (last : Option StreetName) (earlier : List PlainStep) (n m index : ℕ) (rounds : List EffectRound) → FitRounds last earlier n index rounds
      → added_from (round_said setting) (last, earlier) index (round_trees m (map round_of rounds)) ≡ Ok (last_street last rounds, steps_after setting.dialect earlier n index rounds)
  unfolding added_from
  rounds_read last earlier n m index [] fit = refl
  rounds_read last earlier n m index (one ∷ rest) fit =
      rw (round_read setting last earlier n m index one.street one.cards one.effects fit.0)
      (rounds_read (Some one.street) (with_board earlier one.cards ++ steps_of setting.dialect n index 0 one.effects) (n + length one.effects) (m + length (map action_of one.effects)) (index + 1) rest fit.1)

-- ---- the rounds of a hand

-- what is done in the moves of a street
abbrev pub effects_on : Dialect → Trace → ℕ → List ActionEffect
effects_on dialect trace number = move_effects dialect trace.setup number [] (core_said trace).moves

-- what is done in the first round
abbrev pub first_effects : Dialect → Trace → List ActionEffect
first_effects dialect trace = post_effects trace.setup ++ (deal_effects (core_said trace).places (all_seats trace.setup) ++ effects_on dialect trace 1)

-- the round of a street whose cards were dealt to the board
abbrev pub board_effects : StreetName → List Slot → List ActionEffect → List EffectRound
board_effects street [] effects = []
board_effects street (slot ∷ rest) effects = effect_round street (slot ∷ rest) effects ∷ []

abbrev pub showdown_effects : List ActionEffect → List EffectRound
showdown_effects [] = []
showdown_effects (effect ∷ rest) = effect_round streets.Showdown [] (effect ∷ rest) ∷ []

abbrev pub board_effects_on : Dialect → Trace → StreetName → ℕ → List EffectRound
board_effects_on dialect trace street number = board_effects street (dealt_slots (core_said trace).places None number) (effects_on dialect trace number)

abbrev pub later_rounds : Dialect → Trace → List EffectRound
later_rounds dialect trace =
    board_effects_on dialect trace streets.Flop 2
    ++ (board_effects_on dialect trace streets.Turn 3
    ++ (board_effects_on dialect trace streets.River 4
    ++ showdown_effects (showing_effects trace)))

abbrev pub rounds_of : Dialect → Trace → List EffectRound
rounds_of dialect trace = effect_round streets.Preflop [] (first_effects dialect trace) ∷ later_rounds dialect trace

board_is : (street : StreetName) (cards : List Slot) (actions : List PlainAction) (effects : List ActionEffect) → actions ≡ map action_of effects → board_round street cards actions ≡ map round_of (board_effects street cards effects)
board_is street [] actions effects is = refl
board_is street (slot ∷ rest) actions effects is = ap (λ (l : List PlainAction). round street (slot ∷ rest) l ∷ []) is

showdown_is : (actions : List PlainAction) (effects : List ActionEffect) → actions ≡ map action_of effects → showdown_round actions ≡ map round_of (showdown_effects effects)
showdown_is actions effects is = ap showdown_round is ∙ by_effects effects
  where
    by_effects : (effects : List ActionEffect) → showdown_round (map action_of effects) ≡ map round_of (showdown_effects effects)
    by_effects [] = refl
    by_effects (effect ∷ rest) = refl

both_rounds : (some more : List PlainRound) (xs ys : List EffectRound) → some ≡ map round_of xs → more ≡ map round_of ys → some ++ more ≡ map round_of (xs ++ ys)
both_rounds some more xs ys one other = ap₂ (λ (a b : List PlainRound). a ++ b) one other ∙ sym (map-append round_of xs ys)

module _ (dialect : Dialect) (trace : Trace) where
  moves_here : (number : ℕ) → moves_on dialect trace number ≡ map action_of (effects_on dialect trace number)
  moves_here number = moves_are dialect trace.setup number [] (core_said trace).moves

  first_is : first_actions dialect trace ≡ map action_of (first_effects dialect trace)
  first_is =
      let placed = (core_said trace).places in
      let holes : List ActionEffect = deal_effects placed (all_seats trace.setup) in
      ap₂ (λ (a b : List PlainAction). a ++ b) (posts_are trace.setup)
      (ap₂ (λ (a b : List PlainAction). a ++ b) (deals_are trace.setup placed) (moves_here 1) ∙ sym (map-append action_of holes (effects_on dialect trace 1)))
      ∙ sym (map-append action_of (post_effects trace.setup) (holes ++ effects_on dialect trace 1))

  board_here : (street : StreetName) (number : ℕ) → board_round_on dialect trace street number ≡ map round_of (board_effects_on dialect trace street number)
  board_here street number = board_is street (dealt_slots (core_said trace).places None number) (moves_on dialect trace number) (effects_on dialect trace number) (moves_here number)

  pub rounds_are : hand_rounds dialect trace ≡ map round_of (rounds_of dialect trace)
  unfolding hand_rounds
  rounds_are =
      let showdown : List EffectRound = showdown_effects (showing_effects trace) in
      let river : List EffectRound = board_effects_on dialect trace streets.River 4 in
      let turn : List EffectRound = board_effects_on dialect trace streets.Turn 3 in
      let flop : List EffectRound = board_effects_on dialect trace streets.Flop 2 in
      let last = showdown_is (showings trace) (showing_effects trace) (showings_are trace) in
      let fourth = both_rounds (board_round_on dialect trace streets.River 4) (showdown_round (showings trace)) river showdown (board_here streets.River 4) last in
      let third = both_rounds (board_round_on dialect trace streets.Turn 3) (board_round_on dialect trace streets.River 4 ++ showdown_round (showings trace)) turn (river ++ showdown) (board_here streets.Turn 3) fourth in
      let second = both_rounds (board_round_on dialect trace streets.Flop 2) (board_round_on dialect trace streets.Turn 3 ++ (board_round_on dialect trace streets.River 4 ++ showdown_round (showings trace))) flop (turn ++ (river ++ showdown)) (board_here streets.Flop 2) third in
      ap₂ (λ (actions : List PlainAction) (rest : List PlainRound). round streets.Preflop [] actions ∷ rest) first_is second
