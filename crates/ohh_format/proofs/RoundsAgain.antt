-- Rounds that were written read as the steps of their actions, with the board dealt before them.
use Rattle.std.proofs.Common.{◌≡◌, ℕ, ◌+◌, ◌<◌, ◌≤◌, Bool, true, false, List, [], ◌∷◌, ◌++◌, length, map, count_by, Option, Some, Ok, refl, arith, true≢false}
use Rattle.std.specs.List.{list_any}
use Rattle.std.proofs.lemmas.Bool.{lt-leb, ne_eqb}
use Rattle.card_set.proofs.Counting.{count_by-push}
use Rattle.card_set.specs.Known.{hides_card, known_among}
use Rattle.card_set.specs.declared.card.Slot.{Slot}
use Rattle.card_set.specs.declared.card.Slot.TheVariants as slots
use Rattle.play_event.specs.declared.hand_limits.TheConstants.{MOST_OTHER_EVENTS}
use Rattle.play_event.specs.Said as said
use Rattle.ohh_members.specs.declared.fault.RoundMember.TheVariants as members
use Rattle.ohh_members.specs.Values.{list_said, object_said, required_value, text_said}
use Rattle.ohh_writing.specs.Rounds.{round}
use Rattle.ohh_writing.specs.Tree.{action_trees, round_tree}
use Rattle.ohh_rounds.specs.NamedBlinds.{seat_count}
use Rattle.ohh_rounds.specs.Actions.{event_counted}
use Rattle.ohh_rounds.specs.Rounds.{at_round, board_dealt, board_said, no_cards, opening_said, round_said, street_said}
use Rattle.ohh_rounds.specs.HandContext.{PlainHandContext}
use Rattle.ohh_rounds.specs.Steps.{PlainStep, Happened, is_action, others_in}
use Rattle.ohh_rounds.specs.Streets.{has_board_cards, street_after}
use Rattle.ohh_format.proofs.CardLists.{cards_again, listed_again}
use Rattle.ohh_format.proofs.Effects.{ActionEffect, action_of}
use Rattle.ohh_format.proofs.StepsAgain.{AllTold, actions_read, steps_of}
use Rattle.ohh_members.specs.Streets.{street_name}
use Rattle.ohh_members.specs.declared.street.StreetName.{StreetName}

-- the step of a board that was dealt
abbrev pub board_step : List Slot → PlainStep
board_step cards = record { number = 0; effect = Happened (said.Board (known_among cards)) }

-- the steps with those of the board, if it was dealt
abbrev pub with_board : List PlainStep → List Slot → List PlainStep
with_board earlier [] = earlier
with_board earlier (slot ∷ rest) = earlier ++ board_step (slot ∷ rest) ∷ []

module _ (setting : PlainHandContext) where
  -- the cards of a round
  board_again : (street : StreetName) (index n : ℕ) (cards : List Slot) (word : StreetName) (effects : List ActionEffect) → length cards ≤ 7 → list_any hides_card cards ≡ false → (deals : Bool) → has_board_cards street ≡ deals → (deals ≡ false → cards ≡ [])
      → board_said street index (round_tree n (round word cards (map action_of effects))) ≡ Ok (known_among cards)
  unfolding board_said no_cards list_said
  board_again street index n cards word effects few known true is none = rw (is, cards_again (at_round index members.Cards) cards few known) refl
  board_again street index n cards word effects few known false is none = rw (is, none refl) refl

  dealt_again : (earlier : List PlainStep) (index : ℕ) (cards : List Slot) → list_any hides_card cards ≡ false → seat_count setting.table + others_in earlier < MOST_OTHER_EVENTS
      → board_dealt setting earlier index (known_among cards) ≡ Ok (with_board earlier cards)
  unfolding board_dealt event_counted
  dealt_again earlier index [] known room = refl
  dealt_again earlier index (slots.Unknown ∷ rest) known room = absurd (true≢false known)
  dealt_again earlier index (slots.Known card ∷ rest) known room = rw (ne_eqb (length (known_among (slots.Known card ∷ rest))) 0 (λ none. omega (arith, none)), lt-leb MOST_OTHER_EVENTS (seat_count setting.table + others_in earlier) room) refl

  board_counts : (earlier : List PlainStep) (cards : List Slot) → count_by is_action (with_board earlier cards) ≡ count_by is_action earlier
  board_counts earlier [] = refl
  board_counts earlier (slot ∷ rest) = omega (arith, count_by-push is_action earlier (board_step (slot ∷ rest)))

  -- what a round needs after these steps
  pub record FitsRound (last : Option StreetName) (earlier : List PlainStep) (n index : ℕ) (street : StreetName) (cards : List Slot) (effects : List ActionEffect) : Type 0 where
    pub follows : street_after last (street_name street) ≡ Some street
    pub few : length cards ≤ 7
    pub known : list_any hides_card cards ≡ false
    pub deals : has_board_cards street ≡ false → cards ≡ []
    pub room : seat_count setting.table + others_in earlier < MOST_OTHER_EVENTS
    pub numbered : count_by is_action earlier + 1 ≡ n
    pub told : AllTold setting index n 0 (with_board earlier cards) effects

  pub round_read : (last : Option StreetName) (earlier : List PlainStep) (n m index : ℕ) (street : StreetName) (cards : List Slot) (effects : List ActionEffect)
      → FitsRound last earlier n index street cards effects
      → round_said setting (last, earlier) index (round_tree m (round street cards (map action_of effects))) ≡ Ok (Some street, with_board earlier cards ++ steps_of setting.dialect n index 0 effects)
  unfolding round_said opening_said street_said object_said required_value text_said list_said
  round_read last earlier n m index street cards effects fits =
      rw (
        fits.follows,
        board_again street index m cards street effects fits.few fits.known (has_board_cards street) refl fits.deals,
        dealt_again earlier index cards fits.known fits.room,
        listed_again (action_trees m (map action_of effects)),
        actions_read setting index (with_board earlier cards) n 0 m effects (omega (arith, board_counts earlier cards, fits.numbered)) fits.told,
      ) refl
