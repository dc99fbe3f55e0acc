-- A hand that is being made: its script so far, with the betting and the cards after it.
use Rattle.std.specs.Prelude.{◌≡◌, ◌+◌, Bool, true, false, List, length, map, None}
use Rattle.std.specs.List.{range_with_len}
use Rattle.betting_numbers.specs.declared.betting_state.BettingState.{BettingState}
use Rattle.card_places.specs.declared.card_state.CardState.{CardState}
use Rattle.play_event.specs.declared.event.Event.{Event}
use Rattle.play_event.specs.declared.setup.Setup.{Setup}
use Rattle.play_event.specs.HistoryRules.{history_rules}
use Rattle.play_event.specs.Scripts.{past_of}
use Rattle.replay_core.specs.Together.{StandTogether}
use Rattle.hand_gen.specs.Made.{HaveCome, backward, next_event, source_behind}
use Rattle.hand_gen.specs.Progress.{IsSmall}
use Rattle.hand_gen.specs.HandSource.{HandSource, full_deck}

-- a hand is made up to here: each event of its script has come, and betting, cards and stock are
-- those after the last one
pub record IsMadeTo (setup : Setup) (start : HandSource) (b : BettingState) (t : CardState)
    (script : List Event) (stock : HandSource) : Type 0 where
  pub come : HaveCome setup history_rules start (backward script)
  pub left : stock ≡ source_behind setup history_rules start (backward script)
  pub stands : StandTogether b t (past_of setup (backward script))
  pub numbered : map (λ (event : Event). event.at) script ≡ range_with_len 1 (length script)
  pub setup_is : b.setup ≡ setup
  pub rules_is : b.rules ≡ history_rules

-- nothing comes after a script
pub record IsWhole (setup : Setup) (start : HandSource) (script : List Event) (stock : HandSource) :
    Type 0
  where
    pub ended : next_event setup history_rules start (backward script) ≡ None
    pub left : stock ≡ source_behind setup history_rules start (backward script)

-- what one step does to a script: it adds one event, or nothing if the script is complete
abbrev pub IsStep : Setup → HandSource → List Event → BettingState → CardState → List Event
    → HandSource
    → Bool → Type 0
IsStep setup start before b t script stock true =
    IsMadeTo setup start b t script stock × (length script ≡ length before + 1)
IsStep setup start before b t script stock false =
    (script ≡ before) × IsWhole setup start script stock

-- a hand with few seats and chips is made up to here from a whole deck
pub record IsUnderway (b : BettingState) (t : CardState) (script : List Event) (stock : HandSource)
    : Type 0 where
  pub small : IsSmall b.setup
  pub start : HandSource
  pub deck : start.deck ≡ full_deck b.setup.code
  pub made : IsMadeTo b.setup start b t script stock
