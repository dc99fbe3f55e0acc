-- The play of a hand: its posts meet their conditions, and give antes and blinds; hole cards are
-- dealt first, and then come the other events.
use Rattle.std.specs.Prelude.{⊤, ℕ, ◌+◌, ◌-◌, List, [], ◌∷◌, ◌++◌, length, map, flat_map, replicate, Result, Ok, Err}
use Rattle.std.specs.Option.{option_map_or}
use Rattle.serde_json.specs.Data.{Data}
use Rattle.card_set.specs.declared.card.Slot.{Slot}
use Rattle.card_set.specs.declared.card.Slot.TheVariants as slots
use Rattle.chip_ledger.specs.Seat.{seats_of}
use Rattle.play_event.specs.Said as said
use Rattle.play_event.specs.Said.{Numbered, numbered}
use Rattle.first_fault.specs.Reading.{◌>>=◌}
use Rattle.ohh_members.specs.declared.fault.ActionMember.TheVariants as members
use Rattle.ohh_members.specs.declared.fault.Path.TheVariants as paths
use Rattle.ohh_members.specs.declared.fault.MemberFaultKind.TheVariants as whats
use Rattle.ohh_members.specs.declared.fault.MemberFault.{MemberFault}
use Rattle.ohh_members.specs.Values.{wrong}
use Rattle.ohh_rounds.specs.declared.post.PostFault.{PostFault}
use Rattle.ohh_rounds.specs.declared.post.PostFault.TheVariants as post_faults
use Rattle.ohh_rounds.specs.Posts.{PlainPost}
use Rattle.ohh_rounds.specs.PostRules.{posts_checked}
use Rattle.ohh_rounds.specs.AntesAndBlinds.{PlainAntesAndBlinds, antes_and_blinds_said, plain_antes_and_blinds}
use Rattle.ohh_rounds.specs.NamedBlinds.{seat_count}
use Rattle.ohh_rounds.specs.declared.play.RoundsPlay.{RoundsPlay}
use Rattle.ohh_rounds.specs.Steps.{PlainActionEffect, PlainStep, Posted, Dealt, Happened, Passed, dealt_to, first_deal, moves_in}
use Rattle.ohh_rounds.specs.HandContext.{PlainHandContext}
use Rattle.ohh_rounds.specs.Actions.{at_action}
use Rattle.ohh_rounds.specs.Rounds.{steps_said}

-- antes and blinds, the script, and the number of moves in the file after this hand
pub record PlainPlay : Type 0 where
  pub stakes : PlainAntesAndBlinds
  pub script : List Numbered
  pub file_moves : ℕ

-- the post of a step, if it is one
abbrev pub post_in : PlainActionEffect → List PlainPost
post_in (Posted post) = post ∷ []
post_in (Dealt seat cards) = []
post_in (Happened event) = []
post_in Passed = []

-- a play, as the definitions see it
abbrev pub plain_play : RoundsPlay → PlainPlay
plain_play play =
    record {
      stakes = plain_antes_and_blinds play.stakes;
      script = map numbered play.script;
      file_moves = play.file_moves;
    }

-- the posts, in order
abbrev pub posts_in : List PlainStep → List PlainPost
posts_in steps = flat_map (λ step. post_in step.effect) steps

-- the event of a step, if it is one
abbrev pub event_in : PlainStep → PlainActionEffect → List Numbered
event_in step (Happened event) = (step.number, event) ∷ []
event_in step (Posted post) = []
event_in step (Dealt seat cards) = []
event_in step Passed = []

-- the events, in order
abbrev pub events_in : List PlainStep → List Numbered
events_in steps = flat_map (λ step. event_in step step.effect) steps

-- the hole cards of a seat: those that are dealt to it, filled up to this number with unknown ones
abbrev pub hole_cards : ℕ → List Slot → List Slot
hole_cards count cards = cards ++ replicate (count - length cards) slots.Unknown

-- the deal of a seat's hole cards, this many, with the number of the first action that deals them,
-- or 0 if no action does
abbrev pub hole_deal : ℕ → List PlainStep → ℕ → Numbered
hole_deal count steps seat = (
  option_map_or (λ number. number) (first_deal seat steps) 0,
  said.Hole seat (hole_cards count (dealt_to seat steps)),
)

-- the script: the hole deals of this many seats, each of this many cards, from the first seat on,
-- and then the other events
unfoldable pub script_said : ℕ → ℕ → List PlainStep → List Numbered
script_said seats count steps = map (hole_deal count steps) (seats_of seats) ++ events_in steps

-- a fault of the posts is reported at the action that shows it, or at the rounds if a blind is
-- missing
abbrev pub at_posts : Result ⊤ PostFault → Result ⊤ MemberFault
at_posts (Ok x) = Ok x
at_posts (Err post_faults.MissingBlind) = wrong whats.BadPost paths.Rounds
at_posts (Err (post_faults.At place)) = wrong whats.BadPost (at_action place members.Itself)

-- what the rounds of the hand `ohh` contain, or their first fault
unfoldable pub rounds_said : PlainHandContext → Data → Result PlainPlay MemberFault
rounds_said setting ohh = do
  steps ← steps_said setting ohh
  checked ← at_posts (posts_checked setting.table (posts_in steps))
  Ok
      (record {
        stakes = antes_and_blinds_said setting.table (posts_in steps);
        script = script_said (seat_count setting.table) setting.hole_cards steps;
        file_moves = setting.file_moves + moves_in steps;
      })
