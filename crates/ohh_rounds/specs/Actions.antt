-- An action of a round: its word, its player, and then its amount or its cards.
use Rattle.std.specs.Prelude.{⊤, ℕ, ◌+◌, ◌==◌, nat_le, Bool, not, ◌&&◌, if◌then◌else◌, List, [], length, Some, None, Result, Ok}
use Rattle.serde_json.specs.Data.{Data}
use Rattle.chip_ledger.specs.declared.numbers.TheConstants.{MOST_CHIPS}
use Rattle.play_event.specs.declared.hand_limits.TheConstants.{MOST_MOVES, MOST_OTHER_EVENTS}
use Rattle.play_event.specs.PlayedScript.{is_move_event}
use Rattle.first_fault.specs.declared.limits.TheConstants.{MOST_FILE_MOVES}
use Rattle.first_fault.specs.declared.limits.Quantity.TheVariants as quantities
use Rattle.play_event.specs.declared.event.Spelled.{Spelled}
use Rattle.play_event.specs.declared.event.Spelled.TheVariants as spelled
use Rattle.play_event.specs.Said as said
use Rattle.play_event.specs.Said.{Said}
use Rattle.first_fault.specs.Reading.{◌>>=◌}
use Rattle.ohh_members.specs.declared.dialect.Dialect.{Dialect}
use Rattle.ohh_members.specs.declared.dialect.Dialect.TheVariants as dialects
use Rattle.ohh_members.specs.declared.fault.ActionMember.{ActionMember}
use Rattle.ohh_members.specs.declared.fault.ActionMember.TheVariants as members
use Rattle.ohh_members.specs.declared.fault.RoundMember.TheVariants as rounds
use Rattle.ohh_members.specs.declared.fault.Path.{Path}
use Rattle.ohh_members.specs.declared.fault.Path.TheVariants as paths
use Rattle.ohh_members.specs.declared.fault.MemberFaultKind.TheVariants as whats
use Rattle.ohh_members.specs.declared.fault.MemberFault.{MemberFault}
use Rattle.ohh_members.specs.Values.{cards_said, few_said, member_at, number_said, object_said, or_wrong, player_said, required_value, slots_said, text_said, wrong}
use Rattle.ohh_rounds.specs.declared.post.ActionLocation.{ActionLocation}
use Rattle.ohh_rounds.specs.declared.post.PostKind.{PostKind}
use Rattle.ohh_rounds.specs.declared.post.PostKind.TheVariants as kinds
use Rattle.ohh_rounds.specs.NamedBlinds.{seat_count}
use Rattle.ohh_members.specs.declared.words.Word.{Word}
use Rattle.ohh_members.specs.declared.words.Word.TheVariants as words
use Rattle.ohh_members.specs.Words.{is_deal, word_named}
use Rattle.ohh_rounds.specs.Steps.{PlainActionEffect, PlainStep, Posted, Dealt, Happened, Passed, dealt_to, is_folded, moves_in, next_number, others_in}
use Rattle.ohh_rounds.specs.HandContext.{PlainHandContext}

-- the path of a member of an action
abbrev pub at_action : ActionLocation → ActionMember → Path
at_action place member = paths.Round place.round (rounds.Action place.action member)

-- the word of an action: one of the supported words; hole cards are dealt in the first round only
unfoldable pub word_said : ActionLocation → Data → Result Word MemberFault
word_said place action = do
  text ← required_value (at_action place members.Word) action
      >>= text_said (at_action place members.Word)
  word ← or_wrong whats.UnsupportedAction (at_action place members.Word) (word_named text)
  if is_deal word && not (place.round == 0)
      then wrong whats.BadStreet (at_action place members.Word)
      else Ok word

-- the seat of the action's player
unfoldable pub seat_said : PlainHandContext → ActionLocation → Data → Result ℕ MemberFault
seat_said setting place action =
    required_value (at_action place members.PlayerId) action
    >>= player_said setting.ids (at_action place members.PlayerId)

-- the action's amount, in chips
unfoldable pub chips_said : ActionLocation → Data → Result ℕ MemberFault
chips_said place action =
    required_value (at_action place members.Amount) action
    >>= number_said 0 MOST_CHIPS (at_action place members.Amount)

-- a post of some chips; it is early if it comes on the first street before any move
unfoldable pub posted : PostKind → List PlainStep → ActionLocation → ℕ → Data
    → Result PlainActionEffect MemberFault
posted kind earlier place seat action = do
  chips ← chips_said place action
  let early : Bool = (place.round == 0) && (moves_in earlier == 0)
  Ok (Posted (record { kind = kind; seat = seat; amount = chips; early = early; place = place }))

-- hole cards that are listed: with those that the seat already has they are at most seven
unfoldable pub listed_cards : List PlainStep → Path → ℕ → Data
    → Result PlainActionEffect MemberFault
listed_cards earlier path seat cards = do
  items ← few_said path cards
  if nat_le (length (dealt_to seat earlier) + length items) 7
      then (slots_said path cards >>= λ slots. Ok (Dealt seat slots))
      else wrong whats.WrongType path

-- hole cards, or none if they are missing
unfoldable pub dealt_cards : List PlainStep → ActionLocation → ℕ → Data
    → Result PlainActionEffect MemberFault
dealt_cards earlier place seat action = elim (member_at (at_action place members.Cards) action) [
  | None ↦ Ok (Dealt seat [])
  | Some cards ↦ listed_cards earlier (at_action place members.Cards) seat cards
]

-- what the amount of a raise means: the chips that it adds, or the bet on the street that it raises
-- to
abbrev pub raise_by : Dialect → ℕ → Spelled
raise_by dialects.Added chips = spelled.Added chips
raise_by dialects.To chips = spelled.To chips

-- a call that states the chips that it adds
unfoldable pub called : ActionLocation → ℕ → Data → Result PlainActionEffect MemberFault
called place seat action =
    chips_said place action >>= λ chips. Ok (Happened (said.Call (Some seat) (Some chips)))

-- a bet or a raise
unfoldable pub raised : Dialect → ActionLocation → ℕ → Data → Result PlainActionEffect MemberFault
raised dialect place seat action =
    chips_said place action
    >>= λ chips. Ok (Happened (said.Raise (Some seat) (raise_by dialect chips)))

-- a show of cards
unfoldable pub shown : ActionLocation → ℕ → Data → Result PlainActionEffect MemberFault
shown place seat action = do
  cards ← required_value (at_action place members.Cards) action
      >>= cards_said (at_action place members.Cards)
  Ok (Happened (said.Show seat cards))

-- a muck, which is ignored if the player folded before
abbrev pub mucked : List PlainStep → ℕ → PlainActionEffect
mucked earlier seat = if is_folded seat earlier then Passed else Happened (said.Muck seat)

-- what a word means for a player
unfoldable pub effect_said : PlainHandContext → List PlainStep → ActionLocation → ℕ → Data → Word
    → Result PlainActionEffect MemberFault
effect_said setting earlier place seat action words.PostAnte =
    posted kinds.Ante earlier place seat action
effect_said setting earlier place seat action words.PostSmallBlind =
    posted kinds.SmallBlind earlier place seat action
effect_said setting earlier place seat action words.PostBigBlind =
    posted kinds.BigBlind earlier place seat action
effect_said setting earlier place seat action words.Straddle =
    posted kinds.Straddle earlier place seat action
effect_said setting earlier place seat action words.DealtCards = dealt_cards earlier place seat
    action
effect_said setting earlier place seat action words.Fold = Ok (Happened (said.Fold (Some seat)))
effect_said setting earlier place seat action words.Check =
    Ok (Happened (said.Call (Some seat) (Some 0)))
effect_said setting earlier place seat action words.Call = called place seat action
effect_said setting earlier place seat action words.Bet = raised dialects.Added place seat action
effect_said setting earlier place seat action words.Raise = raised setting.dialect place seat action
effect_said setting earlier place seat action words.ShowsCards = shown place seat action
effect_said setting earlier place seat action words.MucksCards = Ok (mucked earlier seat)
effect_said setting earlier place seat action words.SitsDown = Ok Passed
effect_said setting earlier place seat action words.StandsUp = Ok Passed

-- an event exceeds no limit; the hole cards of each seat are dealt first, and count as other events
unfoldable pub event_counted : PlainHandContext → List PlainStep → Path → Said
    → Result ⊤ MemberFault
event_counted setting earlier path event =
    if is_move_event event
    then (if nat_le MOST_MOVES (moves_in earlier) then wrong (whats.TooMany quantities.Moves) path
    else if nat_le MOST_FILE_MOVES (setting.file_moves + moves_in earlier)
    then wrong (whats.TooMany quantities.FileMoves) path
    else Ok tt)
    else (if nat_le MOST_OTHER_EVENTS (seat_count setting.table + others_in earlier)
    then wrong (whats.TooMany quantities.OtherEvents) path
    else Ok tt)

-- the action exceeds no limit
abbrev pub effect_counted : PlainHandContext → List PlainStep → Path → PlainActionEffect
    → Result ⊤ MemberFault
effect_counted setting earlier path (Happened event) = event_counted setting earlier path event
effect_counted setting earlier path (Posted post) = Ok tt
effect_counted setting earlier path (Dealt seat slots) = Ok tt
effect_counted setting earlier path Passed = Ok tt

-- the members of an action after these steps
unfoldable pub members_said : PlainHandContext → List PlainStep → ActionLocation → Data
    → Result PlainActionEffect MemberFault
members_said setting earlier place action = do
  word ← word_said place action
  seat ← seat_said setting place action
  effect_said setting earlier place seat action word

-- the members of an action that exceeds no limit
abbrev pub counted_said : PlainHandContext → List PlainStep → ActionLocation → Data
    → Result PlainActionEffect MemberFault
counted_said setting earlier place action = do
  effect ← members_said setting earlier place action
  counted ← effect_counted setting earlier (at_action place members.Itself) effect
  Ok effect

-- an action after these steps
unfoldable pub step_said : PlainHandContext → List PlainStep → ActionLocation → Data
    → Result PlainStep MemberFault
step_said setting earlier place value = do
  action ← object_said (at_action place members.Itself) value
  effect ← counted_said setting earlier place action
  Ok (record { number = next_number earlier; effect = effect })
