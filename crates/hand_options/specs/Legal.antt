-- Options are what is due after a past, and which moves of the player to act are legal there.
use Rattle.std.specs.Prelude.{◌≡◌, ◌≤◌, ◌<◌, ℕ, Bool, true, false, ◌&&◌, ◌==◌, nat_le, if◌then◌else◌, List, length, take, is_none, slice_index, Option, Some, None, option_and_then}
use Rattle.std.specs.List.{list_any}
use Rattle.std.specs.Option.{option_map_or}
use Rattle.chip_ledger.specs.SeatsSaid.{seat_said}
use Rattle.play_event.specs.declared.event.Spelled.TheVariants as spelled
use Rattle.play_event.specs.declared.limit.Limit.{Limit}
use Rattle.play_event.specs.declared.reason.Due.{Due}
use Rattle.play_event.specs.declared.setup.Rules.{Rules}
use Rattle.play_event.specs.declared.setup.Setup.{Setup}
use Rattle.play_event.specs.Amounts.{bring_in_target}
use Rattle.play_event.specs.Due.{turn}
use Rattle.play_event.specs.MoveReasons.{chips_to_call}
use Rattle.play_event.specs.Openers.{InTurn, NoSeat, TheSeat, Undecided}
use Rattle.play_event.specs.Past.{Past, moves_of}
use Rattle.play_event.specs.Reasons.{why}
use Rattle.play_event.specs.Said.{Said, BringIn, Call, Fold, Raise}
use Rattle.play_event.specs.Streets.{limit_of}
use Rattle.play_event.specs.TurnTargets.{is_bet_due}
use Rattle.play_event.specs.ValidSetup.{is_fixed_limit}
use Rattle.betting_numbers.specs.TurnSaid.{in_turn_on}
use Rattle.hand_options.specs.declared.choices.Options.{Options}
use Rattle.hand_options.specs.declared.choices.RaiseSet.{RaiseSet}
use Rattle.hand_options.specs.declared.choices.RaiseSet.TheVariants as sets

-- the player to act, if known
abbrev pub seat_known : InTurn → Option ℕ
seat_known (TheSeat seat) = Some seat
seat_known NoSeat = None
seat_known Undecided = None

-- the player to act, if this is due on this street: only a move and a bring-in are some player's
abbrev pub seat_at : Setup → Past → ℕ × Due → Option ℕ
seat_at setup past now = if is_bet_due now.1 then seat_known (in_turn_on setup past now.0) else None

-- the player to act after a past
abbrev pub seat_in_turn : Setup → Past → Option ℕ
seat_in_turn setup past = seat_at setup past (turn setup past)

-- an event is legal after a past
abbrev pub is_legal : Setup → Rules → Past → Said → Bool
is_legal setup rules past event = is_none (why setup rules past event)

-- a fold by a seat is legal
abbrev pub is_legal_fold : Setup → Rules → Past → ℕ → Bool
is_legal_fold setup rules past seat = is_legal setup rules past (Fold (Some seat))

-- the chips that a call adds, if a call that states no amount is legal
abbrev pub call_of : Setup → Rules → Past → ℕ → Option ℕ
call_of setup rules past seat =
    if is_legal setup rules past (Call (Some seat) None)
    then Some (chips_to_call setup (moves_of past) (turn setup past).0 seat)
    else None

-- the chips on the street to which a bring-in goes, if it is legal
abbrev pub bring_in_of : Setup → Rules → Past → ℕ → Option ℕ
bring_in_of setup rules past seat =
    if is_legal setup rules past (BringIn (Some seat))
    then Some (bring_in_target setup (moves_of past) (turn setup past).0 seat)
    else None

-- a raise to a target is legal
abbrev pub is_legal_raise : Setup → Rules → Past → ℕ → ℕ → Bool
is_legal_raise setup rules past target seat =
    is_legal setup rules past (Raise (Some seat) (spelled.To target))

-- a target is one of a set
abbrev pub is_in_set : RaiseSet → ℕ → Bool
is_in_set sets.None target = false
is_in_set (sets.Range least greatest) target = nat_le least target && nat_le target greatest
is_in_set (sets.List count to) target = list_any (λ one. target == one) (take count to)

-- this number of targets is listed: one, or two in rising order
pub record AreListed (count : ℕ) (to : List ℕ) : Type 0 where
  -- there is a target
  pub some : 1 ≤ count
  -- and there are no more than two
  pub few : count ≤ 2
  -- of two, the first is the lower one
  pub rising : count ≡ 2 → slice_index to 0 < slice_index to 1
  -- there is room for two
  pub room : length to ≡ 2
  -- and where one is listed the other place holds 0
  pub spare : count ≡ 1 → slice_index to 1 ≡ 0

-- a set has the form of its limit: in fixed limit it lists its targets, and in the other limits it
-- names the lowest and the highest
abbrev pub IsSetOf : Limit → RaiseSet → Type 0
IsSetOf limit sets.None = Unit {0}
IsSetOf limit (sets.Range least greatest) = (is_fixed_limit limit ≡ false) × (least ≤ greatest)
IsSetOf limit (sets.List count to) = (is_fixed_limit limit ≡ true) × AreListed count to

-- What is due after a past, and which moves of the player to act are legal. If no player is to act,
-- there are no moves.
pub record AreOptions (setup : Setup) (rules : Rules) (past : Past) (options : Options)
    : Type 0 where
  -- what is due is that of the rules
  pub due : options.due ≡ (turn setup past).1
  -- and so is the player to act
  pub seat : seat_said options.seat ≡ seat_in_turn setup past
  -- a fold is offered if and only if it is legal
  pub fold : options.fold
      ≡ option_map_or (is_legal_fold setup rules past) (seat_in_turn setup past) false
  -- a call is offered if and only if it is legal, with the chips that it adds
  pub call : options.call ≡ option_and_then (call_of setup rules past) (seat_in_turn setup past)
  -- a bring-in is offered if and only if it is legal, with the chips to which it goes
  pub bring_in : options.bring_in
      ≡ option_and_then (bring_in_of setup rules past) (seat_in_turn setup past)
  -- the targets that are offered are exactly those to which a raise is legal
  pub raise : (target : ℕ) → is_in_set options.raise target
      ≡ option_map_or (is_legal_raise setup rules past target) (seat_in_turn setup past) false
  -- and they are given in the form of the game's limit
  pub form : IsSetOf (limit_of setup.code) options.raise

-- the player to act is not known: an up-card that decides it is unknown
abbrev pub IsUndecided : Setup → Past → Type 0
IsUndecided setup past = in_turn_on setup past (turn setup past).0 ≡ Undecided
