-- To which amounts the player to act may raise, and when no seat may raise at all.
use Rattle.std.specs.Prelude.{◌≡◌, ℕ, ◌≤◌, Bool, true, false, ◌&&◌, List}
use Rattle.play_event.specs.declared.reason.Due.{Due}
use Rattle.play_event.specs.declared.reason.Due.TheVariants as dues
use Rattle.play_event.specs.declared.setup.Setup.{Setup}
use Rattle.play_event.specs.declared.setup.Rules.{Rules}
use Rattle.play_event.specs.Past.{Past, Move, moves_of}
use Rattle.play_event.specs.Chips as chips
use Rattle.play_event.specs.Due.{turn}
use Rattle.play_event.specs.PlayerToAct.{player_to_act}
use Rattle.play_event.specs.Openers.{InTurn, NoSeat, TheSeat, Undecided}
use Rattle.play_event.specs.Raising.{may_raise}
use Rattle.play_event.specs.Table.{up_cards}
use Rattle.play_event.specs.Targets.{is_legal_target}

-- a move or a bring-in is due
abbrev pub is_bet_due : Due → Bool
is_bet_due dues.BringIn = true
is_bet_due dues.Move = true
is_bet_due (dues.Deal street) = false
is_bet_due (dues.Draw street) = false
is_bet_due dues.Show = false
is_bet_due dues.Over = false

-- the player to act is known, and may raise
abbrev pub may_raise_now : Setup → Rules → List Move → ℕ → InTurn → Bool
may_raise_now setup rules moves street NoSeat = false
may_raise_now setup rules moves street Undecided = false
may_raise_now setup rules moves street (TheSeat seat) = may_raise setup rules moves street seat

-- the player to act has legal targets, if this is due on this street
abbrev pub has_targets_at : Setup → Rules → Past → ℕ × Due → Bool
has_targets_at setup rules past now =
    is_bet_due now.1
    && may_raise_now setup rules (moves_of past) now.0
    (player_to_act setup (up_cards setup.code past) (moves_of past) now.0)

-- the player to act has legal targets: a move or a bring-in is due, the player to act is known, and
-- may raise
abbrev pub has_targets : Setup → Rules → Past → Bool
has_targets setup rules past = has_targets_at setup rules past (turn setup past)

-- the lowest and the highest legal target of a seat, and its all-in
pub record AreTargets (setup : Setup) (rules : Rules) (moves : List Move)
    (street seat least greatest all_in : ℕ) : Type 0 where
  pub least_legal : is_legal_target rules.reopen setup moves street seat least ≡ true
  pub greatest_legal : is_legal_target rules.reopen setup moves street seat greatest ≡ true
  pub within : (target : ℕ) → is_legal_target rules.reopen setup moves street seat target ≡ true
      → (least ≤ target) × (target ≤ greatest)
  pub all_in_is : all_in ≡ chips.all_in setup moves street seat
