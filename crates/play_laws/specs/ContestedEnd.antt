-- The end of a contested hand: two or more seats are live, and nothing but shows is due.
use Rattle.std.specs.Prelude.{◌≡◌, false, List, nat_le}
use Rattle.play_event.specs.declared.setup.Rules.{Rules}
use Rattle.play_event.specs.declared.setup.Setup.{Setup}
use Rattle.play_event.specs.Due.{is_unfinished, turn}
use Rattle.play_event.specs.Laws.{AreLegal}
use Rattle.play_event.specs.Past.{moves_of}
use Rattle.play_event.specs.Said.{Said}
use Rattle.play_event.specs.Scripts.{past_of}
use Rattle.play_event.specs.Seats.{live_count}

-- legal events, the newest first, that end a contested hand
pub record EndContested (setup : Setup) (rules : Rules) (events : List Said) : Type 0 where
  -- each event is legal
  pub legal : AreLegal setup rules events
  -- two or more seats are live
  pub several : nat_le (live_count setup (moves_of (past_of setup events))) 1 ≡ false
  -- no deal, draw, bring-in or move is due
  pub finished : is_unfinished (turn setup (past_of setup events)).1 ≡ false
