-- Legal hands: scripts that can be played to their end, and whose pots can be shared.
use Rattle.std.specs.Prelude.{◌≡◌, ◌==◌, List, flat_map, None}
use Rattle.std.specs.List.{list_any}
use Rattle.card_set.specs.Known.{known_among}
use Rattle.chip_ledger.specs.Rakes.{first_rake_above}
use Rattle.play_event.specs.declared.setup.Setup.{Setup}
use Rattle.play_event.specs.declared.setup.Rules.{Rules}
use Rattle.play_event.specs.Said.{Said}
use Rattle.play_event.specs.Trace.{streets_of}
use Rattle.variant_table.specs.Shares.{Showdown, first_unshown}
use Rattle.play_event.specs.TraceCore.{TraceCore, core_after}
use Rattle.play_event.specs.CanonScript.{dealt_slots, held_slots}
pub use Rattle.play_event.specs.PlayedScript.{IsPlayed, IsWithinLimits, is_move_event}

-- what is seen at the end of a hand with this trace: the shown seats, the cards that each seat
-- holds, and the board
abbrev pub showdown_in : Setup → TraceCore → Showdown
showdown_in setup trace =
    record {
      seats = setup.stacks.seats;
      shown = λ seat. list_any (λ other. other == seat) trace.shown;
      holding = λ seat. known_among (held_slots trace.places seat);
      board = known_among (flat_map (dealt_slots trace.places None) (streets_of setup));
    }

-- the pots of a trace can be shared: no rake is larger than its pot, and each pot that two or more
-- seats may win has a shown hand
pub record IsShareable (setup : Setup) (trace : TraceCore) : Type 0 where
  pub no_rake_above : first_rake_above setup.rakes trace.pots ≡ None
  pub no_unshown : first_unshown (showdown_in setup trace) trace.pots ≡ None

-- a script is that of a legal hand: it can be played to its end, and the pots that it leaves can be
-- shared
pub record IsLegalHand (setup : Setup) (rules : Rules) (script : List Said) : Type 0 where
  pub played : IsPlayed setup rules script
  pub shareable : IsShareable setup (core_after setup script)
