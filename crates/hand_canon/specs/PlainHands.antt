-- What a record says, with plain lists: its setup, its rules, its events, what is stated of its
-- end, and its notes.
use Rattle.std.specs.Prelude.{ℕ, Bool, List, map, Option, option_map}
use Rattle.chip_ledger.specs.SeatRow.{amounts_in}
use Rattle.play_event.specs.declared.code.Code.{Code}
use Rattle.play_event.specs.declared.setup.Rules.{Rules}
use Rattle.play_event.specs.declared.setup.Setup.{Setup}
use Rattle.play_event.specs.Said.{Numbered, numbered}
use Rattle.hand_canon.specs.declared.record.NetRow.{NetRow}
use Rattle.hand_canon.specs.declared.record.Record.{Record}
use Rattle.hand_canon.specs.declared.record.Stated.{Stated}
use Rattle.hand_canon.specs.declared.sizes.Sizes.{Sizes}
use Rattle.hand_canon.specs.SaidNotes.{SaidNotes, plain_notes}

-- the sizes of the bets of a setup
abbrev pub sizes_in : Setup → Sizes
sizes_in setup =
    record {
      bring_in = setup.bring_in;
      small_bet = setup.small_bet;
      big_bet = setup.big_bet;
      min_bet = setup.min_bet;
    }

-- a setup with plain lists, without its rakes
pub record PlainSetup : Type 0 where
  pub code : Code
  pub stacks : List ℕ
  pub antes : List ℕ
  pub dead_antes : Bool
  pub blinds : List ℕ
  pub sizes : Sizes

-- what a setup says
abbrev pub plain_setup : Setup → PlainSetup
plain_setup setup =
    record {
      code = setup.code;
      stacks = amounts_in setup.stacks;
      antes = amounts_in setup.antes;
      dead_antes = setup.dead_antes;
      blinds = amounts_in setup.blinds;
      sizes = sizes_in setup;
    }

-- what is stated of a hand's end
pub record PlainStated : Type 0 where
  pub finish : Option (List ℕ)
  pub wins : Option (List ℕ)
  pub pot_total : Option ℕ
  pub values : Option NetRow

-- what is stated, with plain lists
abbrev pub plain_stated : Stated → PlainStated
plain_stated stated =
    record {
      finish = option_map amounts_in stated.finish;
      wins = option_map amounts_in stated.wins;
      pot_total = stated.pot_total;
      values = stated.values;
    }

-- a hand with plain lists
pub record PlainHand : Type 0 where
  pub setup : PlainSetup
  pub rakes : List ℕ
  pub rules : Rules
  pub script : List Numbered
  pub stated : PlainStated
  pub notes : SaidNotes

-- what a record says
abbrev pub plain : Record → PlainHand
plain hand =
    record {
      setup = plain_setup hand.setup;
      rakes = hand.setup.rakes.rakes;
      rules = hand.rules;
      script = map numbered hand.script;
      stated = plain_stated hand.stated;
      notes = plain_notes hand.setup.stacks.seats hand.notes;
    }
