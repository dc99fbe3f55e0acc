-- What is known before the rounds of a hand are read.
use Rattle.std.specs.Prelude.{ℕ, ℤ, List}
use Rattle.ohh_members.specs.declared.dialect.Dialect.{Dialect}
use Rattle.ohh_rounds.specs.NamedBlinds.{PlainNamedBlinds, plain_named_blinds}
use Rattle.ohh_rounds.specs.declared.hand_context.HandContext.{HandContext}

-- the players' ids by seat, stacks and blinds, how many hole cards a seat is dealt, the dialect,
-- and the number of moves in the file before this hand
pub record PlainHandContext : Type 0 where
  pub ids : List ℤ
  pub table : PlainNamedBlinds
  pub hole_cards : ℕ
  pub dialect : Dialect
  pub file_moves : ℕ

-- what is known before the rounds, as the definitions see it
abbrev pub plain_setting : HandContext → PlainHandContext
plain_setting setting =
    record {
      ids = setting.players.ids.now;
      table = plain_named_blinds setting.table;
      hole_cards = setting.hole_cards;
      dialect = setting.dialect;
      file_moves = setting.file_moves;
    }
