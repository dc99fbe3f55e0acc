-- The rows are the streets of the game.
use Rattle.std.proofs.Common.{refl, sym, arith}
use Rattle.play_event.specs.Games.{game_of}
use Rattle.card_places.proofs.DealTables.{row_is, five_rows, past_last}
use Rattle.card_places.proofs.deal_table.DealTable.street.Goals as goal

pub returns-then-index-lt5 : goal.returns-then-index-lt5
returns-then-index-lt5 c =
    let table = c.args.self.now in
    row_is table.code table.game c.args.number c.saturating_sub-index.result _ table.is_table (sym c.saturating_sub-index.ensures) c.if-index-lt5.true
    (omega (arith, five_rows table.game.rows (game_of table.code) table.is_table.rows, c.if-index-lt5.true))

pub returns-else-index-lt5 : goal.returns-else-index-lt5
returns-else-index-lt5 c = past_last c.args.self.now.code c.args.number _ (omega (arith, c.saturating_sub-index.ensures, c.if-index-lt5.false)) refl
