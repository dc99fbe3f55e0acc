-- The board is known, and the cards of its places are those that were dealt to it.
use Rattle.std.proofs.Common.{None, List, ap, ◌∙◌}
use Rattle.card_set.specs.Known.{known_among}
use Rattle.play_event.specs.Places.{Place}
use Rattle.play_event.specs.Held.{held_slots}
use Rattle.deal_core.specs.Board.{board_cards}
use Rattle.deal_core.proofs.Boards.{board_held}
use Rattle.deal_core.proofs.cards.Cards.board.Goals as goal
use Rattle.card_set.proofs.KnownCards.{all_known}

pub returns : goal.returns
returns g c =
    rw (← c.self.view_is) λ past stands.
    c.board.ensures ∙ ap (λ (ps : List Place). known_among (held_slots None ps)) stands.places
    ∙ ap known_among (board_held c.self.inside.state.table.code past) ∙ all_known (board_cards past)
