-- The board's count is that of its cards.
use Rattle.std.proofs.Common.{None, refl, ◌∙◌}
use Rattle.card_places.proofs.card_state.CardState.done.Goals as goal

pub board_lacks-requires : goal.board_lacks-requires
board_lacks-requires c = c.of.ensures ∙ c.on-dealt.ensures None refl
