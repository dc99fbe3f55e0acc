use Rattle.std.proofs.Common.{rules, ◌+◌, arith}
use Rattle.card_set.specs.Row.{cards_of}
use Rattle.hand_counts.proofs.DealtLaws.{dealt_push}
use Rattle.hand_counts.proofs.speed.+score_hands.Goals as goal

pub score_hands-requires : goal.score_hands-requires
score_hands-requires g t c κs within =
    let at = c.card_at.ensures in
    let one = c.push.ensures.longer in
    let other = c.if-hand-cards.false in (
      search rules,
      (
        within,
        (
          c.requires.can,
          (
            c.requires.few,
            (
              omega arith,
              dealt_push c.args.from (c.loop-place.place + 1) (cards_of c.args.hand) (cards_of c.push.new.self) c.card_at.result c.requires.dealt (omega arith) (omega arith) c.push.ensures.entries,
            ),
          ),
        ),
      ),
    )
