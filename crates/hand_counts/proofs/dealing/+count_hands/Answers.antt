use Rattle.std.proofs.Common.{rules, ◌+◌, arith}
use Rattle.card_set.specs.Row.{cards_of}
use Rattle.hand_counts.proofs.DealtLaws.{dealt_push}
use Rattle.hand_counts.proofs.dealing.+count_hands.Goals as goal

pub count_hands-requires : goal.count_hands-requires
count_hands-requires g t c κs within =
    let at = c.card_at.ensures in
    let one = c.push.ensures.longer in
    let held = c.HELD.ensures in
    let other = c.if-hand-HELD.false in (
      search rules,
      (
        within,
        (
          c.requires.held,
          (
            omega arith,
            dealt_push c.args.from (c.loop-place.place + 1) (cards_of c.args.hand) (cards_of c.push.new.self) c.card_at.result c.requires.dealt (omega arith) (omega arith) c.push.ensures.entries,
          ),
        ),
      ),
    )
