-- The lines of one more hand are appended, or none is kept.
use Rattle.std.proofs.Common.{◌≡◌, true, length, ap, arith, rules}
use Rattle.std.proofs.lemmas.Result.{on_ok_weaker}
use Rattle.poker_cli.proofs.SeenViews.{dropped_more, kept_more, not_kept_more}
use Rattle.poker_cli.proofs.views.SeenLinesHandVisitor.take_play.Goals as goal

pub has_room-requires : goal.has_room-requires
has_room-requires c =
    let kept : c.args.self.now.kept ≡ true = search rules in
    let seen = c.requires.1.took.2 in
    omega (arith, seen.few kept, ap length (seen.all kept))

pub returns-then-not-self : goal.returns-then-not-self
returns-then-not-self c = λ start before counted seen. (
  seen.0,
  seen.1,
  not_kept_more c.args.self.now.game c.args.self.now.seat c.args.place.index before c.args.play.now counted c.args.self.now.kept c.args.self.now.lines.items (search rules) seen.2,
)

pub returns-then-not-has_room : goal.returns-then-not-has_room
returns-then-not-has_room c = λ start before counted seen. (
  seen.0,
  seen.1,
  dropped_more c.args.self.now.game c.args.self.now.seat c.args.place.index before c.args.play.now counted c.args.self.now.kept c.args.self.now.lines.items _ (search rules) seen.2
      (c.has_room.ensures.over (search rules)),
)

pub returns : goal.returns
returns c = λ start before counted seen.
    on_ok_weaker c.push_views.result
    (λ put. (
      seen.0,
      seen.1,
      kept_more c.args.self.now.game c.args.self.now.seat c.args.place.index before c.args.play.now counted c.args.self.now.kept c.args.self.now.lines.items _ (search rules) seen.2
          (c.has_room.ensures.fits (search rules)) put,
    ))
    c.push_views.ensures
