-- The rows agree with the past, since betting and cards describe it.
use Rattle.std.proofs.Common.{reverse, sym, ap, ◌∙◌}
use Rattle.play_event.specs.declared.setup.Setup.{Setup}
use Rattle.play_event.specs.Scripts.{past_at_end}
use Rattle.replay_core.proofs.Ended.{is_end, left_as, lives_as, puts_as}
use Rattle.replay_core.proofs.ShownHands.{mucked_are, playable, rows_show, shown_are}
use Rattle.replay_core.proofs.ending.at_end.Goals as goal

pub returns : goal.returns
returns g c = λ setup rules script code ends moves.
    let b = c.args.hand.now.betting in
    let t = c.args.hand.now.cards in
    let live = c.live-live.result in
    let silent = c.mucked-silent.result in
    let unknown = c.unknown-unknown.result in
    let shown = c.shown_row-shown.result in
    let hands = c.hands-hands.result in
    let board = c.board-board.result in
    let same = ap (λ (s : Setup). s.stacks.seats) ends.same_setup in
    let is = is_end setup rules script b t ends g.V.Variant.CODE live silent unknown shown hands board code c.live-live.ensures.seats c.shown_row-shown.ensures.seats c.live-live.ensures.stands c.mucked-silent.ensures.each (λ hand past seat code_is stands in_hand. c.unknown-unknown.ensures.each past seat stands in_hand hand code_is) c.shown_row-shown.ensures.flags c.hands-hands.ensures.each c.board-board.ensures in
    record {
      seats = record {
        live = is.live_seats;
        puts = c.puts-puts.ensures.seats ∙ same;
        left = c.stacks-left.ensures.seats ∙ same;
        shown = is.shown_seats ∙ is.live_seats;
        mucked = c.mucked_row-mucked.ensures.seats ∙ is.live_seats;
        hands = c.hands-hands.ensures.seats ∙ sym ends.stands.seats ∙ same;
      };
      someone = c.live-live.ensures.someone (past_at_end setup script) ends.stands.betting;
      stakes = record {
        puts = puts_as setup rules script b t ends c.puts-puts.result c.puts-puts.ensures.stands;
        lives = lives_as setup rules script b t ends live c.live-live.ensures.stands;
      };
      left = left_as setup rules script b t ends c.stacks-left.result c.stacks-left.ensures.stands;
      shown = shown_are setup rules (reverse script) live silent unknown shown hands board is;
      mucked = mucked_are setup rules (reverse script) live silent unknown shown hands board c.mucked_row-mucked.result is c.mucked_row-mucked.ensures.seats c.mucked_row-mucked.ensures.flags;
      shows = rows_show setup rules (reverse script) live silent unknown shown hands board is;
      playable = λ held pick usable. playable setup rules (reverse script) live silent unknown shown hands board held pick is usable;
      places = c.in_ok-places.ensures setup (past_at_end setup script) code (sym same ∙ ends.stands.seats) ends.stands.cards;
      moves = moves;
    }
