-- The numbers after the move stand for the past with the event, which is the past with the move.
use Rattle.std.proofs.Common.{◌≡◌, ◌≤◌, ◌∙◌, ℕ, nat_le, List, ap, rules, subst, sym, arith}
use Rattle.card_set.proofs.Options.{some_more}
use Rattle.play_event.specs.declared.code.Code.{Code}
use Rattle.play_event.specs.declared.setup.Setup.{Setup}
use Rattle.play_event.specs.Games.{street_count}
use Rattle.play_event.specs.Past as plays
use Rattle.play_event.specs.Past.{Past, moves_of}
use Rattle.play_event.specs.Played.{act_said, move_said}
use Rattle.play_event.specs.Trace.{traced_move}
use Rattle.betting_numbers.specs.Moving.{IsMoved}
use Rattle.betting_numbers.specs.Standing.{Standing, StandsFor}
use Rattle.betting_numbers.specs.LegalMoves.{move_of}
use Rattle.betting_numbers.specs.Turn.{IsFirstBehind, IsNextUp, IsPassedTo, IsSettledTo}
use Rattle.betting_numbers.proofs.NextUp.{next_up}
use Rattle.betting_numbers.proofs.StandsAfter.{stands_after}
use Rattle.betting_numbers.proofs.TraceLaws.{same_move}
use Rattle.betting_core.specs.HandNumbers.{AreOfGame}
use Rattle.betting_core.proofs.betting.Betting.play.Goals as goal

pub returns-clause-stands : goal.returns-clause-stands
returns-clause-stands g c =
    let b = c.args.self.now in
    let legal = c.args.legal in
    let mid = c.apply_move.new.self in
    let next = c.pass.new.table in
    let game : AreOfGame g.V.Variant.CODE g.V.Variant.STREETS b = rw (← c.self.view_is) c.self.invariant in
    let moved : IsMoved b mid legal.seat.number (act_said legal.act) legal.target c.unit-size.result = rw (← c.self.view_is) c.apply_move.ensures in
    let most : b.street ≤ street_count g.V.Variant.CODE = omega (arith, game.kept.last, g.met.V.Variant.values.streets_is) in
    let within : b.street ≤ street_count b.setup.code = subst (λ (code : Code). b.street ≤ street_count code) (sym game.code) most in
    let settled : IsSettledTo mid next = subst (λ (n : ℕ). IsPassedTo (nat_le n 1) mid next) c.live_count-over.ensures c.pass.ensures.passed in
    λ past event stands is_legal.
    subst (λ (p : Past). StandsFor next p) (sym is_legal.moved)
    (stands_after b mid next past legal.seat.number legal.target c.unit-size.result (act_said legal.act) stands c.requires.due (record { first = legal.seat.first; last = c.requires.in_hand }) moved c.unit-size.ensures game.kept.first within c.requires.fits settled)

pub returns-clause-moved : goal.returns-clause-moved
returns-clause-moved g c =
    let b = c.args.self.now in
    let legal = c.args.legal in
    let said : (moves : List plays.Move) → Standing b.setup b.street b moves → move_said c.traced-moved.result ≡ traced_move b.setup (move_of b moves legal.seat.number (act_said legal.act) legal.target) moves =
    rw (← c.self.view_is) c.traced-moved.ensures in
    λ past event stands is_legal move is.
    said (moves_of past) stands.standing
    ∙ ap (λ (m : plays.Move). traced_move b.setup m (moves_of past)) (same_move (move_of b (moves_of past) legal.seat.number (act_said legal.act) legal.target) move past (sym is_legal.moved ∙ is))

pub pass-requires : goal.pass-requires
pass-requires g c =
    let b = c.args.self.now in
    let legal = c.args.legal in
    let game : AreOfGame g.V.Variant.CODE g.V.Variant.STREETS b = rw (← c.self.view_is) c.self.invariant in
    let next = c.apply_move.new.self in
    let moved : IsMoved b next legal.seat.number (act_said legal.act) legal.target c.unit-size.result = rw (← c.self.view_is) c.apply_move.ensures in
    record {
      code = ap (λ (s : Setup). s.code) moved.setup ∙ game.code;
      on = search rules;
      behind = some_more c.args.behind (IsFirstBehind b legal.seat.number) (IsNextUp next)
          (λ behind is. next_up b next legal.seat.number (act_said legal.act) legal.target c.unit-size.result moved (record { first = legal.seat.first; last = c.requires.in_hand }) game.kept.fresh behind is)
          c.requires.behind;
    }
