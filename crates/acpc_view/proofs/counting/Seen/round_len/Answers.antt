-- A further round that has begun has a stroke and its letters.
use Rattle.std.proofs.Common.{List, ap, length, take, sym, subst, ◌∙◌, arith}
use Rattle.std.proofs.lemmas.List.{length-take-le}
use Rattle.play_event.specs.declared.played.Move.{Move}
use Rattle.acpc_format.specs.Puts.{HaveFewChips}
use Rattle.acpc_view.proofs.Writing.{few_chips}
use Rattle.acpc_view.specs.Lengths.{seen_by}
use Rattle.acpc_view.proofs.LineLengths.{round_none, round_sum}
use Rattle.acpc_view.proofs.counting.Seen.round_len.Goals as goal

pub letters_len-requires-clause-chips : goal.letters_len-requires-clause-chips
letters_len-requires-clause-chips c =
    subst (λ (moves : List Move). HaveFewChips c.args.self.now.trace.now.setup (take c.args.self.now.count moves)) (sym c.as_slice.ensures) (few_chips c.args.self.now.trace.now c.args.self.now.count c.args.self.now.short.chips)

pub returns-then-is_board_seen : goal.returns-then-is_board_seen
returns-then-is_board_seen c =
    let many = ap (length {A = Move}) c.as_slice.ensures in
    let made = length-take-le c.args.self.now.count c.as_slice.result.now (omega (arith, many, c.args.self.now.there)) in
    record {
      value =
          round_sum c.args.no_limit c.args.self.now.trace.now (seen_by c.args.self.now.trace.now c.args.self.now.viewer.number c.args.self.now.count) c.args.self.now.count c.args.street c.letters_len.result c.as_slice.result.now c.as_slice.ensures
          (sym c.is_board_seen.ensures ∙ c.if-is_board_seen.true) c.letters_len.ensures.value;
      few = omega (arith, made, c.args.self.now.there, c.args.self.now.short.moves);
    }

pub returns-else-is_board_seen : goal.returns-else-is_board_seen
returns-else-is_board_seen c =
    record {
      value =
          round_none c.args.no_limit c.args.self.now.trace.now (seen_by c.args.self.now.trace.now c.args.self.now.viewer.number c.args.self.now.count) c.args.self.now.count c.args.street (sym c.is_board_seen.ensures ∙ c.if-is_board_seen.false);
      few = omega arith;
    }
