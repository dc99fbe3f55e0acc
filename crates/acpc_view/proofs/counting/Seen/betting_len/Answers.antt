-- The betting is that of four rounds.
use Rattle.std.proofs.Common.{List, length, map, take, sym, ap, subst, ◌∙◌, arith}
use Rattle.play_event.specs.CanonScript.{plain_moves}
use Rattle.play_event.specs.Played.{move_said}
use Rattle.std.proofs.lemmas.List.{length-take-le}
use Rattle.play_event.specs.declared.played.Move.{Move}
use Rattle.acpc_format.specs.Betting.{letters_on}
use Rattle.acpc_format.specs.Puts.{HaveFewChips}
use Rattle.acpc_view.specs.Lengths.{seen_by}
use Rattle.acpc_view.proofs.LineLengths.{betting_sum}
use Rattle.acpc_view.proofs.Writing.{few_chips}
use Rattle.acpc_view.proofs.counting.Seen.betting_len.Goals as goal

pub letters_len-requires-clause-chips : goal.letters_len-requires-clause-chips
letters_len-requires-clause-chips c =
    subst (λ (moves : List Move). HaveFewChips c.args.self.now.trace.now.setup (take c.args.self.now.count moves)) (sym c.as_slice.ensures) (few_chips c.args.self.now.trace.now c.args.self.now.count c.args.self.now.short.chips)

pub returns : goal.returns
returns c =
    let trace = c.args.self.now.trace.now in
    let many = ap (length {A = Move}) c.as_slice.ensures in
    let made = length-take-le c.args.self.now.count c.as_slice.result.now (omega (arith, many, c.args.self.now.there)) in
    record {
      value =
          betting_sum c.args.no_limit trace.setup (seen_by trace c.args.self.now.viewer.number c.args.self.now.count) (plain_moves (map move_said (take c.args.self.now.count trace.moves))) c.letters_len.result c.round_len.result c.round_len-2.result c.round_len-3.result
          (c.letters_len.ensures.value ∙ ap (λ (moves : List Move). length (letters_on c.args.no_limit trace.setup 1 (plain_moves (map move_said (take c.args.self.now.count moves))))) c.as_slice.ensures)
          c.round_len.ensures.value c.round_len-2.ensures.value c.round_len-3.ensures.value;
      few = omega (arith, made, c.args.self.now.there, c.args.self.now.short.moves);
    }
