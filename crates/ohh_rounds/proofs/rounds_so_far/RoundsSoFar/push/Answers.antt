use Rattle.std.proofs.Common.{◌∙◌, sym, ap, arith, map}
use Rattle.std.proofs.lemmas.List.{map_push}
use Rattle.card_set.proofs.Counting.{count_by-push}
use Rattle.ohh_rounds.specs.Steps.{is_action, is_move_effect, is_other_effect, plain_effect, plain_step}
use Rattle.ohh_rounds.proofs.OneStep.{counts_stay_few}
use Rattle.ohh_rounds.proofs.rounds_so_far.RoundsSoFar.push.Goals as goal

pub seats_after-seats-requires-clause-seen : goal.seats_after-seats-requires-clause-seen
seats_after-seats-requires-clause-seen c = rw c.as_slice.ensures.value c.args.self.now.seats_are

pub invariant_of-self : goal.invariant_of-self
invariant_of-self c =
    let seen = c.args.self.now in
    let same = c.in_err-try_push.ensures.items in
    record {
      next_is = rw same seen.next_is;
      moves_are = rw same seen.moves_are;
      others_are = rw same seen.others_are;
      seats_are = rw same seen.seats_are;
      few_moves = seen.few_moves;
      few_file_moves = seen.few_file_moves;
      few_others = seen.few_others;
    }

pub invariant_of-self-2 : goal.invariant_of-self-2
invariant_of-self-2 c =
    let seen = c.args.self.now in
    let step = c.args.step in
    let steps = map plain_step seen.steps.items in
    let items = ap (map plain_step) c.in_ok-try_push.ensures.items ∙ map_push plain_step seen.steps.items step in
    let few = counts_stay_few seen.setting.table.stacks.seats seen.setting.file_moves seen.moves seen.other_events steps (plain_effect step.effect) seen.moves_are seen.others_are c.requires.within (record { moves_few = seen.few_moves; file_few = seen.few_file_moves; others_few = seen.few_others }) in
    let actions = count_by-push is_action steps (plain_step step) in
    let moves = count_by-push (λ x. is_move_effect x.effect) steps (plain_step step) in
    let others = count_by-push (λ x. is_other_effect x.effect) steps (plain_step step) in
    record {
      next_is = rw items (omega (arith, actions, seen.next_is, c.next_after-self.ensures));
      moves_are = rw items (omega (arith, moves, seen.moves_are, c.moves_of.ensures));
      others_are = rw items (omega (arith, others, seen.others_are, c.others_of.ensures));
      seats_are = rw (items, sym c.as_slice.ensures.value) c.seats_after-seats.ensures;
      few_moves = omega (arith, few.moves_few, c.moves_of.ensures);
      few_file_moves = omega (arith, few.file_few, c.moves_of.ensures);
      few_others = omega (arith, few.others_few, c.others_of.ensures);
    }
