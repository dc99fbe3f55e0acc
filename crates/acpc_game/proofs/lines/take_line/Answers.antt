use Rattle.std.proofs.Common.{◌≡◌, ℕ, true, subst, sym}
use Rattle.acpc_game.specs.Keys.{takes_count}
use Rattle.acpc_game.proofs.lines.take_line.Goals as goal

pub read_numbers-requires : goal.read_numbers-requires
read_numbers-requires c = c.in-Some.form.digits

pub invariant_of-try_push : goal.invariant_of-try_push
invariant_of-try_push c =
    record {
      bounded = c.in_ok-numbers.ensures.bounded;
      counted = subst (λ (count : ℕ). takes_count c.in-Some.form.key count ≡ true) (sym c.in_ok-numbers.ensures.count) c.in-Some.form.counted;
    }
