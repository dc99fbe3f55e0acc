use Rattle.std.proofs.Common.{arith, eqb}
use Rattle.std.proofs.lemmas.List.Sums.{prefix_len-le-length}
use Rattle.phh_reading.proofs.order.without_zeros.Goals as goal

pub split_at-requires : goal.split_at-requires
split_at-requires c = omega (arith, c.zeros-len.ensures, prefix_len-le-length (λ digit. eqb digit 48) c.args.key.now)
