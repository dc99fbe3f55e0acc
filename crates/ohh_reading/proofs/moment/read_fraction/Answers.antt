use Rattle.std.proofs.Common.{arith}
use Rattle.std.specs.Char.{is_digit}
use Rattle.std.proofs.lemmas.List.Sums.{prefix_len-le-length}
use Rattle.ohh_reading.proofs.moment.read_fraction.Goals as goal

pub split_at-requires-2 : goal.split_at-requires-2
split_at-requires-2 c = omega (arith, c.count_leading_digits-count.ensures, prefix_len-le-length (λ sign. is_digit sign 10) c.split_at.result.1.now)
