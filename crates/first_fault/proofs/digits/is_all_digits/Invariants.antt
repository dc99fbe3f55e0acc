use Rattle.std.proofs.Common.{◌≡◌, drop}
use Rattle.std.specs.Char.{is_digit}
use Rattle.std.specs.List.{list_all}
use Rattle.first_fault.proofs.digits.is_all_digits.Given as goal

-- the signs are all digits if those that are left are
abbrev pub invariant-loop-sign : goal.invariant-loop-sign
invariant-loop-sign l = list_all (λ sign. is_digit sign 10) (drop l.sign-index l.text) ≡ list_all (λ sign. is_digit sign 10) l.text
