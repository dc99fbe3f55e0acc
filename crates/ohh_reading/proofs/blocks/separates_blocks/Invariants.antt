use Rattle.std.proofs.Common.{◌≡◌, drop}
use Rattle.ohh_reading.specs.Blocks.{is_blank}
use Rattle.ohh_reading.proofs.blocks.separates_blocks.Given as goal

-- the line is blank if the characters that are left are
abbrev pub invariant-loop-sign : goal.invariant-loop-sign
invariant-loop-sign l = is_blank (drop l.sign-index l.line) ≡ is_blank l.line
