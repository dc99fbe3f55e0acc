-- The seat that is found is the one with the number.
use Rattle.std.proofs.Common.{rules, ◌∙◌}
use Rattle.command_words.proofs.SeatNumbers.{seat_found}
use Rattle.command_words.proofs.numbers.read_seat.Goals as goal

pub returns : goal.returns
returns c = seat_found _ _ c.new.ensures.seated c.new.ensures.value ∙ search rules
