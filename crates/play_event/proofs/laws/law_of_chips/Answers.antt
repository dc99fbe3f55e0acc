use Rattle.play_event.proofs.ChipLaws.{puts_within, put_and_left}
use Rattle.play_event.proofs.laws.law_of_chips.Goals as goal

pub returns-clause-puts_within : goal.returns-clause-puts_within
returns-clause-puts_within c = λ setup rules events seat valid legal. puts_within setup rules events valid.antes legal seat

pub returns-clause-put_and_left : goal.returns-clause-put_and_left
returns-clause-put_and_left c = λ setup rules events seat valid legal. put_and_left setup rules events valid.antes legal seat
