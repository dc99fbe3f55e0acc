use Rattle.play_event.proofs.UpCardLaws.{high_agrees, low_agrees}
use Rattle.play_event.proofs.laws.law_of_up_cards.Goals as goal

pub returns-clause-high : goal.returns-clause-high
returns-clause-high c = high_agrees

pub returns-clause-low : goal.returns-clause-low
returns-clause-low c = low_agrees
