-- Without draws nothing is dealt past the end of the deck.
use Rattle.play_laws.proofs.DealtOnce.{dealt_once}
use Rattle.play_laws.proofs.showdown_laws.law_of_cards_dealt_once.Goals as goal

pub returns : goal.returns
returns c = λ setup rules events a b legal no_draw in_a in_b apart. dealt_once setup rules events a b legal no_draw in_a in_b apart
