use Rattle.play_event.proofs.FloorLaws.{above_current_bet, within_full_raise}
use Rattle.play_event.proofs.laws.law_of_floors.Goals as goal

pub returns-clause-above_current_bet : goal.returns-clause-above_current_bet
returns-clause-above_current_bet c = λ setup rules events played reopens street. above_current_bet setup rules events played.valid played.unfixed played.legal reopens street

pub returns-clause-within_full_raise : goal.returns-clause-within_full_raise
returns-clause-within_full_raise c = λ setup rules events played reopens street. within_full_raise setup rules events played.valid played.unfixed played.legal reopens street
