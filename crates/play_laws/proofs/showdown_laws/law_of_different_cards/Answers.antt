-- No legal event makes two cards on the table clash.
use Rattle.play_laws.proofs.Different.{cards_differ}
use Rattle.play_laws.proofs.showdown_laws.law_of_different_cards.Goals as goal

pub returns : goal.returns
returns c = λ setup rules events seat legal. cards_differ setup rules events seat legal
