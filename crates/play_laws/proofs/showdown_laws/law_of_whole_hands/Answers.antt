-- The cards were counted street by street.
use Rattle.play_laws.proofs.WholeBoards.{whole_boards}
use Rattle.play_laws.proofs.WholeHands.{whole_hands}
use Rattle.play_laws.proofs.showdown_laws.law_of_whole_hands.Goals as goal

pub returns-clause-hands : goal.returns-clause-hands
returns-clause-hands c = λ setup rules events seat ends low high live. whole_hands setup rules events seat ends (record { least = low; most = high; live = live })

pub returns-clause-board : goal.returns-clause-board
returns-clause-board c = λ setup rules events ends. whole_boards setup rules events ends
