use Rattle.play_laws.proofs.DonePasts.{legal_done}
use Rattle.play_laws.proofs.LegalPlaces.{legal_past}
use Rattle.play_laws.proofs.laws.law_of_legal_pasts.Goals as goal

pub returns-clause-past : goal.returns-clause-past
returns-clause-past c = λ setup rules events legal. (legal_past setup rules events legal).past

pub returns-clause-done : goal.returns-clause-done
returns-clause-done c = λ setup rules events legal. (legal_done setup rules events legal).done
