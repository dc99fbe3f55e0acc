use Rattle.play_laws.proofs.InDeck.{lawful, legal_cards}
use Rattle.play_laws.proofs.LegalPlaces.{legal_past}
use Rattle.play_laws.proofs.laws.law_of_legal_places.Goals as goal

pub returns-clause-places : goal.returns-clause-places
returns-clause-places c = λ setup rules events legal. (legal_past setup rules events legal).places

pub returns-clause-lawful : goal.returns-clause-lawful
returns-clause-lawful c = lawful

pub returns-clause-unknowns_first : goal.returns-clause-unknowns_first
returns-clause-unknowns_first c = λ setup rules events legal. (legal_cards setup rules events legal).list.unknowns
