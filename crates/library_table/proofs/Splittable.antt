-- What a split takes, with one more card and one more pot.
use Rattle.std.proofs.Common.{◌≡◌, ◌≢◌, ◌≤◌, ◌++◌, ℕ, List, [], ◌∷◌}
use Rattle.std.proofs.lemmas.List.Elements.{All-cons}
use Rattle.card_set.specs.declared.card.Card.{Card}
use Rattle.card_set.specs.Different.{Lacks}
use Rattle.chip_ledger.specs.declared.pots.Pot.{Pot}
use Rattle.chip_ledger.specs.declared.seat_row.TheConstants.{MOST_AMOUNT}
use Rattle.chip_ledger.specs.LiveRow.{flagged}
use Rattle.showdown_split.specs.Playable.{AreWinnable}

-- a card that is in neither of the two
pub lacks_both : (card : Card) (first second : List Card) → Lacks card first → Lacks card second → Lacks card (first ++ second)
lacks_both card [] second none others = others
lacks_both card (c ∷ rest) second none others = (none.0, lacks_both card rest second none.1 others)

pub winnable_more : (seats : ℕ) (pot : Pot) (rest : List Pot) → (pot.eligible.seats ≡ seats) × (flagged pot.eligible ≢ []) × (pot.chips ≤ MOST_AMOUNT) → AreWinnable seats rest → AreWinnable seats (pot ∷ rest)
winnable_more seats pot rest one all = record {
  same_seats = All-cons (λ (p : Pot). p.eligible.seats ≡ seats) pot rest one.0 all.same_seats;
  winnable = All-cons (λ (p : Pot). flagged p.eligible ≢ []) pot rest one.1 all.winnable;
  bounded = All-cons (λ (p : Pot). p.chips ≤ MOST_AMOUNT) pot rest one.2 all.bounded;
}
