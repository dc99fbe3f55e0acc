-- Cards that are all different.
use Rattle.std.specs.Prelude.{◌≢◌, List, [], ◌∷◌}
use Rattle.card_set.specs.declared.card.Card.{Card}

-- this holds for each of the cards
abbrev pub Every : (Card → Type 0) → List Card → Type 0
Every P [] = Unit {0}
Every P (card ∷ rest) = P card × Every P rest

-- none of the cards is this one
abbrev pub Lacks : Card → List Card → Type 0
Lacks card cards = Every (λ other. card ≢ other) cards

-- no card occurs twice
abbrev pub AllDifferent : List Card → Type 0
AllDifferent [] = Unit {0}
AllDifferent (card ∷ rest) = Lacks card rest × AllDifferent rest
