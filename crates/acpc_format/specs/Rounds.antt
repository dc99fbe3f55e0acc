-- The rounds of a hand that a line has: the first, and each further one that was dealt.
use Rattle.std.specs.Prelude.{ℕ, Bool, if◌then◌else◌, List, [], ◌∷◌, None}
use Rattle.std.specs.List.{list_any}
use Rattle.play_event.specs.Trace.{TracedPlace}
use Rattle.play_event.specs.CanonScript.{is_dealt_to}

-- cards of the board were dealt on a street
abbrev pub has_board : List TracedPlace → ℕ → Bool
has_board placed street = list_any (is_dealt_to None street) placed

-- a stroke and the text of a further round, if the round was dealt
abbrev pub behind_stroke : List TracedPlace → ℕ → List ℕ → List ℕ
behind_stroke placed street text = if has_board placed street then 47 ∷ text else []

-- the streets of the further rounds
abbrev pub further_streets : List ℕ
further_streets = 2 ∷ 3 ∷ 4 ∷ []
