-- The setups of hands whose canonical scripts are computed.
use Rattle.std.proofs.Common.{refl}
use Rattle.std.specs.Prelude.{false, [], ◌∷◌, Some}
use Rattle.play_event.specs.declared.code.Code.TheVariants as games
use Rattle.play_event.specs.declared.setup.Setup.{Setup}
use Rattle.play_event.specs.declared.setup.Rules.{Rules}
use Rattle.worked_hands.specs.Words.{hand_of, match_rules}

-- three seats of single draw with stacks of 40
abbrev pub three_in_single_draw : Setup
three_in_single_draw =
    hand_of games.N2L1D false 0 0 0 2 (40 ∷ 40 ∷ 40 ∷ []) (0 ∷ 0 ∷ 0 ∷ []) (1 ∷ 2 ∷ 0 ∷ []) refl
    refl refl

-- three seats of badugi with the bets 2 and 4
abbrev pub badugi : Setup
badugi =
    hand_of games.FB false 0 2 4 0 (100 ∷ 100 ∷ 100 ∷ []) (0 ∷ 0 ∷ 0 ∷ []) (1 ∷ 2 ∷ 0 ∷ []) refl
    refl refl

-- three seats of short deck with stacks of 100
abbrev pub short_deck : Setup
short_deck =
    hand_of games.NS false 0 0 0 2 (100 ∷ 100 ∷ 100 ∷ []) (0 ∷ 0 ∷ 0 ∷ []) (1 ∷ 2 ∷ 0 ∷ []) refl
    refl refl

-- a match with at most three raises on the first street, and four on each later one
abbrev pub four_raises : Rules
four_raises = match_rules (Some (3 ∷ 4 ∷ 4 ∷ 4 ∷ []))
