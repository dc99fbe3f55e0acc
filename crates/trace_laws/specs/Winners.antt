-- Who gets chips of the pots of a hand.
use Rattle.std.specs.Prelude.{ℕ, List, [], ◌∷◌}
use Rattle.chip_ledger.specs.Pots.{PlainPot}
use Rattle.play_event.specs.declared.code.Code.{Code}
use Rattle.variant_table.specs.Shares.{Showdown}
use Rattle.showdown_split.specs.Laws.{GoesToBest}

-- there is a share for each pot, and a seat that gets chips of a pot that two or more seats may win
-- is unbeaten
abbrev pub AllGoToBest : Code → Showdown → List PlainPot → List (ℕ → ℕ) → Type 0
AllGoToBest code showdown [] [] = Unit {0}
AllGoToBest code showdown [] (share ∷ shares) = ⊥
AllGoToBest code showdown (pot ∷ pots) [] = ⊥
AllGoToBest code showdown (pot ∷ pots) (share ∷ shares) =
    GoesToBest code showdown pot share × AllGoToBest code showdown pots shares
