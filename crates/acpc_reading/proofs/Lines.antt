-- Lines of hands read one after another, as a loop does.
use Rattle.std.proofs.Common.{◌≡◌, ℕ, ◌+◌, List, [], ◌∷◌, Result, Ok, refl, sym, ap, ◌∙◌}
use Rattle.first_fault.specs.declared.stop.ReadError.{ReadError}
use Rattle.first_fault.specs.Reading.{Fails}
use Rattle.acpc_game.specs.declared.fault.AcpcFault.{AcpcFault}
use Rattle.acpc_game.specs.declared.game.Game.{Game}
use Rattle.acpc_game.proofs.Steps.{fails_first, fails_at}
use Rattle.acpc_reading.specs.Logs.{Hands, hands_after, hands_after_line}

module _ (game : Game) (hands : Hands) (line : ℕ) (all : List (List ℕ)) (whole : Result Hands AcpcFault) where
  -- one more line was read
  pub line_read : (text : List ℕ) (texts : List (List ℕ)) (more : Hands) → all ≡ text ∷ texts → hands_after_line game hands line text ≡ Ok more
      → hands_after game hands line all ≡ whole → hands_after game more (line + 1) texts ≡ whole
  unfolding hands_after
  line_read text texts more cut is so_far =
      let one : hands_after game hands line all ≡ hands_after game more (line + 1) texts = rw (cut, is) refl in
      sym one ∙ so_far

  -- a line was refused
  pub line_fails : (stop : ReadError AcpcFault) (text : List ℕ) (texts : List (List ℕ)) → all ≡ text ∷ texts → Fails stop (hands_after_line game hands line text)
      → hands_after game hands line all ≡ whole → Fails stop whole
  unfolding hands_after
  line_fails stop text texts cut fails so_far =
      fails_at stop (hands_after game hands line (text ∷ texts)) whole (ap (hands_after game hands line) (sym cut) ∙ so_far)
      (fails_first stop (hands_after_line game hands line text) (λ more. hands_after game more (line + 1) texts) fails)

  -- no line is left
  pub lines_done : all ≡ [] → hands_after game hands line all ≡ whole → whole ≡ Ok hands
  unfolding hands_after
  lines_done none so_far = sym so_far ∙ ap (hands_after game hands line) none
