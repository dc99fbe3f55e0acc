-- Hole cards and steps read one after another, as a loop does.
use Rattle.std.proofs.Common.{◌≡◌, ℕ, ◌+◌, eqb, false, List, [], ◌∷◌, length, Result, Ok, refl, sym, ap, ◌∙◌, arith}
use Rattle.std.proofs.lemmas.Bool.Decides.{nat_tests}
use Rattle.std.proofs.lemmas.List.Splits.{length-slice_split}
use Rattle.play_event.specs.Said.{Numbered}
use Rattle.first_fault.specs.declared.stop.ReadError.{ReadError}
use Rattle.first_fault.specs.Reading.{Fails}
use Rattle.acpc_game.specs.declared.fault.LineFault.{LineFault}
use Rattle.acpc_game.specs.Parts.{parts_of}
use Rattle.acpc_game.proofs.Steps.{fails_first, fails_at}
use Rattle.acpc_reading.specs.declared.step.BettingStep.{BettingStep}
use Rattle.acpc_reading.specs.Cards.{Written, bad_cards, hole_after, holes_after, step_after, steps_after, without_rest}

module _ (at : ℕ) (events : List Numbered) (seat : ℕ) (all : List (List ℕ)) (whole : Result (List Numbered) LineFault) where
  -- the hole cards of one more seat were read
  pub hole_read : (part : List ℕ) (parts : List (List ℕ)) (more : List Numbered) → all ≡ part ∷ parts → hole_after at events seat part ≡ Ok more
      → holes_after at events seat all ≡ whole → holes_after at more (seat + 1) parts ≡ whole
  unfolding holes_after
  hole_read part parts more cut is so_far =
      let one : holes_after at events seat all ≡ holes_after at more (seat + 1) parts = rw (cut, is) refl in
      sym one ∙ so_far

  -- hole cards were refused
  pub hole_fails : (stop : ReadError LineFault) (part : List ℕ) (parts : List (List ℕ)) → all ≡ part ∷ parts → Fails stop (hole_after at events seat part)
      → holes_after at events seat all ≡ whole → Fails stop whole
  unfolding holes_after
  hole_fails stop part parts cut fails so_far =
      fails_at stop (holes_after at events seat (part ∷ parts)) whole (ap (holes_after at events seat) (sym cut) ∙ so_far)
      (fails_first stop (hole_after at events seat part) (λ more. holes_after at more (seat + 1) parts) fails)

  -- no hole cards are left
  pub holes_done : all ≡ [] → holes_after at events seat all ≡ whole → whole ≡ Ok events
  unfolding holes_after
  holes_done none so_far = sym so_far ∙ ap (holes_after at events seat) none

module _ (at : ℕ) (so_far : Written) (all : List BettingStep) (whole : Result Written LineFault) where
  -- one more step was written
  pub step_read : (step : BettingStep) (steps : List BettingStep) (more : Written) → all ≡ step ∷ steps → step_after at so_far step ≡ Ok more
      → steps_after at so_far all ≡ whole → steps_after at more steps ≡ whole
  unfolding steps_after
  step_read step steps more cut is before =
      let one : steps_after at so_far all ≡ steps_after at more steps = rw (cut, is) refl in
      sym one ∙ before

  -- a step was refused
  pub step_fails : (stop : ReadError LineFault) (step : BettingStep) (steps : List BettingStep) → all ≡ step ∷ steps → Fails stop (step_after at so_far step)
      → steps_after at so_far all ≡ whole → Fails stop whole
  unfolding steps_after
  step_fails stop step steps cut fails before =
      fails_at stop (steps_after at so_far (step ∷ steps)) whole (ap (steps_after at so_far) (sym cut) ∙ before)
      (fails_first stop (step_after at so_far step) (λ more. steps_after at more steps) fails)

  -- no step is left
  pub steps_done : all ≡ [] → steps_after at so_far all ≡ whole → whole ≡ Ok so_far
  unfolding steps_after
  steps_done none before = sym before ∙ ap (steps_after at so_far) none

-- cards that are left after the last step
pub some_left : (at : ℕ) (events : List Numbered) (number size : ℕ) (text : List ℕ) → without_rest at (record { events = events; number = number; size = size; boards = parts_of 47 text }) ≡ bad_cards at
some_left at events number size text =
    let some : eqb (length (parts_of 47 text)) 0 ≡ false = grind (arith, nat_tests, length-slice_split (λ b. eqb b 47) text) in
    rw some refl
