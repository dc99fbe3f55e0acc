-- Letters read one after another, as a loop does.
use Rattle.std.proofs.Common.{◌≡◌, ℕ, ◌+◌, Bool, List, [], ◌∷◌, length, Result, Ok, refl, sym, ap, ◌∙◌}
use Rattle.first_fault.specs.declared.stop.ReadError.{ReadError}
use Rattle.first_fault.specs.Reading.{◌>>=◌, Fails}
use Rattle.acpc_game.specs.declared.fault.LineFault.{LineFault}
use Rattle.acpc_game.specs.Letters.{Letter, scan}
use Rattle.acpc_game.proofs.Scan.{letter_at}
use Rattle.acpc_game.proofs.Steps.{fails_first, fails_at}
use Rattle.acpc_reading.specs.Betting.{Bets, betting_said, letter_said, bets_after, no_bets}

module _ (no_limit : Bool) where
  -- the letter at the front, and those after it
  front_letter : (bets : Bets) (at letter : ℕ) (all text digits after : List ℕ) → all ≡ letter ∷ text → (scan text).0 ≡ digits → (scan text).1 ≡ (scan after).1 → (scan all).0 ≡ []
      → bets_after no_limit bets at (scan all).1 ≡ (letter_said no_limit bets at (letter, digits) >>= λ more. bets_after no_limit more (at + 1 + length digits) (scan after).1)
  unfolding bets_after
  front_letter bets at letter all text digits after whole digits_are rest_are begins =
      let cut : (scan all).1 ≡ (letter, digits) ∷ (scan after).1 = rw whole (letter_at letter text digits after digits_are rest_are (rw whole at begins)) in
      ap (λ (letters : List Letter). bets_after no_limit bets at letters) cut

  -- a betting that begins with no digit is that of its letters
  pub begins_bare : (file_moves at : ℕ) (text : List ℕ) → (scan text).0 ≡ [] → bets_after no_limit (no_bets file_moves) at (scan text).1 ≡ betting_said no_limit file_moves at text
  unfolding betting_said
  begins_bare file_moves at text none = rw none refl

  pub goes_on : (bets more : Bets) (at letter : ℕ) (all text digits after : List ℕ) (total : Result Bets LineFault)
      → all ≡ letter ∷ text → (scan text).0 ≡ digits → (scan text).1 ≡ (scan after).1 → (scan all).0 ≡ [] → letter_said no_limit bets at (letter, digits) ≡ Ok more
      → bets_after no_limit bets at (scan all).1 ≡ total → bets_after no_limit more (at + 1 + length digits) (scan after).1 ≡ total
  goes_on bets more at letter all text digits after total whole digits_are rest_are begins is so_far =
      sym (front_letter bets at letter all text digits after whole digits_are rest_are begins ∙ ap (λ read. read >>= λ more. bets_after no_limit more (at + 1 + length digits) (scan after).1) is) ∙ so_far

  pub ends : (stop : ReadError LineFault) (bets : Bets) (at letter : ℕ) (all text digits after : List ℕ) (total : Result Bets LineFault)
      → all ≡ letter ∷ text → (scan text).0 ≡ digits → (scan text).1 ≡ (scan after).1 → (scan all).0 ≡ [] → Fails stop (letter_said no_limit bets at (letter, digits))
      → bets_after no_limit bets at (scan all).1 ≡ total → Fails stop total
  ends stop bets at letter all text digits after total whole digits_are rest_are begins is so_far =
      fails_at stop _ total (sym (front_letter bets at letter all text digits after whole digits_are rest_are begins) ∙ so_far)
      (fails_first stop (letter_said no_limit bets at (letter, digits)) (λ more. bets_after no_limit more (at + 1 + length digits) (scan after).1) is)

  pub is_done : (bets : Bets) (at : ℕ) (text : List ℕ) (total : Result Bets LineFault) → text ≡ [] → bets_after no_limit bets at (scan text).1 ≡ total → total ≡ Ok bets
  unfolding bets_after
  is_done bets at text total empty so_far = sym so_far ∙ rw empty refl
