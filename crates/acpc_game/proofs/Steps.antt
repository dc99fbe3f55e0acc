-- Words and lines that are read one after another, as a loop does.
use Rattle.std.proofs.Common.{◌≡◌, ℕ, ◌+◌, ◌≤◌, Bool, true, false, nat_le, if◌then◌else◌, List, [], ◌∷◌, ◌++◌, Some, None, Result, Ok, refl, sym, ap, ◌∙◌, arith}
use Rattle.std.specs.Str.Parse.{digits_value}
use Rattle.std.proofs.lemmas.Bool.{leb-true}
use Rattle.std.proofs.lemmas.Option.{same_Some}
use Rattle.first_fault.specs.declared.stop.ReadError.{ReadError}
use Rattle.first_fault.specs.declared.stop.ReadError.TheVariants as stops
use Rattle.first_fault.specs.Digits.{number_of}
use Rattle.first_fault.specs.Reading.{◌>>=◌, Fails}
use Rattle.acpc_game.specs.declared.fault.AcpcFault.{AcpcFault}
use Rattle.acpc_game.specs.GameEntries.{EntrySaid, number_said, numbers_after, entries_after, entries_after_line}

-- what fails first fails as a whole
pub fails_first : {A B F : Type 0} (stop : ReadError F) (first : Result A F) (next : A → Result B F) → Fails stop first → Fails stop (first >>= next)
fails_first (stops.Memory memory) first next fails = tt
fails_first (stops.Fault fault) first next fails = ap (λ read. read >>= next) fails

-- if two are equal and one fails, the other fails
pub fails_at : {A F : Type 0} (stop : ReadError F) (first second : Result A F) → first ≡ second → Fails stop first → Fails stop second
fails_at (stops.Memory memory) first second same fails = tt
fails_at (stops.Fault fault) first second same fails = sym same ∙ fails

within : (test : Bool) (value most number : ℕ) → nat_le value most ≡ test → (if test then Some value else None) ≡ Some number → number ≤ most
within true value most number is same = omega (arith, leb-true value most is, same_Some value number same)
within false value most number is same = absurd (cc (same))

-- a number that is read is within the greatest
pub at_most : (most : ℕ) (digits : List ℕ) (number : ℕ) → Some number ≡ number_of most digits → number ≤ most
unfolding number_of
at_most most digits number is = within (nat_le (digits_value 10 digits) most) (digits_value 10 digits) most number refl (sym is)

module _ (line most : ℕ) (numbers : List ℕ) (all : List (List ℕ)) (whole : Result (List ℕ) AcpcFault) where
  -- one more word was read
  pub word_read : (word : List ℕ) (words : List (List ℕ)) (number : ℕ) → all ≡ word ∷ words → number_said line most word ≡ Ok number
      → numbers_after line most numbers all ≡ whole → numbers_after line most (numbers ++ number ∷ []) words ≡ whole
  unfolding numbers_after
  word_read word words number cut is so_far =
      let one : numbers_after line most numbers all ≡ numbers_after line most (numbers ++ number ∷ []) words = rw (cut, is) refl in
      sym one ∙ so_far

  -- a word was refused
  pub word_fails : (stop : ReadError AcpcFault) (word : List ℕ) (words : List (List ℕ)) → all ≡ word ∷ words → Fails stop (number_said line most word)
      → numbers_after line most numbers all ≡ whole → Fails stop whole
  unfolding numbers_after
  word_fails stop word words cut fails so_far =
      fails_at stop (numbers_after line most numbers (word ∷ words)) whole (ap (numbers_after line most numbers) (sym cut) ∙ so_far)
      (fails_first stop (number_said line most word) (λ number. numbers_after line most (numbers ++ number ∷ []) words) fails)

  -- no word is left
  pub words_done : all ≡ [] → numbers_after line most numbers all ≡ whole → whole ≡ Ok numbers
  unfolding numbers_after
  words_done none so_far = sym so_far ∙ ap (numbers_after line most numbers) none

module _ (no_limit : Bool) (entries : List EntrySaid) (line : ℕ) (all : List (List ℕ)) (whole : Result (List EntrySaid) AcpcFault) where
  -- one more line was read
  pub line_read : (text : List ℕ) (texts : List (List ℕ)) (more : List EntrySaid) → all ≡ text ∷ texts → entries_after_line no_limit entries line text ≡ Ok more
      → entries_after no_limit entries line all ≡ whole → entries_after no_limit more (line + 1) texts ≡ whole
  unfolding entries_after
  line_read text texts more cut is so_far =
      let one : entries_after no_limit entries line all ≡ entries_after no_limit more (line + 1) texts = rw (cut, is) refl in
      sym one ∙ so_far

  -- a line was refused
  pub line_fails : (stop : ReadError AcpcFault) (text : List ℕ) (texts : List (List ℕ)) → all ≡ text ∷ texts → Fails stop (entries_after_line no_limit entries line text)
      → entries_after no_limit entries line all ≡ whole → Fails stop whole
  unfolding entries_after
  line_fails stop text texts cut fails so_far =
      fails_at stop (entries_after no_limit entries line (text ∷ texts)) whole (ap (entries_after no_limit entries line) (sym cut) ∙ so_far)
      (fails_first stop (entries_after_line no_limit entries line text) (λ more. entries_after no_limit more (line + 1) texts) fails)

  -- no line is left
  pub lines_done : all ≡ [] → entries_after no_limit entries line all ≡ whole → whole ≡ Ok entries
  unfolding entries_after
  lines_done none so_far = sym so_far ∙ ap (entries_after no_limit entries line) none
