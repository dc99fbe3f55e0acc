-- The game with this code: one of the eleven, or none.
use Rattle.std.proofs.Common.{◌≡◌, ℕ, bytes_eq, List, [], ◌∷◌, find, Option, Some, None, IfSome, IfNone, refl, sym, ap, ◌∙◌, inl, inr}
use Rattle.std.proofs.lemmas.Bool.{cases_Bool}
use Rattle.std.proofs.lemmas.Slice.Eq.{bytes_eq-Decides}
use Rattle.play_event.specs.declared.code.Code.{Code}
use Rattle.play_event.specs.declared.code.Code.TheVariants as games
use Rattle.play_event.specs.Code.{code_text}
use Rattle.phh_reading.specs.SetupFields.{game_named}
use Rattle.play_event.specs.Games.{all_games}

pub own_code : (code : Code) → game_named (code_text code) ≡ Some code
unfolding game_named
own_code games.FT = refl
own_code games.NT = refl
own_code games.NS = refl
own_code games.PO = refl
own_code games.FO8 = refl
own_code games.F7S = refl
own_code games.F7S8 = refl
own_code games.FR = refl
own_code games.N2L1D = refl
own_code games.F2L3D = refl
own_code games.FB = refl

no_code : (text : List ℕ) → ((code : Code) → code_text code ≡ text → ⊥) → (codes : List Code) → find (λ code. bytes_eq text (code_text code)) codes ≡ None
no_code text none [] = refl
no_code text none (code ∷ rest) =
    elim (cases_Bool (bytes_eq text (code_text code))) [
      | inl same ↦ absurd (none code (sym ((bytes_eq-Decides text (code_text code)).0 same)))
      | inr other ↦ rw other (no_code text none rest)
    ]

-- what is read from a text is the game whose code it is
pub game_read : (text : List ℕ) (read : Option Code) → IfSome read (λ code. code_text code ≡ text) → IfNone read ((code : Code) → code_text code ≡ text → ⊥) → read ≡ game_named text
unfolding game_named
game_read text (Some code) is none = sym (ap game_named (sym is) ∙ own_code code)
game_read text None is none = sym (no_code text none all_games)
