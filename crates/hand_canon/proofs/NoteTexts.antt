-- The text of a note is not empty, and is noted again if it is not the default. Plain texts are
-- compared one by one.
use Rattle.hand_canon.specs.AllowedNotes.{AreNoteTexts, IsNoteText, noted}
use Rattle.hand_canon.specs.NoteTable.{no_texts}
use Rattle.hand_canon.specs.declared.notes.TextNotes.{TextNotes}
use Rattle.std.proofs.Common.{Bool, List, None, Option, Some, arith, bytes_eq, cond, false, length, refl, subst, sym, true, ℕ, ◌==◌, ◌||◌, ◌∷◌, ◌≡◌, []}
use Rattle.std.proofs.lemmas.Bool.{eqb-true}

-- a text that is not empty is not the empty default
pub not_empty : (text : List ℕ) → IsNoteText text → bytes_eq text [] ≡ false
not_empty [] is = absurd (omega (arith, is.0))
not_empty (sign ∷ rest) is = refl

-- a text of a note that is not the default stays
pub noted_again : (default text : List ℕ) → IsNoteText text → bytes_eq text default ≡ false → noted default text ≡ Some text
noted_again default text is other = go (length text == 0) refl
  where
    go : (empty : Bool) → (length text == 0) ≡ empty → cond (empty || bytes_eq text default) None (Some text) ≡ Some text
    go true none = absurd (omega (arith, is.0, eqb-true (length text) 0 none))
    go false some = rw other refl

-- texts that are none are allowed
pub none_allowed : (texts : TextNotes) → texts ≡ no_texts → AreNoteTexts texts
none_allowed texts none = subst AreNoteTexts (sym none) (tt, (tt, (tt, tt)))

-- texts are the same, one by one
pub record HaveSameTexts (a b : TextNotes) : Type 0 where
  pub table : a.table ≡ b.table
  pub venue : a.venue ≡ b.venue
  pub currency : a.currency ≡ b.currency

texts_from : Option (List ℕ) → Option (List ℕ) → Option (List ℕ) → TextNotes
texts_from table venue currency = record { table = table; venue = venue; currency = currency }

texts_parts : (a : TextNotes) → a ≡ texts_from a.table a.venue a.currency
unfolding texts_from
texts_parts a = refl

pub texts_same : (a b : TextNotes) → HaveSameTexts a b → a ≡ b
texts_same a b same = cc (texts_parts a, texts_parts b, same.table, same.venue, same.currency)
