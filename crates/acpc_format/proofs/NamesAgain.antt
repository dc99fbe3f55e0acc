-- The written names of players and number of the hand read back as the kept ones.
use Rattle.std.proofs.Common.{◌≡◌, ℕ, zero, suc, ◌+◌, ◌-◌, ◌≤◌, Bool, true, false, ◌==◌, nat_lt, cond, bytes_eq, List, [], ◌∷◌, ◌++◌, length, map, slice_index_or, Option, Some, None, IfSome, IsUtf8, Result, Ok, refl, sym, ap, ◌∙◌, arith, append_assoc}
use Rattle.std.specs.List.{range_with_len}
use Rattle.std.specs.Str.{is_utf8}
use Rattle.std.proofs.lemmas.Bool.Decides.{nat_tests}
use Rattle.std.proofs.lemmas.List.{append-nil}
use Rattle.std.proofs.lemmas.Slice.Eq.{bytes_eq-Decides}
use Rattle.std.proofs.lemmas.Str.{is_utf8-from_IsUtf8}
use Rattle.hand_canon.specs.AllowedNotes.{AreAllowed, IsName}
use Rattle.first_fault.specs.declared.limits.TheConstants.{MOST_TEXT_BYTES}
use Rattle.hand_canon.specs.declared.notes.Notes.{Notes}
use Rattle.acpc_game.specs.declared.fault.LineFault.{LineFault}
use Rattle.acpc_format.specs.Names.{is_spelled_name, name_or_default, name_text}
use Rattle.acpc_reading.specs.Names.{name_said, names_after}
use Rattle.acpc_reading.proofs.UsualNames.{default_again}
use Rattle.acpc_format.specs.Again.{kept_name, name_again}
use Rattle.acpc_format.specs.Texts.{AreTexts}
use Rattle.chip_ledger.specs.SeatsSaid.{default_name}

-- a name that is given and allowed reads as itself
said_again : (seat at : ℕ) (name : List ℕ) → IsName seat name → IsUtf8 name → name_said seat at name ≡ Ok (Some name)
unfolding name_said
said_again seat at name is text =
    let utf8 : is_utf8 name ≡ true = is_utf8-from_IsUtf8 name text in
    let short : nat_lt MOST_TEXT_BYTES (length name) ≡ false = grind (arith, nat_tests, is.text.1) in
    let some : (length name == 0) ≡ false = grind (arith, nat_tests, is.text.0) in
    rw (utf8, short, some) (other (bytes_eq name (default_name seat)) refl)
  where
    named : Option (List ℕ) → Result (Option (List ℕ)) LineFault
    named found = Ok found

    other : (same : Bool) → bytes_eq name (default_name seat) ≡ same → named (cond same None (Some name)) ≡ named (Some name)
    other true equal = absurd (is.said ((bytes_eq-Decides name (default_name seat)).0 equal))
    other false equal = refl

one_again : (seat at : ℕ) (said : Option (List ℕ)) → seat ≤ 10 → IfSome said (IsName seat) → IfSome said IsUtf8 → name_said seat at (name_or_default seat said) ≡ Ok (kept_name said)
one_again seat at None few is text = default_again seat at few
one_again seat at (Some name) few is text = by_spelling (is_spelled_name name)
  where
    by_spelling : (spelled : Bool) → name_said seat at (cond spelled name (default_name seat)) ≡ Ok (cond spelled (Some name) None)
    by_spelling true = said_again seat at name is text
    by_spelling false = default_again seat at few

-- the names of seats, one after another
pub names_again : (notes : Notes) (count : ℕ) (so_far : List (Option (List ℕ))) (first more at : ℕ) → count ≤ 10 → 1 ≤ first → first + more ≤ count + 1 → AreAllowed count notes → AreTexts count notes
    → names_after so_far first at (map (name_text notes) (range_with_len first more)) ≡ Ok (so_far ++ map (name_again notes) (range_with_len first more))
unfolding names_after
names_again notes count so_far first zero at few low high allowed texts = ap Ok (sym (append-nil so_far))
names_again notes count so_far first (suc more) at few low high allowed texts =
    let one = one_again first at (slice_index_or notes.names (first - 1) None) (omega (arith, few, high)) (allowed.names first low (omega (arith, high))) (texts first low (omega (arith, high))) in
    rw one
    (names_again notes count (so_far ++ name_again notes first ∷ []) (first + 1) more (at + length (name_text notes first) + 1) few (omega (arith, low)) (omega (arith, high)) allowed texts
    ∙ ap Ok (append_assoc so_far (name_again notes first ∷ []) (map (name_again notes) (range_with_len (first + 1) more))))
