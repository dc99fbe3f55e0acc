-- A line with more than six fields.
use Rattle.std.proofs.Common.{◌≡◌, ℕ, ◌+◌, ◌-◌, ◌<◌, eqb, List, [], ◌∷◌, length, refl, ap, ◌∙◌, arith}
use Rattle.std.proofs.lemmas.List.Splits.{length-slice_split}
use Rattle.acpc_game.specs.declared.fault.LineFaultKind.TheVariants as whats
use Rattle.acpc_game.specs.Faults.{wrong}
use Rattle.acpc_game.specs.Parts.{parts_of}
use Rattle.acpc_reading.specs.Logs.{FieldsSaid, behind, six_fields}

-- six fields and a seventh
seventh : (len : ℕ) (a b c d e f : List ℕ) (parts : List (List ℕ)) → 0 < length parts
    → six_fields len (a ∷ b ∷ c ∷ d ∷ e ∷ f ∷ parts) ≡ wrong whats.LineShape (behind (behind (behind (behind (behind 1 a) b) c) d) e + length f)
unfolding six_fields
seventh len a b c d e f [] some = absurd (omega (arith, some))
seventh len a b c d e f (part ∷ parts) some = refl

-- the sixth colon of a line that is cut at its colons is wrong
pub sixth_colon : (line a b c d e f more : List ℕ) → parts_of 58 line ≡ a ∷ b ∷ c ∷ d ∷ e ∷ f ∷ parts_of 58 more
    → length line ≡ length a + (1 + (length b + (1 + (length c + (1 + (length d + (1 + (length e + (1 + (length f + (1 + length more)))))))))))
    → six_fields (length line) (parts_of 58 line) ≡ wrong whats.LineShape (length line - length more)
sixth_colon line a b c d e f more cut len =
    let place : behind (behind (behind (behind (behind 1 a) b) c) d) e + length f ≡ length line - length more = omega (arith, len) in
    ap (six_fields (length line)) cut
    ∙ seventh (length line) a b c d e f (parts_of 58 more) (omega (arith, length-slice_split (λ b. eqb b 58) more))
    ∙ ap (λ (byte : ℕ). wrong {A = FieldsSaid} whats.LineShape byte) place
