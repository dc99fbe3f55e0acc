-- The lines of plays are cut into the texts of these plays.
use Rattle.std.proofs.Common.{◌≡◌, ℕ, zero, suc, ◌+◌, ◌<◌, Bool, true, false, ◌&&◌, ◌==◌, not, eqb, List, [], ◌∷◌, ◌++◌, length, get_or, None, refl, sym, ap, ◌∙◌, arith, true≢false}
use Rattle.std.specs.List.{list_all}
use Rattle.std.proofs.lemmas.Bool.{and_parts, eq-eqb}
use Rattle.std.proofs.lemmas.List.Splits.{slice_split_at}
use Rattle.hand_canon.specs.declared.trace.Play.{Play}
use Rattle.ohh_members.specs.declared.dialect.Dialect.{Dialect}
use Rattle.ohh_writing.specs.Lines.{hand_text, lines_from}
use Rattle.ohh_writing.specs.Tree.{hand_tree}
use Rattle.ohh_writing.proofs.Clean.{hand_clean}
use Rattle.ohh_reading.specs.Blocks.{blocks_from, blocks_of, is_blank, lines_of}

-- the texts of plays; the first is at this place
abbrev pub texts : Dialect → ℕ → List Play → List (List ℕ)
texts dialect place [] = []
texts dialect place (play ∷ rest) = hand_text dialect place play ∷ texts dialect (place + 1) rest

not_end : (b rest : Bool) → (not b && rest) ≡ true → b ≡ false
not_end true rest is = absurd (true≢false (sym is))
not_end false rest is = refl

clean_at : (text : List ℕ) → list_all (λ byte. not (byte == 10)) text ≡ true → (k d : ℕ) → k < length text → eqb (get_or text k d) 10 ≡ false
clean_at [] clean k d within = absurd (omega (arith, within))
clean_at (byte ∷ rest) clean zero d within = not_end (eqb byte 10) (list_all (λ byte. not (byte == 10)) rest) clean
clean_at (byte ∷ rest) clean (suc k) d within = clean_at rest (and_parts (not (byte == 10)) (list_all (λ byte. not (byte == 10)) rest) clean).1 k d (omega (arith, within))

-- a text of a hand, and what comes after its line
cut_text : (dialect : Dialect) (place : ℕ) (play : Play) (rest : List ℕ) → lines_of (hand_text dialect place play ++ 10 ∷ rest) ≡ hand_text dialect place play ∷ lines_of rest
cut_text dialect place play rest =
    slice_split_at (λ b. eqb b 10) (hand_text dialect place play) 10 rest (λ k d within. clean_at (hand_text dialect place play) (hand_clean dialect place play) k d within) (eq-eqb 10 10 refl)

not_blank : (dialect : Dialect) (place : ℕ) (play : Play) → is_blank (hand_text dialect place play) ≡ false
unfolding hand_tree
not_blank dialect place play = refl

-- a block begins with the text, and ends before an empty line
one_block : (text : List ℕ) (lines : List (List ℕ)) → is_blank text ≡ false → blocks_from None (text ∷ [] ∷ lines) ≡ text ∷ blocks_from None lines
one_block text lines is = rw is refl

last_block : (text : List ℕ) → is_blank text ≡ false → blocks_from None (text ∷ [] ∷ []) ≡ text ∷ []
last_block text is = rw is refl

pub blocks_again : (dialect : Dialect) (place : ℕ) (plays : List Play) → blocks_of (lines_from dialect place plays) ≡ texts dialect place plays
blocks_again dialect place [] = refl
blocks_again dialect place (play ∷ []) =
    let text : List ℕ = hand_text dialect place play in
    ap (blocks_from None) (cut_text dialect place play []) ∙ last_block text (not_blank dialect place play)
blocks_again dialect place (play ∷ next ∷ rest) =
    let text : List ℕ = hand_text dialect place play in
    let more : List ℕ = lines_from dialect (place + 1) (next ∷ rest) in
    ap (blocks_from None) (cut_text dialect place play (10 ∷ more) ∙ ap (λ (l : List (List ℕ)). text ∷ l) (slice_split_at (λ b. eqb b 10) [] 10 more (λ k d within. absurd (omega (arith, within))) (eq-eqb 10 10 refl)))
    ∙ one_block text (lines_of more) (not_blank dialect place play)
    ∙ ap (λ (l : List (List ℕ)). text ∷ l) (blocks_again dialect (place + 1) (next ∷ rest))
