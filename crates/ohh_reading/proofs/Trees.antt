-- Whether a block is JSON depends on whether it is text, and on what the text reads as.
use Rattle.std.proofs.Common.{◌≡◌, ℕ, true, false, List, Some, None, ◌∙◌, ap, if◌then◌else◌, ⊎_elim}
use Rattle.std.specs.Str.{IsUtf8, is_utf8}
use Rattle.std.proofs.lemmas.Bool.{cases_Bool}
use Rattle.std.proofs.lemmas.Str.{IsUtf8-from_is_utf8, is_utf8-from_IsUtf8}
use Rattle.serde_json.specs.Data.{Data}
use Rattle.serde_json.specs.Read.{read}
use Rattle.ohh_reading.specs.Reading.{tree_of}

-- text that reads as a tree is that tree
pub tree_is : (block : List ℕ) (tree : Data) → IsUtf8 block → read block ≡ Some tree → tree_of block ≡ Some tree
tree_is block tree text is = ap (λ b. if b then read block else None) (is_utf8-from_IsUtf8 block text) ∙ is

-- a block that is not text, or does not read as a tree, has no tree
pub no_tree : (block : List ℕ) → (IsUtf8 block → read block ≡ None) → tree_of block ≡ None
no_tree block unread =
    ⊎_elim
    (λ (text : is_utf8 block ≡ true). ap (λ b. if b then read block else None) text ∙ unread (IsUtf8-from_is_utf8 block text))
    (λ (none : is_utf8 block ≡ false). ap (λ b. if b then read block else None) none)
    (cases_Bool (is_utf8 block))
