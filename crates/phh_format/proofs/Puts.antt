-- Laws of members that are put one after the other, and of the table of fields.
use Rattle.std.proofs.Common.{◌≡◌, ℕ, List, [], ◌∷◌, Option, Some, None, String, Global, Ordering, Less, Equal, Greater, string_bytes, string_cmp, nat_cmp, is_eq, cond, Bool, true, false, bytes_eq, true≢false, refl, sym, ap, ◌∙◌}
use Rattle.std.proofs.lemmas.Map.Text.{is_eq-slice_cmp}
use Rattle.std.proofs.lemmas.Slice.Eq.{bytes_eq-Decides}
use Rattle.std.specs.Cmp.Lexicographic.{slice_cmp}
use Rattle.std.specs.Ordering.{match_ordering}
use Rattle.std.specs.BTreeMap.{insert_entry}
use Rattle.toml.specs.Data.{Data, Members, no_members, member, get_member}
use Rattle.toml.specs.View.{view, members_view}
use Rattle.toml.specs.declared.value.Value.{Value}
use Rattle.phh_format.specs.Members.{with_member, Field, table_of}
use Rattle.card_set.proofs.Bytes.{different_by_test}
use Rattle.card_set.proofs.Orderings.{same_text}

abbrev pub Entry : Type 0
Entry = String Global × Value

members_view-match_ordering : (o : Ordering) (a b c : List Entry) → members_view (match_ordering o a b c) ≡ match_ordering o (members_view a) (members_view b) (members_view c)
members_view-match_ordering Less a b c = refl
members_view-match_ordering Equal a b c = refl
members_view-match_ordering Greater a b c = refl

-- what a map's insert does to the members
pub members_view-insert_entry : (es : List Entry) (k : String Global) (v : Value) → members_view (insert_entry string_cmp es k v) ≡ with_member (string_bytes k) (view v) (members_view es)
members_view-insert_entry [] k v = refl
members_view-insert_entry (e ∷ es) k v = members_view-match_ordering (string_cmp k e.0) _ _ _ ∙ rw (members_view-insert_entry es k v)

get_member-put_at : (o : Ordering) (k l : List ℕ) (d e : Data) (ms : Members) → slice_cmp nat_cmp k l ≡ o → get_member k (with_member k d ms) ≡ Some d
    → get_member k (match_ordering o (member k d (member l e ms)) (member l d ms) (member l e (with_member k d ms))) ≡ Some d
get_member-put_at Less k l d e ms is later = rw same_text
get_member-put_at Equal k l d e ms is later = rw is
get_member-put_at Greater k l d e ms is later = rw is later

-- what was put at a name is found there
pub get_member-put : (k : List ℕ) (d : Data) (ms : Members) → get_member k (with_member k d ms) ≡ Some d
get_member-put k d no_members = rw same_text
get_member-put k d (member l e ms) = get_member-put_at _ k l d e ms refl (get_member-put k d ms)

either : (o : Ordering) (a b : Option Data) → is_eq o ≡ false → match_ordering o a b a ≡ a
either Less a b e = refl
either Equal a b e = absurd (true≢false e)
either Greater a b e = refl

skips : (q k : List ℕ) (d : Data) (ms : Members) → (q ≡ k → ⊥) → get_member q (member k d ms) ≡ get_member q ms
skips q k d ms other = either (slice_cmp nat_cmp q k) _ _ (is_eq-slice_cmp q k ∙ different_by_test q k _ refl other)

get_member-put_other_at : (o : Ordering) (q k l : List ℕ) (d e : Data) (ms : Members) → slice_cmp nat_cmp k l ≡ o → (q ≡ k → ⊥) → get_member q (with_member k d ms) ≡ get_member q ms
    → get_member q (match_ordering o (member k d (member l e ms)) (member l d ms) (member l e (with_member k d ms))) ≡ get_member q (member l e ms)
get_member-put_other_at Less q k l d e ms is other later = skips q k d (member l e ms) other
get_member-put_other_at Equal q k l d e ms is other later =
    let same : k ≡ l = (bytes_eq-Decides k l).0 (sym (is_eq-slice_cmp k l) ∙ ap is_eq is) in
    let apart = λ (h : q ≡ l). other (h ∙ sym same) in
    skips q l d ms apart ∙ sym (skips q l e ms apart)
get_member-put_other_at Greater q k l d e ms is other later = ap (λ r. match_ordering (slice_cmp nat_cmp q l) r (Some e) r) later

-- the other names keep their values
pub get_member-put_other : (q k : List ℕ) (d : Data) (ms : Members) → (q ≡ k → ⊥) → get_member q (with_member k d ms) ≡ get_member q ms
get_member-put_other q k d no_members other = skips q k d no_members other
get_member-put_other q k d (member l e ms) other = get_member-put_other_at _ q k l d e ms refl other (get_member-put_other q k d ms other)

-- the first of two values that is there
abbrev pub or_later : Option Data → Option Data → Option Data
or_later None later = later
or_later (Some value) later = Some value

-- the value at a key in fields: the first that is there
abbrev pub field_at : List ℕ → List Field → Option Data
field_at q [] = None
field_at q (field ∷ fields) = cond (bytes_eq q field.0) (or_later field.1 (field_at q fields)) (field_at q fields)

put_there : (q k : List ℕ) (d : Data) (ms : Members) (same : Bool) → bytes_eq q k ≡ same → get_member q (with_member k d ms) ≡ cond same (Some d) (get_member q ms)
put_there q k d ms true is = let e : q ≡ k = (bytes_eq-Decides q k).0 is in rw e (get_member-put k d ms)
put_there q k d ms false is = get_member-put_other q k d ms (λ e. true≢false (sym ((bytes_eq-Decides q k).1 e) ∙ is))

either_way : (same : Bool) (found : Option Data) → found ≡ cond same found found
either_way true found = refl
either_way false found = refl

-- what is found in a table of fields
pub get_member-table_of : (q : List ℕ) (fields : List Field) → get_member q (table_of fields) ≡ field_at q fields
get_member-table_of q [] = refl
get_member-table_of q ((k, None) ∷ fields) = get_member-table_of q fields ∙ either_way (bytes_eq q k) (field_at q fields)
get_member-table_of q ((k, Some d) ∷ fields) = put_there q k d (table_of fields) (bytes_eq q k) refl ∙ rw (get_member-table_of q fields) refl
