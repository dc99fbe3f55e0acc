-- What a map's insert does to the entries of numbers in order.
use Rattle.std.proofs.Common.{◌≡◌, ℕ, List, [], ◌∷◌, ◌++◌, length, map, Ordering, Less, Equal, Greater, nat_cmp, Bor, refl, sym, ap, ◌∙◌}
use Rattle.std.specs.Cmp.Lexicographic.{slice_cmp}
use Rattle.std.specs.List.{AllByRecursion}
use Rattle.std.specs.Ordering.{match_ordering, ordering_then}
use Rattle.std.specs.BTreeMap.{insert_entry}
use Rattle.toml.specs.Data.{Data, Members, string, integer, float, boolean, datetime, array, table}
use Rattle.toml.specs.View.{view}
use Rattle.toml.specs.declared.value.Value.{Value}
use Rattle.phh_reading.specs.Order.{Entry, in_order, key_cmp, placed, placed_all, tables_among}
use Rattle.phh_reading.specs.Stripped.{number_digits}
use Rattle.phh_reading.proofs.NumberOrder.{AreDigits, number_order}

-- a key of the map: the length of the number's digits, the digits, and the text
abbrev pub Key : Type 0
Key = ℕ × Bor (List ℕ) × Bor (List ℕ)

abbrev pub Kept : Type 0
Kept = Key × Bor Value

-- a key is that of its text, which is a number
abbrev pub IsKeyed : Kept → Type 0
IsKeyed e = (e.0.0 ≡ length (number_digits e.0.2.now)) × (e.0.1.now ≡ number_digits e.0.2.now) × AreDigits e.0.2.now

abbrev pub AreKeyed : List Kept → Type 0
AreKeyed es = AllByRecursion IsKeyed es

abbrev pub kept_cmp : Key → Key → Ordering
kept_cmp k l = ordering_then (ordering_then (nat_cmp k.0 l.0) (slice_cmp nat_cmp k.1.now l.1.now)) (slice_cmp nat_cmp k.2.now l.2.now)

abbrev pub entries_view : List Kept → List Entry
entries_view es = map (λ e. (e.0.2.now, view e.1.now)) es

same_cmp : (k : Key) (v : Bor Value) (e : Kept) → IsKeyed (k, v) → IsKeyed e → kept_cmp k e.0 ≡ key_cmp k.2.now e.0.2.now
same_cmp k v e is at =
    rw (is.0, is.1, at.0, at.1, number_order k.2.now e.0.2.now is.2 at.2) refl

placed_at : (o : Ordering) (a b c : List Kept) → entries_view (match_ordering o a b c) ≡ match_ordering o (entries_view a) (entries_view b) (entries_view c)
placed_at Less a b c = refl
placed_at Equal a b c = refl
placed_at Greater a b c = refl

-- an entry is placed among those in order
pub insert_placed : (es : List Kept) (k : Key) (v : Bor Value) → IsKeyed (k, v) → AreKeyed es → entries_view (insert_entry kept_cmp es k v) ≡ placed k.2.now (view v.now) (entries_view es)
insert_placed [] k v is all = refl
insert_placed (e ∷ es) k v is all =
    placed_at (kept_cmp k e.0) _ _ _ ∙ rw (insert_placed es k v is all.1, same_cmp k v e is all.0) refl

keyed_at : (o : Ordering) (a b c : List Kept) → AreKeyed a → AreKeyed b → AreKeyed c → AreKeyed (match_ordering o a b c)
keyed_at Less a b c x y z = x
keyed_at Equal a b c x y z = y
keyed_at Greater a b c x y z = z

-- the entries keep the keys of their texts
pub insert_keyed : (es : List Kept) (k : Key) (v : Bor Value) → IsKeyed (k, v) → AreKeyed es → AreKeyed (insert_entry kept_cmp es k v)
insert_keyed [] k v is all = (is, tt)
insert_keyed (e ∷ es) k v is all = keyed_at (kept_cmp k e.0) _ _ _ (is, (all.0, all.1)) (all.0, all.1) (all.0, insert_keyed es k v is all.1)

-- the values of entries
pub entries_values : (es : List Kept) → map (λ entry. entry.1) (entries_view es) ≡ map (λ e. view e.1.now) es
entries_values [] = refl
entries_values (e ∷ es) = ap (λ rest. view e.1.now ∷ rest) (entries_values es)

-- one more value among those that are left
pub one_among : (value : Data) (rest : List Data) → tables_among (value ∷ rest) ≡ tables_among (value ∷ []) ++ tables_among rest
one_among (string text) rest = refl
one_among (integer number) rest = refl
one_among (float number) rest = refl
one_among (boolean flag) rest = refl
one_among (datetime said) rest = refl
one_among (array items) rest = refl
one_among (table hand) rest = refl

-- the tables among the values of entries in order
pub tables_placed : (es : List Kept) (members : Members) → entries_view es ≡ placed_all [] members → tables_among (map (λ e. view e.1.now) es) ≡ in_order members
tables_placed es members is = ap tables_among (sym (entries_values es) ∙ ap (map (λ entry. entry.1)) is)
