-- Tables whose numbers ascend are the hands of their document, in this order.
use Rattle.std.proofs.Common.{◌≡◌, ℕ, ◌+◌, ◌<◌, ◌≤◌, ◌&&◌, true, false, not, List, [], ◌∷◌, ◌++◌, map, Option, Some, None, Ordering, Less, Equal, Greater, nat_cmp, is_eq, refl, sym, ap, ◌∙◌, inl, inr, arith, append_assoc}
use Rattle.std.specs.List.{AllByRecursion, list_all}
use Rattle.std.specs.Ordering.{match_ordering}
use Rattle.std.specs.Cmp.Lexicographic.{slice_cmp}
use Rattle.std.specs.Str.Parse.{digits_value}
use Rattle.std.proofs.lemmas.Bool.{and_parts, cases_Bool, false≢true}
use Rattle.std.proofs.lemmas.List.{append-nil}
use Rattle.std.proofs.lemmas.Map.Text.{is_eq-slice_cmp}
use Rattle.std.proofs.lemmas.Slice.Eq.{bytes_eq-Decides}
use Rattle.toml.specs.Data.{Data, table, Members, no_members, member, same_key}
use Rattle.first_fault.specs.Digits.{are_digits}
use Rattle.phh_reading.specs.Tables.{Entry, AreApart, insert_member, document_after, document_from}
use Rattle.phh_reading.specs.declared.field_fault.FieldKey.TheVariants as keys
use Rattle.phh_reading.specs.Fields.{field_value, key_text}
use Rattle.phh_reading.specs.Order.{is_multi_hand, is_table, in_order, key_cmp, placed, placed_all, tables_among}
use Rattle.phh_reading.specs.Order.{Entry as Placed}
use Rattle.phh_reading.specs.Reading.{hands_of}
use Rattle.card_set.proofs.Orderings.{less, greater}

-- the keys are numbers that ascend, from this one on
abbrev pub Ascend : ℕ → List Entry → Type 0
Ascend least [] = Unit {0}
Ascend least (entry ∷ rest) =
    (are_digits entry.0 ≡ true) × (least ≤ digits_value 10 entry.0) × Ascend (digits_value 10 entry.0 + 1) rest

-- the tables, each with its key
abbrev pub keyed : List Entry → List Placed
keyed entries = map (λ (entry : Entry). (entry.0, table entry.1)) entries

-- the tables of entries
abbrev pub tables_of : List Entry → List Members
tables_of entries = map (λ (entry : Entry). entry.1) entries

-- each key is a number below this one
abbrev IsBelow : ℕ → Members → Type 0
IsBelow n no_members = Unit {0}
IsBelow n (member key value rest) = (digits_value 10 key < n) × IsBelow n rest

abbrev AreBelow : ℕ → List Placed → Type 0
AreBelow n entries = AllByRecursion (λ (entry : Placed). digits_value 10 entry.0 < n) entries

same_bytes : (k l : List ℕ) → slice_cmp nat_cmp k l ≡ Equal → k ≡ l
same_bytes k l is = (bytes_eq-Decides k l).0 (sym (is_eq-slice_cmp k l) ∙ ap is_eq is)

cmp_below : (k l : List ℕ) → digits_value 10 k < digits_value 10 l → key_cmp k l ≡ Less
cmp_below k l lower = rw (less (digits_value 10 k) (digits_value 10 l) lower) refl

cmp_above : (k l : List ℕ) → digits_value 10 l < digits_value 10 k → key_cmp k l ≡ Greater
cmp_above k l higher = rw (greater (digits_value 10 k) (digits_value 10 l) higher) refl

push_at : (o : Ordering) (a b c d more : List Placed) → d ≡ c ++ more → match_ordering o (a ++ more) (b ++ more) d ≡ match_ordering o a b c ++ more
push_at Less a b c d more same = refl
push_at Equal a b c d more same = refl
push_at Greater a b c d more same = same

-- an entry with a lower number is placed before the last one
placed_before : (es : List Placed) (k l : List ℕ) (v w : Data) → digits_value 10 l < digits_value 10 k → placed l w (es ++ (k, v) ∷ []) ≡ placed l w es ++ (k, v) ∷ []
placed_before [] k l v w lower = rw (cmp_below l k lower) refl
placed_before (e ∷ es) k l v w lower =
    push_at (key_cmp l e.0) ((l, w) ∷ e ∷ es) ((e.0, w) ∷ es) (e ∷ placed l w es) (e ∷ placed l w (es ++ (k, v) ∷ [])) ((k, v) ∷ [])
    (ap (λ (rest : List Placed). e ∷ rest) (placed_before es k l v w lower))

-- an entry with a higher number is placed after all
placed_last : (es : List Placed) (k : List ℕ) (v : Data) → AreBelow (digits_value 10 k) es → placed k v es ≡ es ++ (k, v) ∷ []
placed_last [] k v below = refl
placed_last (e ∷ es) k v below =
    ap (λ o. match_ordering o ((k, v) ∷ e ∷ es) ((e.0, v) ∷ es) (e ∷ placed k v es)) (cmp_above k e.0 below.0)
    ∙ ap (λ (rest : List Placed). e ∷ rest) (placed_last es k v below.1)

below_at : (o : Ordering) (n : ℕ) (a b c : List Placed) → AreBelow n a → AreBelow n b → AreBelow n c → AreBelow n (match_ordering o a b c)
below_at Less n a b c x y z = x
below_at Equal n a b c x y z = y
below_at Greater n a b c x y z = z

placed_below : (es : List Placed) (n : ℕ) (l : List ℕ) (w : Data) → digits_value 10 l < n → AreBelow n es → AreBelow n (placed l w es)
placed_below [] n l w lower below = (lower, tt)
placed_below (e ∷ es) n l w lower below =
    below_at (key_cmp l e.0) n ((l, w) ∷ e ∷ es) ((e.0, w) ∷ es) (e ∷ placed l w es) (lower, below) below (below.0, placed_below es n l w lower below.1)

-- the last entry is still the last one when members with lower numbers are placed
all_before : (ms : Members) (es : List Placed) (k : List ℕ) (v : Data) → IsBelow (digits_value 10 k) ms → placed_all (es ++ (k, v) ∷ []) ms ≡ placed_all es ms ++ (k, v) ∷ []
all_before no_members es k v below = refl
all_before (member l w ms) es k v below =
    ap (λ (entries : List Placed). placed_all entries ms) (placed_before es k l v w below.0) ∙ all_before ms (placed l w es) k v below.1

inserted_at : (o : Ordering) (ms : Members) (es : List Placed) (k l : List ℕ) (v w : Data) → slice_cmp nat_cmp k l ≡ o
    → IsBelow (digits_value 10 k) (member l w ms) → AreBelow (digits_value 10 k) es
    → placed_all (placed l w es) (insert_member k v ms) ≡ placed_all (placed l w es) ms ++ (k, v) ∷ []
    → placed_all es (match_ordering o (member k v (member l w ms)) (member l v ms) (member l w (insert_member k v ms))) ≡ placed_all es (member l w ms) ++ (k, v) ∷ []
inserted_at Less ms es k l v w is below among later =
    ap (λ (entries : List Placed). placed_all (placed l w entries) ms) (placed_last es k v among)
    ∙ all_before (member l w ms) es k v below
inserted_at Equal ms es k l v w is below among later =
    absurd (omega (arith, below.0, ap (digits_value 10) (same_bytes k l is)))
inserted_at Greater ms es k l v w is below among later = later

-- a member with a higher number is placed after all
inserted_last : (ms : Members) (es : List Placed) (k : List ℕ) (v : Data) → IsBelow (digits_value 10 k) ms → AreBelow (digits_value 10 k) es
    → placed_all es (insert_member k v ms) ≡ placed_all es ms ++ (k, v) ∷ []
inserted_last no_members es k v below among = placed_last es k v among
inserted_last (member l w ms) es k v below among =
    inserted_at (slice_cmp nat_cmp k l) ms es k l v w refl below among
    (inserted_last ms (placed l w es) k v below.1 (placed_below es (digits_value 10 k) l w below.0 among))

members_at : (o : Ordering) (n : ℕ) (a b c : Members) → IsBelow n a → IsBelow n b → IsBelow n c → IsBelow n (match_ordering o a b c)
members_at Less n a b c x y z = x
members_at Equal n a b c x y z = y
members_at Greater n a b c x y z = z

insert_below : (ms : Members) (n : ℕ) (k : List ℕ) (v : Data) → digits_value 10 k < n → IsBelow n ms → IsBelow n (insert_member k v ms)
insert_below no_members n k v lower below = (lower, tt)
insert_below (member l w ms) n k v lower below =
    members_at (slice_cmp nat_cmp k l) n (member k v (member l w ms)) (member l v ms) (member l w (insert_member k v ms))
    (lower, below) below (below.0, insert_below ms n k v lower below.1)

more_below : (ms : Members) (n m : ℕ) → n ≤ m → IsBelow n ms → IsBelow m ms
more_below no_members n m within below = tt
more_below (member l w ms) n m within below = (omega (arith, within, below.0), more_below ms n m within below.1)

-- the tables are placed after the members before them
placed_in_turn : (entries : List Entry) (least : ℕ) (ms : Members) → IsBelow least ms → Ascend least entries
    → placed_all [] (document_after ms entries) ≡ placed_all [] ms ++ keyed entries
placed_in_turn [] least ms below ascend = sym (append-nil (placed_all [] ms))
placed_in_turn (entry ∷ rest) least ms below ascend =
    let n = digits_value 10 entry.0 in
    let lower : IsBelow n ms = more_below ms least n ascend.1 below in
    placed_in_turn rest (n + 1) (insert_member entry.0 (table entry.1) ms)
    (insert_below ms (n + 1) entry.0 (table entry.1) (omega arith) (more_below ms n (n + 1) (omega arith) lower)) ascend.2
    ∙ ap (λ (entries : List Placed). entries ++ keyed rest) (inserted_last ms [] entry.0 (table entry.1) lower tt)
    ∙ append_assoc (placed_all [] ms) ((entry.0, table entry.1) ∷ []) (keyed rest)

tables_keyed : (entries : List Entry) → tables_among (map (λ (entry : Placed). entry.1) (keyed entries)) ≡ tables_of entries
tables_keyed [] = refl
tables_keyed (entry ∷ rest) = ap (λ (tables : List Members). entry.1 ∷ tables) (tables_keyed rest)

pub in_turn : (entries : List Entry) (least : ℕ) → Ascend least entries → in_order (document_from entries) ≡ tables_of entries
in_turn entries least ascend =
    ap (λ (placed : List Placed). tables_among (map (λ (entry : Placed). entry.1) placed)) (placed_in_turn entries least no_members tt ascend) ∙ tables_keyed entries

hands_at : (o : Ordering) (k l : List ℕ) (v w : Data) (ms more : Members) → (are_digits k && is_table v) ≡ true → is_multi_hand (member l w ms) ≡ true → is_multi_hand more ≡ true
    → is_multi_hand (match_ordering o (member k v (member l w ms)) (member l v ms) (member l w more)) ≡ true
hands_at Less k l v w ms more one all later = rw one all
hands_at Equal k l v w ms more one all later =
    let parts = and_parts (are_digits l && is_table w) (is_multi_hand ms) all in
    rw ((and_parts (are_digits l) (is_table w) parts.0).0, (and_parts (are_digits k) (is_table v) one).1) parts.1
hands_at Greater k l v w ms more one all later = rw ((and_parts (are_digits l && is_table w) (is_multi_hand ms) all).0) later

insert_hands : (ms : Members) (k : List ℕ) (v : Data) → (are_digits k && is_table v) ≡ true → is_multi_hand ms ≡ true → is_multi_hand (insert_member k v ms) ≡ true
insert_hands no_members k v one all = rw one refl
insert_hands (member l w ms) k v one all =
    hands_at (slice_cmp nat_cmp k l) k l v w ms (insert_member k v ms) one all
    (insert_hands ms k v one (and_parts (are_digits l && is_table w) (is_multi_hand ms) all).1)

document_hands : (entries : List Entry) (least : ℕ) (ms : Members) → Ascend least entries → is_multi_hand ms ≡ true → is_multi_hand (document_after ms entries) ≡ true
document_hands [] least ms ascend all = all
document_hands (entry ∷ rest) least ms ascend all =
    document_hands rest (digits_value 10 entry.0 + 1) (insert_member entry.0 (table entry.1) ms) ascend.2
    (insert_hands ms entry.0 (table entry.1) (rw (ascend.0) refl) all)

not_variant : (key : List ℕ) → are_digits key ≡ true → key_text keys.Variant ≡ key → ⊥
unfolding are_digits
not_variant key is same = false≢true (ap are_digits same ∙ is)

other_at : (o : Ordering) (key : List ℕ) (value : Data) (found : Option Data) → are_digits key ≡ true → slice_cmp nat_cmp (key_text keys.Variant) key ≡ o → found ≡ None
    → match_ordering o found (Some value) found ≡ None
other_at Less key value found is at none = none
other_at Equal key value found is at none = absurd (not_variant key is (same_bytes (key_text keys.Variant) key at))
other_at Greater key value found is at none = none

-- a document whose keys are numbers has no variant
no_variant : (ms : Members) → is_multi_hand ms ≡ true → field_value keys.Variant ms ≡ None
no_variant no_members all = refl
no_variant (member l w ms) all =
    let parts = and_parts (are_digits l && is_table w) (is_multi_hand ms) all in
    other_at (slice_cmp nat_cmp (key_text keys.Variant) l) l w (field_value keys.Variant ms)
    (and_parts (are_digits l) (is_table w) parts.0).0 refl (no_variant ms parts.1)

other_key : (k l : List ℕ) → digits_value 10 l < digits_value 10 k → same_key k l ≡ false
other_key k l lower =
    elim (cases_Bool (same_key k l)) [
      | inl same ↦ absurd (omega (arith, lower, ap (digits_value 10) ((bytes_eq-Decides k l).0 (sym (is_eq-slice_cmp k l) ∙ same))))
      | inr other ↦ other
    ]

apart_from : (entries : List Entry) (least : ℕ) (k : List ℕ) → digits_value 10 k < least → Ascend least entries → list_all (λ (other : Entry). not (same_key other.0 k)) entries ≡ true
apart_from [] least k lower ascend = refl
apart_from (entry ∷ rest) least k lower ascend =
    ap (λ same. not same && list_all (λ (other : Entry). not (same_key other.0 k)) rest) (other_key entry.0 k (omega (arith, lower, ascend.1)))
    ∙ apart_from rest (digits_value 10 entry.0 + 1) k (omega (arith, lower, ascend.1)) ascend.2

-- numbers that ascend are different keys
pub ascending_apart : (entries : List Entry) (least : ℕ) → Ascend least entries → AreApart entries
ascending_apart [] least ascend = tt
ascending_apart (entry ∷ rest) least ascend =
    (apart_from rest (digits_value 10 entry.0 + 1) entry.0 (omega arith) ascend.2, ascending_apart rest (digits_value 10 entry.0 + 1) ascend.2)

-- the hands of their document are the tables in turn
pub ascending_hands : (entries : List Entry) (least : ℕ) → Ascend least entries → hands_of (document_from entries) ≡ Some (tables_of entries)
unfolding hands_of
ascending_hands entries least ascend =
    let hands = document_hands entries least no_members ascend refl in
    rw (no_variant (document_from entries) hands, hands, in_turn entries least ascend) refl
