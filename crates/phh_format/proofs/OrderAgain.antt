-- Hands that were written under 1, 2 and so on are read in this order: it does not matter in which
-- order they are placed.
use Rattle.std.proofs.Common.{◌≡◌, ℕ, ◌+◌, ◌≤◌, ◌<◌, ◌^◌, ◌&&◌, true, List, [], ◌∷◌, ◌++◌, length, map, decimal, Ordering, Less, Equal, Greater, nat_cmp, is_eq, refl, sym, ap, ◌∙◌, arith, append_assoc}
use Rattle.std.specs.List.{AllByRecursion}
use Rattle.std.specs.Cmp.{IsTotalOrder, nat_cmp_is}
use Rattle.std.specs.Ordering.{match_ordering, ordering_reverse}
use Rattle.std.specs.Cmp.Lexicographic.{slice_cmp}
use Rattle.std.specs.Str.Parse.{digits_value}
use Rattle.first_fault.specs.Digits.{are_digits}
use Rattle.std.proofs.lemmas.Bool.{and_parts}
use Rattle.std.proofs.lemmas.Cmp.{nat_cmp_total, nat_list_cmp_total, then_total, tied_itself}
use Rattle.std.proofs.lemmas.Map.Text.{is_eq-slice_cmp}
use Rattle.std.proofs.lemmas.Slice.Eq.{bytes_eq-Decides}
use Rattle.std.proofs.lemmas.List.{append-nil}
use Rattle.toml.specs.Data.{Data, Members, no_members, member, table}
use Rattle.hand_canon.specs.declared.trace.Play.{Play}
use Rattle.phh_reading.specs.Order.{Entry, is_multi_hand, in_order, is_table, key_cmp, placed, placed_all, tables_among}
use Rattle.phh_format.specs.Members.{table_of, with_member}
use Rattle.phh_format.specs.Document.{hand_table, numbered_hands}
use Rattle.card_set.proofs.Digits.{number_said}
use Rattle.card_set.proofs.Orderings.{less_not_equal}
use Rattle.first_fault.proofs.DecimalDigits.{decimal_digits}

number_total : IsTotalOrder (λ (k l : List ℕ). nat_cmp (digits_value 10 k) (digits_value 10 l))
number_total =
    record {
      antisymm = λ k l. nat_cmp_total.antisymm (digits_value 10 k) (digits_value 10 l);
      trans = λ k l m. nat_cmp_total.trans (digits_value 10 k) (digits_value 10 l) (digits_value 10 m);
      congr = λ k l m. nat_cmp_total.congr (digits_value 10 k) (digits_value 10 l) (digits_value 10 m);
    }

key_total : IsTotalOrder key_cmp
key_total = then_total number_total nat_list_cmp_total

IsOther : List ℕ → List ℕ → Type 0
IsOther k l = key_cmp k l ≡ Equal → ⊥

-- an entry compared with the first of others: before it, in its place, or after it
before : (k : List ℕ) (v : Data) (e : Entry) (es : List Entry) → key_cmp k e.0 ≡ Less → placed k v (e ∷ es) ≡ (k, v) ∷ e ∷ es
before k v e es is = ap (λ o. match_ordering o ((k, v) ∷ e ∷ es) ((e.0, v) ∷ es) (e ∷ placed k v es)) is

instead : (k : List ℕ) (v : Data) (e : Entry) (es : List Entry) → key_cmp k e.0 ≡ Equal → placed k v (e ∷ es) ≡ (e.0, v) ∷ es
instead k v e es is = ap (λ o. match_ordering o ((k, v) ∷ e ∷ es) ((e.0, v) ∷ es) (e ∷ placed k v es)) is

after : (k : List ℕ) (v : Data) (e : Entry) (es : List Entry) → key_cmp k e.0 ≡ Greater → placed k v (e ∷ es) ≡ e ∷ placed k v es
after k v e es is = ap (λ o. match_ordering o ((k, v) ∷ e ∷ es) ((e.0, v) ∷ es) (e ∷ placed k v es)) is

behind : (e : Entry) (es others : List Entry) → es ≡ others → e ∷ es ≡ e ∷ others
behind e es others same = ap (λ (rest : List Entry). e ∷ rest) same

module _ (k l : List ℕ) (v w : Data) (other : key_cmp k l ≡ Equal → ⊥) where
  both_before : (e : Entry) (es : List Entry) (a : Ordering) → key_cmp k l ≡ a → key_cmp k e.0 ≡ Less → key_cmp l e.0 ≡ Less
      → placed k v (placed l w (e ∷ es)) ≡ placed l w (placed k v (e ∷ es))
  both_before e es Less a b c =
      let back : key_cmp l k ≡ Greater = key_total.antisymm l k ∙ ap ordering_reverse a in
      ap (placed k v) (before l w e es c) ∙ before k v (l, w) (e ∷ es) a
      ∙ sym (ap (placed l w) (before k v e es b) ∙ after l w (k, v) (e ∷ es) back ∙ behind (k, v) (placed l w (e ∷ es)) ((l, w) ∷ e ∷ es) (before l w e es c))
  both_before e es Equal a b c = absurd (other a)
  both_before e es Greater a b c =
      let back : key_cmp l k ≡ Less = key_total.antisymm l k ∙ ap ordering_reverse a in
      ap (placed k v) (before l w e es c) ∙ after k v (l, w) (e ∷ es) a ∙ behind (l, w) (placed k v (e ∷ es)) ((k, v) ∷ e ∷ es) (before k v e es b)
      ∙ sym (ap (placed l w) (before k v e es b) ∙ before l w (k, v) (e ∷ es) back)

  at_entry : (e : Entry) (es : List Entry) (b c : Ordering) → key_cmp k e.0 ≡ b → key_cmp l e.0 ≡ c
      → placed k v (placed l w es) ≡ placed l w (placed k v es)
      → placed k v (placed l w (e ∷ es)) ≡ placed l w (placed k v (e ∷ es))
  at_entry e es Less Less b c later = both_before e es (key_cmp k l) refl b c
  at_entry e es Less Equal b c later =
      let back : key_cmp l k ≡ Greater = key_total.congr l e.0 k c ∙ key_total.antisymm e.0 k ∙ ap ordering_reverse b in
      ap (placed k v) (instead l w e es c) ∙ before k v (e.0, w) es b
      ∙ sym (ap (placed l w) (before k v e es b) ∙ after l w (k, v) (e ∷ es) back ∙ behind (k, v) (placed l w (e ∷ es)) ((e.0, w) ∷ es) (instead l w e es c))
  at_entry e es Less Greater b c later =
      let above : key_cmp e.0 l ≡ Less = key_total.antisymm e.0 l ∙ ap ordering_reverse c in
      let back : key_cmp l k ≡ Greater = key_total.antisymm l k ∙ ap ordering_reverse (key_total.trans k e.0 l b above) in
      ap (placed k v) (after l w e es c) ∙ before k v e (placed l w es) b
      ∙ sym (ap (placed l w) (before k v e es b) ∙ after l w (k, v) (e ∷ es) back ∙ behind (k, v) (placed l w (e ∷ es)) (e ∷ placed l w es) (after l w e es c))
  at_entry e es Equal Less b c later =
      let front : key_cmp k l ≡ Greater = key_total.congr k e.0 l b ∙ key_total.antisymm e.0 l ∙ ap ordering_reverse c in
      ap (placed k v) (before l w e es c) ∙ after k v (l, w) (e ∷ es) front ∙ behind (l, w) (placed k v (e ∷ es)) ((e.0, v) ∷ es) (instead k v e es b)
      ∙ sym (ap (placed l w) (instead k v e es b) ∙ before l w (e.0, v) es c)
  at_entry e es Equal Equal b c later = absurd (other (key_total.congr k e.0 l b ∙ key_total.antisymm e.0 l ∙ ap ordering_reverse c))
  at_entry e es Equal Greater b c later =
      ap (placed k v) (after l w e es c) ∙ instead k v e (placed l w es) b
      ∙ sym (ap (placed l w) (instead k v e es b) ∙ after l w (e.0, v) es c)
  at_entry e es Greater Less b c later =
      let above : key_cmp e.0 k ≡ Less = key_total.antisymm e.0 k ∙ ap ordering_reverse b in
      let front : key_cmp k l ≡ Greater = key_total.antisymm k l ∙ ap ordering_reverse (key_total.trans l e.0 k c above) in
      ap (placed k v) (before l w e es c) ∙ after k v (l, w) (e ∷ es) front ∙ behind (l, w) (placed k v (e ∷ es)) (e ∷ placed k v es) (after k v e es b)
      ∙ sym (ap (placed l w) (after k v e es b) ∙ before l w e (placed k v es) c)
  at_entry e es Greater Equal b c later =
      ap (placed k v) (instead l w e es c) ∙ after k v (e.0, w) es b
      ∙ sym (ap (placed l w) (after k v e es b) ∙ instead l w e (placed k v es) c)
  at_entry e es Greater Greater b c later =
      ap (placed k v) (after l w e es c) ∙ after k v e (placed l w es) b ∙ behind e (placed k v (placed l w es)) (placed l w (placed k v es)) later
      ∙ sym (ap (placed l w) (after k v e es b) ∙ after l w e (placed k v es) c)

  -- two entries with different keys may be placed in either order
  pub placed_either : (es : List Entry) → placed k v (placed l w es) ≡ placed l w (placed k v es)
  placed_either [] = first (key_cmp k l) refl
    where
      first : (a : Ordering) → key_cmp k l ≡ a → placed k v ((l, w) ∷ []) ≡ placed l w ((k, v) ∷ [])
      first Less a =
          let back : key_cmp l k ≡ Greater = key_total.antisymm l k ∙ ap ordering_reverse a in
          before k v (l, w) [] a ∙ sym (after l w (k, v) [] back)
      first Equal a = absurd (other a)
      first Greater a =
          let back : key_cmp l k ≡ Less = key_total.antisymm l k ∙ ap ordering_reverse a in
          after k v (l, w) [] a ∙ sym (before l w (k, v) [] back)
  placed_either (e ∷ es) = at_entry e es (key_cmp k e.0) (key_cmp l e.0) refl refl (placed_either es)

-- no member has this key
abbrev IsNew : List ℕ → Members → Type 0
IsNew k no_members = Unit {0}
IsNew k (member l w rest) = (key_cmp k l ≡ Equal → ⊥) × IsNew k rest

same_key_cmp : (k : List ℕ) → key_cmp k k ≡ Equal
same_key_cmp k = tied_itself key_total k

put_at : (o : Ordering) (es : List Entry) (k l : List ℕ) (v w : Data) (rest : Members) → slice_cmp nat_cmp k l ≡ o → (key_cmp k l ≡ Equal → ⊥)
    → placed_all (placed l w es) (with_member k v rest) ≡ placed_all (placed k v (placed l w es)) rest
    → placed_all es (match_ordering o (member k v (member l w rest)) (member l v rest) (member l w (with_member k v rest))) ≡ placed_all (placed k v es) (member l w rest)
put_at Less es k l v w rest is other later = refl
put_at Equal es k l v w rest is other later =
    let same : k ≡ l = (bytes_eq-Decides k l).0 (sym (is_eq-slice_cmp k l) ∙ ap is_eq is) in
    absurd (other (ap (key_cmp k) (sym same) ∙ same_key_cmp k))
put_at Greater es k l v w rest is other later = later ∙ ap (λ (entries : List Entry). placed_all entries rest) (placed_either k l v w other es)

-- what is put among members can be placed before them
placed_first : (es : List Entry) (k : List ℕ) (v : Data) (members : Members) → IsNew k members → placed_all es (with_member k v members) ≡ placed_all (placed k v es) members
placed_first es k v no_members new = refl
placed_first es k v (member l w rest) new =
    put_at (slice_cmp nat_cmp k l) es k l v w rest refl new.0 (placed_first (placed l w es) k v rest new.1)

new_at : (o : Ordering) (q k l : List ℕ) (v w : Data) (rest more : Members) → (key_cmp q k ≡ Equal → ⊥) → IsNew q (member l w rest) → IsNew q more
    → IsNew q (match_ordering o (member k v (member l w rest)) (member l v rest) (member l w more))
new_at Less q k l v w rest more other new later = (other, new)
new_at Equal q k l v w rest more other new later = new
new_at Greater q k l v w rest more other new later = (new.0, later)

new_put : (q k : List ℕ) (v : Data) (members : Members) → (key_cmp q k ≡ Equal → ⊥) → IsNew q members → IsNew q (with_member k v members)
new_put q k v no_members other new = (other, tt)
new_put q k v (member l w rest) other new = new_at (slice_cmp nat_cmp k l) q k l v w rest (with_member k v rest) other new (new_put q k v rest other new.1)

-- the keys of numbers compare as the numbers
lower_key : (n m : ℕ) → n < m → m < 2 ^ 64 → key_cmp (decimal n) (decimal m) ≡ Less
lower_key n m lower small =
    rw (sym (nat_cmp_is (digits_value 10 (decimal n)) (digits_value 10 (decimal m)) Less (omega (arith, lower, number_said n (omega (arith, lower, small)), number_said m small)))) refl

-- the hands of plays with their keys; the first is at this place
abbrev pub hands_from : ℕ → List Play → List Entry
hands_from place [] = []
hands_from place (play ∷ rest) = (decimal (place + 1), table (hand_table place play)) ∷ hands_from (place + 1) rest

-- the key of an earlier hand is new among later ones
new_key : (n place : ℕ) (plays : List Play) → n < place + 1 → place + length plays < 2 ^ 64 → IsNew (decimal n) (table_of (numbered_hands place plays))
new_key n place [] lower few = tt
new_key n place (play ∷ rest) lower few =
    new_put (decimal n) (decimal (place + 1)) (table (hand_table place play)) (table_of (numbered_hands (place + 1) rest))
    (less_not_equal (key_cmp (decimal n) (decimal (place + 1))) (lower_key n (place + 1) lower (omega (arith, few))))
    (new_key n (place + 1) rest (omega (arith, lower)) (omega (arith, few)))

-- each entry has the key of a number up to this one
abbrev pub AreUpTo : ℕ → List Entry → Type 0
AreUpTo most es = AllByRecursion (λ (e : Entry). (n : ℕ) × (e.0 ≡ decimal n) × (n ≤ most)) es

-- an entry with a greater number is placed after all
placed_last : (most : ℕ) (v : Data) (es : List Entry) → AreUpTo most es → most + 1 < 2 ^ 64 → placed (decimal (most + 1)) v es ≡ es ++ (decimal (most + 1), v) ∷ []
placed_last most v [] each small = refl
placed_last most v (e ∷ es) each small =
    let n = each.0.0 in
    let low : key_cmp (decimal n) (decimal (most + 1)) ≡ Less = lower_key n (most + 1) (omega (arith, each.0.2)) small in
    let above : key_cmp (decimal (most + 1)) e.0 ≡ Greater =
    ap (key_cmp (decimal (most + 1))) each.0.1 ∙ key_total.antisymm (decimal (most + 1)) (decimal n) ∙ ap ordering_reverse low in
    after (decimal (most + 1)) v e es above ∙ behind e (placed (decimal (most + 1)) v es) (es ++ (decimal (most + 1), v) ∷ []) (placed_last most v es each.1 small)

more_up_to : (most : ℕ) (v : Data) (es : List Entry) → AreUpTo most es → AreUpTo (most + 1) (es ++ (decimal (most + 1), v) ∷ [])
more_up_to most v [] each = ((most + 1, refl, omega arith), tt)
more_up_to most v (e ∷ es) each = ((each.0.0, each.0.1, omega (arith, each.0.2)), more_up_to most v es each.1)

-- the hands of plays are placed after those before them
pub placed_in_order : (place : ℕ) (plays : List Play) (es : List Entry) → AreUpTo place es → place + length plays < 2 ^ 64
    → placed_all es (table_of (numbered_hands place plays)) ≡ es ++ hands_from place plays
placed_in_order place [] es each small = sym (append-nil es)
placed_in_order place (play ∷ rest) es each small =
    let value = table (hand_table place play) in
    let members = table_of (numbered_hands (place + 1) rest) in
    placed_first es (decimal (place + 1)) value members (new_key (place + 1) (place + 1) rest (omega arith) (omega (arith, small)))
    ∙ ap (λ (entries : List Entry). placed_all entries members) (placed_last place value es each (omega (arith, small)))
    ∙ placed_in_order (place + 1) rest (es ++ (decimal (place + 1), value) ∷ []) (more_up_to place value es each) (omega (arith, small))
    ∙ append_assoc es ((decimal (place + 1), value) ∷ []) (hands_from (place + 1) rest)

-- the tables of plays; the first is at this place
abbrev pub hand_tables : ℕ → List Play → List Members
hand_tables place [] = []
hand_tables place (play ∷ rest) = hand_table place play ∷ hand_tables (place + 1) rest

tables_from : (place : ℕ) (plays : List Play) → tables_among (map (λ entry. entry.1) (hands_from place plays)) ≡ hand_tables place plays
tables_from place [] = refl
tables_from place (play ∷ rest) = ap (λ (tables : List Members). hand_table place play ∷ tables) (tables_from (place + 1) rest)

-- hands that were written under their numbers are read in their order
pub in_order_again : (plays : List Play) → length plays < 2 ^ 64 → in_order (table_of (numbered_hands 0 plays)) ≡ hand_tables 0 plays
in_order_again plays small =
    ap (λ (entries : List Entry). tables_among (map (λ entry. entry.1) entries)) (placed_in_order 0 plays [] tt (omega (arith, small))) ∙ tables_from 0 plays

hands_at : (o : Ordering) (k l : List ℕ) (v w : Data) (rest more : Members) → (are_digits k && is_table v) ≡ true → slice_cmp nat_cmp k l ≡ o → is_multi_hand (member l w rest) ≡ true → is_multi_hand more ≡ true
    → is_multi_hand (match_ordering o (member k v (member l w rest)) (member l v rest) (member l w more)) ≡ true
hands_at Less k l v w rest more one is all later = rw one all
hands_at Equal k l v w rest more one is all later =
    let same : k ≡ l = (bytes_eq-Decides k l).0 (sym (is_eq-slice_cmp k l) ∙ ap is_eq is) in
    rw (ap (λ (key : List ℕ). are_digits key && is_table v) (sym same) ∙ one) (and_parts (are_digits l && is_table w) (is_multi_hand rest) all).1
hands_at Greater k l v w rest more one is all later = rw ((and_parts (are_digits l && is_table w) (is_multi_hand rest) all).0) later

hands_put : (k : List ℕ) (v : Data) (members : Members) → (are_digits k && is_table v) ≡ true → is_multi_hand members ≡ true → is_multi_hand (with_member k v members) ≡ true
hands_put k v no_members one all = rw one refl
hands_put k v (member l w rest) one all =
    hands_at (slice_cmp nat_cmp k l) k l v w rest (with_member k v rest) one refl all (hands_put k v rest one (and_parts (are_digits l && is_table w) (is_multi_hand rest) all).1)

pub are_hands_again : (place : ℕ) (plays : List Play) → place + length plays < 2 ^ 64 → is_multi_hand (table_of (numbered_hands place plays)) ≡ true
are_hands_again place [] small = refl
are_hands_again place (play ∷ rest) small =
    hands_put (decimal (place + 1)) (table (hand_table place play)) (table_of (numbered_hands (place + 1) rest))
    (rw (decimal_digits (place + 1) (omega (arith, small))) refl) (are_hands_again (place + 1) rest (omega (arith, small)))
