-- A document with no headers of its own is the same as the table under a header.
use Rattle.std.proofs.Common.{◌≡◌, ℕ, zero, suc, Bool, true, false, ◌||◌, ◌==◌, List, [], ◌∷◌, length, Ordering, Less, Equal, Greater, nat_cmp, is_eq, Option, Some, None, refl, sym, ap, ◌∙◌, subst, inl, inr, ◌⊎◌}
use Rattle.std.proofs.lemmas.Bool.{cases_Bool, or_parts, true≢false, false≢true}
use Rattle.std.proofs.lemmas.Cmp.{nat_list_cmp_total}
use Rattle.std.proofs.lemmas.Option.{none-some, same_Some}
use Rattle.std.specs.Cmp.Lexicographic.{slice_cmp}
use Rattle.std.specs.Ordering.{ordering_reverse}
use Rattle.toml_parser.specs.Strings.{Key}
use Rattle.toml_parser.specs.Lexical.{skip_blank}
use Rattle.toml.specs.Data.{Data, table, Items, no_items, item, Members, no_members, member, same_key, push_item}
use Rattle.toml.specs.Tables.{implicit, dotted, header, Node, Nodes, no_nodes, node, value, open_table, open_array, get_node, insert, replace, close, close_node, Edit, header_node, dot_node, by_header, by_dot, along_header, along_dots, Definition, key_value, std_table, array_table, Document, new_node, redefine, at_found, at_key, put, define}
use Rattle.toml.specs.Parse.{line, lines}
use Rattle.toml.proofs.NodeLaws.{get_node-replace, replace-replace, replace-self, along_found}
use Rattle.phh_reading.specs.Tables.{is_table, has_table, is_section, has_section, insert_member}
use Rattle.phh_reading.proofs.Ends.{then_some, map_some}

-- a header or a dotted key made the node
abbrev pub is_open : Node → Bool
is_open (value d) = false
is_open (open_table origin ns) = true
is_open (open_array done last) = true

abbrev pub has_open : Nodes → Bool
has_open no_nodes = false
has_open (node k x ns) = is_open x || has_open ns

or_true : (x : Bool) → (x || true) ≡ true
or_true true = refl
or_true false = refl

table_pushed : (ds : Items) (ms : Members) → has_table (push_item ds (table ms)) ≡ true
table_pushed no_items ms = refl
table_pushed (item d ds) ms = rw (table_pushed ds ms) (or_true (is_table d))

section_node : (x : Node) → is_section (close_node x) ≡ false → is_open x ≡ false
section_node (value d) h = refl
section_node (open_table origin ns) h = absurd (true≢false h)
section_node (open_array done last) h = absurd (true≢false (sym (table_pushed done (close last)) ∙ h))

-- members with no section come from nodes that no header made
pub plain_open : (ns : Nodes) → has_section (close ns) ≡ false → has_open ns ≡ false
plain_open no_nodes h = refl
plain_open (node k x ns) h =
    let parts = or_parts (is_section (close_node x)) (has_section (close ns)) h in
    rw (section_node x parts.0) (plain_open ns parts.1)

-- the nodes that are these values
abbrev pub opened : Members → Nodes
opened no_members = no_nodes
opened (member k d ms) = node k (value d) (opened ms)

pub close_opened : (ms : Members) → close (opened ms) ≡ ms
close_opened no_members = refl
close_opened (member k d ms) = ap (member k d) (close_opened ms)

pub opened_close : (ns : Nodes) → has_open ns ≡ false → opened (close ns) ≡ ns
opened_close no_nodes h = refl
opened_close (node k (value d) ns) h = ap (node k (value d)) (opened_close ns h)
opened_close (node k (open_table origin inner) ns) h = absurd (true≢false h)
opened_close (node k (open_array done last) ns) h = absurd (true≢false h)

cases_ordering : (o : Ordering) → (o ≡ Less) ⊎ ((o ≡ Equal) ⊎ (o ≡ Greater))
cases_ordering Less = inl refl
cases_ordering Equal = inr (inl refl)
cases_ordering Greater = inr (inr refl)

-- what is inserted is there
open_insert : (k : List ℕ) (x : Node) (ns : Nodes) → is_open x ≡ true → has_open (insert k x ns) ≡ true
open_insert k x no_nodes h = rw h refl
open_insert k x (node l y ns) h =
    elim (cases_ordering (slice_cmp nat_cmp k l)) [
      | inl less ↦ rw (less, h) refl
      | inr other ↦ elim other [
        | inl tie ↦ rw (tie, h) refl
        | inr more ↦ rw (more, open_insert k x ns h) (or_true (is_open y))
      ]
    ]

-- and what was there stays
keep_insert : (k : List ℕ) (x : Node) (ns : Nodes) → get_node k ns ≡ None → has_open ns ≡ true → has_open (insert k x ns) ≡ true
keep_insert k x no_nodes none h = absurd (false≢true h)
keep_insert k x (node l y ns) none h =
    elim (cases_ordering (slice_cmp nat_cmp k l)) [
      | inl less ↦ rw (less, h) (or_true (is_open x))
      | inr other ↦ elim other [
        | inl tie ↦ absurd (none-some y (sym (rw tie at none)))
        | inr more ↦ rw more (elim (cases_Bool (is_open y)) [
          | inl here ↦ rw here refl
          | inr plain ↦ rw plain (keep_insert k x ns (rw more at none) (rw plain at h))
        ])
      ]
    ]

open_replace : (k : List ℕ) (x y : Node) (ns : Nodes) → get_node k ns ≡ Some x → is_open y ≡ true → has_open (replace k y ns) ≡ true
open_replace k x y no_nodes found h = absurd (none-some x found)
open_replace k x y (node l z ns) found h =
    elim (cases_Bool (same_key k l)) [
      | inl same ↦ rw (same, h) refl
      | inr other ↦ rw (other, open_replace k x y ns (rw other at found) h) (or_true (is_open z))
    ]

-- an edit after which some node is open, and one that keeps it so
abbrev Opens : Edit → Type 0
Opens edit = (ns new : Nodes) → edit ns ≡ Some new → has_open new ≡ true

abbrev Keeps : Edit → Type 0
Keeps edit = (ns new : Nodes) → has_open ns ≡ true → edit ns ≡ Some new → has_open new ≡ true

header_opens : (edit : Edit) (x y : Node) → header_node edit x ≡ Some y → is_open y ≡ true
header_opens edit (value d) y e = absurd (none-some y e)
header_opens edit (open_table origin inner) y e = let (n, some, same) = map_some (open_table origin) (edit inner) y e in rw (← same) refl
header_opens edit (open_array done last) y e = let (n, some, same) = map_some (open_array done) (edit last) y e in rw (← same) refl

dot_opens : (edit : Edit) (x y : Node) → dot_node edit x ≡ Some y → is_open y ≡ true
dot_opens edit (value d) y e = absurd (none-some y e)
dot_opens edit (open_table header inner) y e = absurd (none-some y e)
dot_opens edit (open_table implicit inner) y e = let (n, some, same) = map_some (open_table dotted) (edit inner) y e in rw (← same) refl
dot_opens edit (open_table dotted inner) y e = let (n, some, same) = map_some (open_table dotted) (edit inner) y e in rw (← same) refl
dot_opens edit (open_array done last) y e = absurd (none-some y e)

redefine_opens : (what : Definition) (x y : Node) → redefine what x ≡ Some y → is_open y ≡ true
redefine_opens std_table (open_table implicit inner) y e = rw (← same_Some (open_table header inner) y e) refl
redefine_opens std_table (open_table dotted inner) y e = absurd (none-some y e)
redefine_opens std_table (open_table header inner) y e = absurd (none-some y e)
redefine_opens std_table (open_array done last) y e = absurd (none-some y e)
redefine_opens std_table (value d) y e = absurd (none-some y e)
redefine_opens array_table (open_array done last) y e = rw (← same_Some (open_array (push_item done (table (close last))) no_nodes) y e) refl
redefine_opens array_table (open_table origin inner) y e = absurd (none-some y e)
redefine_opens array_table (value d) y e = absurd (none-some y e)
redefine_opens (key_value d) x y e = absurd (none-some y e)

by_header_opens : (k : List ℕ) (edit : Edit) (ns new : Nodes) (o : Option Node) → get_node k ns ≡ o → by_header k edit ns o ≡ Some new → has_open new ≡ true
by_header_opens k edit ns new None is e =
    let (n, some, same) = map_some _ (edit no_nodes) new e in
    rw (← same) (open_insert k (open_table implicit n) ns refl)
by_header_opens k edit ns new (Some x) is e =
    let (y, some, same) = map_some _ (header_node edit x) new e in
    rw (← same) (open_replace k x y ns is (header_opens edit x y some))

by_dot_opens : (k : List ℕ) (edit : Edit) (ns new : Nodes) (o : Option Node) → get_node k ns ≡ o → by_dot k edit ns o ≡ Some new → has_open new ≡ true
by_dot_opens k edit ns new None is e =
    let (n, some, same) = map_some _ (edit no_nodes) new e in
    rw (← same) (open_insert k (open_table dotted n) ns refl)
by_dot_opens k edit ns new (Some x) is e =
    let (y, some, same) = map_some _ (dot_node edit x) new e in
    rw (← same) (open_replace k x y ns is (dot_opens edit x y some))

at_found_keeps : (k : List ℕ) (what : Definition) (ns new : Nodes) (o : Option Node) → get_node k ns ≡ o → has_open ns ≡ true → at_found k what ns o ≡ Some new → has_open new ≡ true
at_found_keeps k what ns new None is h e = rw (← same_Some (insert k (new_node what) ns) new e) (keep_insert k (new_node what) ns is h)
at_found_keeps k what ns new (Some x) is h e =
    let (y, some, same) = map_some _ (redefine what x) new e in
    rw (← same) (open_replace k x y ns is (redefine_opens what x y some))

at_found_opens : (k : List ℕ) (what : Definition) (ns new : Nodes) (o : Option Node) → is_open (new_node what) ≡ true → get_node k ns ≡ o → at_found k what ns o ≡ Some new → has_open new ≡ true
at_found_opens k what ns new None opens is e = rw (← same_Some (insert k (new_node what) ns) new e) (open_insert k (new_node what) ns opens)
at_found_opens k what ns new (Some x) opens is e =
    let (y, some, same) = map_some _ (redefine what x) new e in
    rw (← same) (open_replace k x y ns is (redefine_opens what x y some))

at_key_keeps : (k : List ℕ) (what : Definition) → Keeps (at_key k what)
unfolding at_key
at_key_keeps k what ns new h e = at_found_keeps k what ns new (get_node k ns) refl h e

at_key_opens : (k : List ℕ) (what : Definition) → is_open (new_node what) ≡ true → Opens (at_key k what)
unfolding at_key
at_key_opens k what opens ns new e = at_found_opens k what ns new (get_node k ns) opens refl e

dots_keep : (path : List (List ℕ)) (edit : Edit) → Keeps edit → Keeps (along_dots path edit)
unfolding along_dots
dots_keep [] edit keeps ns new h e = keeps ns new h e
dots_keep (k ∷ path) edit keeps ns new h e = by_dot_opens k (along_dots path edit) ns new (get_node k ns) refl e

headers_keep : (path : List (List ℕ)) (edit : Edit) → Keeps edit → Keeps (along_header path edit)
unfolding along_header
headers_keep [] edit keeps ns new h e = keeps ns new h e
headers_keep (k ∷ path) edit keeps ns new h e = by_header_opens k (along_header path edit) ns new (get_node k ns) refl e

headers_open : (path : List (List ℕ)) (edit : Edit) → Opens edit → Opens (along_header path edit)
unfolding along_header
headers_open [] edit opens ns new e = opens ns new e
headers_open (k ∷ path) edit opens ns new e = by_header_opens k (along_header path edit) ns new (get_node k ns) refl e

define_keeps : (doc next : Document) (key : Key) (what : Definition) → has_open doc.0 ≡ true → define doc (key, what) ≡ Some next → has_open next.0 ≡ true
unfolding define
define_keeps doc next key (key_value d) h e =
    let (root, some, same) = map_some _ (along_header doc.1 (put key d) doc.0) next e in
    rw (← same) (headers_keep doc.1 (put key d) (dots_keep key.0 (at_key key.1 (key_value d)) (at_key_keeps key.1 (key_value d))) doc.0 root h some)
define_keeps doc next key std_table h e =
    let (root, some, same) = map_some _ (along_header key.0 (at_key key.1 std_table) doc.0) next e in
    rw (← same) (headers_keep key.0 (at_key key.1 std_table) (at_key_keeps key.1 std_table) doc.0 root h some)
define_keeps doc next key array_table h e =
    let (root, some, same) = map_some _ (along_header key.0 (at_key key.1 array_table) doc.0) next e in
    rw (← same) (headers_keep key.0 (at_key key.1 array_table) (at_key_keeps key.1 array_table) doc.0 root h some)

lines_keep : (n : ℕ) (doc out : Document) (s : List ℕ) → has_open doc.0 ≡ true → lines n doc s ≡ Some out → has_open out.0 ≡ true
unfolding lines
lines_keep zero doc out s h e = absurd (none-some out e)
lines_keep (suc n) doc out s h e =
    elim (cases_Bool (length (skip_blank s) == 0)) [
      | inl over ↦ rw (← same_Some doc out (rw over at e)) h
      | inr on ↦
          let (x, read, more) = then_some _ (line (skip_blank s)) out (rw on at e) in
          let (next, defined, left) = then_some _ (define doc x.0) out more in
          lines_keep n next out x.1 (define_keeps doc next x.0.0 x.0.1 h defined) left
    ]

pair_in : (ns root new : Nodes) (k : List ℕ) (key : Key) (d : Data) → get_node k root ≡ Some (open_table header ns) → put key d ns ≡ Some new
    → define (root, k ∷ []) (key, key_value d) ≡ Some (replace k (open_table header new) root, k ∷ [])
unfolding define along_header
pair_in ns root new k key d found some = rw (along_found k [] (put key d) root (open_table header ns) found, some) refl

-- an expression of a document with no headers does the same in the table under a header
define_in : (ns root : Nodes) (k : List ℕ) (key : Key) (what : Definition) (next : Document) → get_node k root ≡ Some (open_table header ns) → has_open next.0 ≡ false → define (ns, []) (key, what) ≡ Some next
    → (next.1 ≡ []) × (define (root, k ∷ []) (key, what) ≡ Some (replace k (open_table header next.0) root, k ∷ []))
unfolding define along_header
define_in ns root k key (key_value d) next found plain e =
    let (new, some, same) = map_some _ (put key d ns) next e in
    rw (← same) (refl, pair_in ns root new k key d found some)
define_in ns root k key std_table next found plain e =
    let (new, some, same) = map_some _ (along_header key.0 (at_key key.1 std_table) ns) next e in
    let opens = headers_open key.0 (at_key key.1 std_table) (at_key_opens key.1 std_table refl) ns new some in
    absurd (true≢false (sym opens ∙ ap (λ (doc : Document). has_open doc.0) same ∙ plain))
define_in ns root k key array_table next found plain e =
    let (new, some, same) = map_some _ (along_header key.0 (at_key key.1 array_table) ns) next e in
    let opens = headers_open key.0 (at_key key.1 array_table) (at_key_opens key.1 array_table refl) ns new some in
    absurd (true≢false (sym opens ∙ ap (λ (doc : Document). has_open doc.0) same ∙ plain))

still_plain : (n : ℕ) (next out : Document) (s : List ℕ) → lines n next s ≡ Some out → has_open out.0 ≡ false → has_open next.0 ≡ false
still_plain n next out s e plain =
    elim (cases_Bool (has_open next.0)) [
      | inl opens ↦ absurd (true≢false (sym (lines_keep n next out s opens e) ∙ plain))
      | inr none ↦ none
    ]

-- so do its lines
pub lines_in : (n : ℕ) (ns root : Nodes) (k : List ℕ) (out : Document) (s : List ℕ) → get_node k root ≡ Some (open_table header ns) → has_open out.0 ≡ false → lines n (ns, []) s ≡ Some out
    → lines n (root, k ∷ []) s ≡ Some (replace k (open_table header out.0) root, k ∷ [])
unfolding lines
lines_in zero ns root k out s found plain e = absurd (none-some out e)
lines_in (suc n) ns root k out s found plain e =
    elim (cases_Bool (length (skip_blank s) == 0)) [
      | inl over ↦
          let same = same_Some (ns, []) out (rw over at e) in
          rw (over, ← same, replace-self k (open_table header ns) root found) refl
      | inr on ↦
          let (x, read, more) = then_some _ (line (skip_blank s)) out (rw on at e) in
          let (next, defined, left) = then_some _ (define (ns, []) x.0) out more in
          let step = define_in ns root k x.0.0 x.0.1 next found (still_plain n next out x.1 left plain) defined in
          let root_now = replace k (open_table header next.0) root in
          let on_from : lines n (next.0, []) x.1 ≡ Some out = subst (λ (path : List (List ℕ)). lines n (next.0, path) x.1 ≡ Some out) step.0 left in
          let more_lines = lines_in n next.0 root_now k out x.1 (get_node-replace k (open_table header next.0) root (open_table header ns) found) plain on_from in
          rw (on, read, step.1, more_lines, replace-replace k (open_table header next.0) (open_table header out.0) root) refl
    ]

-- the values of nodes with one more
pub close_insert : (k : List ℕ) (x : Node) (ns : Nodes) → close (insert k x ns) ≡ insert_member k (close_node x) (close ns)
close_insert k x no_nodes = refl
close_insert k x (node l y ns) =
    elim (cases_ordering (slice_cmp nat_cmp k l)) [
      | inl less ↦ rw less refl
      | inr other ↦ elim other [
        | inl tie ↦ rw tie refl
        | inr more ↦ rw (more, close_insert k x ns) refl
      ]
    ]

-- another key holds what it held
pub get_insert_other : (k l : List ℕ) (x : Node) (ns : Nodes) → same_key k l ≡ false → get_node k (insert l x ns) ≡ get_node k ns
get_insert_other k l x no_nodes other = rw other refl
get_insert_other k l x (node j y ns) other =
    elim (cases_ordering (slice_cmp nat_cmp l j)) [
      | inl less ↦ rw (less, other) refl
      | inr rest ↦ elim rest [
        | inl tie ↦
            let alike : slice_cmp nat_cmp k j ≡ slice_cmp nat_cmp k l =
            nat_list_cmp_total.antisymm k j ∙ ap ordering_reverse (sym (nat_list_cmp_total.congr l j k tie)) ∙ sym (nat_list_cmp_total.antisymm k l) in
            let apart : same_key k j ≡ false = ap is_eq alike ∙ other in
            rw (tie, apart) refl
        | inr more ↦ rw (more, get_insert_other k l x ns other) refl
      ]
    ]
