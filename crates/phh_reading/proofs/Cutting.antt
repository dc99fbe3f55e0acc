-- A text that is cut into tables is the document of those tables.
use Rattle.std.proofs.Common.{◌≡◌, ℕ, zero, suc, ◌+◌, ◌<◌, ◌≤◌, Bool, true, false, not, ◌&&◌, ◌||◌, ◌==◌, List, [], ◌∷◌, ◌++◌, length, slice_index, drop, Some, None, refl, sym, ap, ◌∙◌, subst, inl, inr, ◌⊎◌, arith, length-append, append-nil}
use Rattle.std.proofs.lemmas.Bool.{cases_Bool, and_parts, false≢true}
use Rattle.std.proofs.lemmas.Bool.Decides.{nat_tests}
use Rattle.std.proofs.lemmas.Option.{same_Some}
use Rattle.std.specs.Char.{is_digit}
use Rattle.std.specs.List.{list_all, AllByRecursion}
use Rattle.toml_parser.specs.Lexical.{first, is_bare, is_ws, skip_ws, skip_blank, starts_newline, split_while}
use Rattle.toml_parser.specs.Strings.{key, key_after, simple_key, starts_string}
use Rattle.toml_parser.proofs.LexicalLemmas.{split_while-run, skip_ws_none, skip_from-nil}
use Rattle.toml.specs.Data.{table, Members, same_key}
use Rattle.toml.specs.Tables.{Nodes, no_nodes, header, open_table, get_node, insert, close, Document, std_table, along_header, define}
use Rattle.toml.specs.Parse.{header_key, expression, ends_line, line, lines, skip_bom, parse_document}
use Rattle.toml.proofs.Blanks.{skip_none, skip_within}
use Rattle.toml.proofs.NodeLaws.{get_node-insert, replace-insert}
use Rattle.toml.proofs.Turns.{at_key_new, document_some}
use Rattle.phh_reading.specs.Tables.{Entry, IsTable, IsCut, AreApart, ends_line_feed, has_section, insert_member, document_after, document_from}
use Rattle.phh_reading.proofs.Ends.{map_some}
use Rattle.phh_reading.proofs.MoreLines.{lines_room, lines_more, after_blank}
use Rattle.phh_reading.proofs.Headers.{has_open, opened, plain_open, close_opened, opened_close, lines_in, close_insert, get_insert_other}

-- a byte of a bare key is none of the other marks
bare_is : (c : ℕ) → is_bare c ≡ true → ((c == 91) ≡ false) × (is_ws c ≡ false) × (((c == 34) || (c == 39)) ≡ false)
bare_is c is = (grind (arith, nat_tests), grind (arith, nat_tests), grind (arith, nat_tests))

bare_front : (s : List ℕ) → starts_string s ≡ false → is_bare (first s) ≡ true → simple_key s ≡ Some (split_while is_bare s)
unfolding simple_key
bare_front s other bare = rw (other, bare) refl

simple_bare : (c : ℕ) (cs t : List ℕ) → list_all is_bare (c ∷ cs) ≡ true → simple_key (c ∷ cs ++ 93 ∷ t) ≡ Some (c ∷ cs, 93 ∷ t)
simple_bare c cs t bare =
    let here = (and_parts (is_bare c) (list_all is_bare cs) bare).0 in
    bare_front (c ∷ cs ++ 93 ∷ t) (bare_is c here).2 here ∙ ap Some (split_while-run is_bare (c ∷ cs) (93 ∷ t) bare refl)

key_bare : (c : ℕ) (cs t : List ℕ) → list_all is_bare (c ∷ cs) ≡ true → key (c ∷ cs ++ 93 ∷ t) ≡ Some (([], c ∷ cs), 93 ∷ t)
unfolding key_after
key_bare c cs t bare = rw (simple_bare c cs t bare, skip_ws_none (93 ∷ t) refl) refl

header_bare : (c : ℕ) (cs t : List ℕ) → list_all is_bare (c ∷ cs) ≡ true → header_key (c ∷ cs ++ 93 ∷ t) ≡ Some (([], c ∷ cs), t)
unfolding header_key
header_bare c cs t bare =
    let here = (and_parts (is_bare c) (list_all is_bare cs) bare).0 in
    let marks = bare_is c here in
    rw (skip_ws_none (c ∷ cs ++ 93 ∷ t) marks.1, key_bare c cs t bare) refl

expression_bare : (c : ℕ) (cs t : List ℕ) → list_all is_bare (c ∷ cs) ≡ true → expression (91 ∷ (c ∷ cs ++ 93 ∷ t)) ≡ Some ((([], c ∷ cs), std_table), t)
unfolding expression
expression_bare c cs t bare =
    let here = (and_parts (is_bare c) (list_all is_bare cs) bare).0 in
    let marks = bare_is c here in
    rw (marks.0, header_bare c cs t bare) refl

-- a text at a newline ends a line
newline_ends : (t r : List ℕ) → starts_newline t ≡ true → ends_line (skip_ws (t ++ r)) ≡ true
newline_ends [] r is = absurd (false≢true is)
newline_ends (c ∷ cs) r is =
    let not_ws : is_ws c ≡ false = grind (arith, nat_tests) in
    rw (skip_ws_none (c ∷ cs ++ r) not_ws) (grind (arith, nat_tests))

header_line : (k t r : List ℕ) → 0 < length k → list_all is_bare k ≡ true → starts_newline t ≡ true → line (91 ∷ (k ++ 93 ∷ (t ++ r))) ≡ Some ((([], k), std_table), t ++ r)
unfolding line
header_line [] t r some bare is = absurd (omega arith)
header_line (c ∷ cs) t r some bare is = rw (expression_bare c cs (t ++ r) bare, newline_ends t r is) refl

header_defined : (root : Nodes) (path : List (List ℕ)) (k : List ℕ) → get_node k root ≡ None → define (root, path) (([], k), std_table) ≡ Some (insert k (open_table header no_nodes) root, k ∷ [])
unfolding define along_header
header_defined root path k none = rw (at_key_new k std_table root none) refl

-- lines that begin with a newline have no byte order mark
newline_no_bom : (t : List ℕ) → starts_newline t ≡ true → skip_bom t ≡ t
unfolding skip_bom
newline_no_bom [] is = absurd (false≢true is)
newline_no_bom (c ∷ cs) is =
    let other : (c == 239) ≡ false = grind (arith, nat_tests) in
    rw other refl

-- the nodes of the lines of a table, read alone
lines_alone : (t : List ℕ) (ms : Members) → starts_newline t ≡ true → parse_document t ≡ Some ms → has_section ms ≡ false
    → (out : Document) × (lines (suc (length t)) (no_nodes, []) t ≡ Some out) × (has_open out.0 ≡ false) × (out.0 ≡ opened ms)
unfolding parse_document
lines_alone t ms is read plain =
    let (out, found, same) = map_some _ (lines (suc (length t)) (no_nodes, []) (skip_bom t)) ms read in
    let alone = plain_open out.0 (ap has_section same ∙ plain) in
    (out, subst (λ (text : List ℕ). lines (suc (length t)) (no_nodes, []) text ≡ Some out) (newline_no_bom t is) found, alone, sym (opened_close out.0 alone) ∙ ap opened same)

-- the root with the table of a header
abbrev with_table : List ℕ → Members → Nodes → Nodes
with_table k ms root = insert k (open_table header (opened ms)) root

table_lines : (k t : List ℕ) (ms : Members) (root : Nodes) → starts_newline t ≡ true → parse_document t ≡ Some ms → has_section ms ≡ false
    → lines (suc (length t)) (insert k (open_table header no_nodes) root, k ∷ []) t ≡ Some (with_table k ms root, k ∷ [])
table_lines k t ms root is read plain =
    let (out, found, alone, same) = lines_alone t ms is read plain in
    lines_in (suc (length t)) no_nodes (insert k (open_table header no_nodes) root) k out t (get_node-insert k (open_table header no_nodes) root) alone found
    ∙ ap (λ (nodes : Nodes). Some (nodes, k ∷ [])) (replace-insert k (open_table header no_nodes) (open_table header out.0) root ∙ ap (λ (ns : Nodes). insert k (open_table header ns) root) same)

lines_none : (doc : Document) → lines 1 doc [] ≡ Some doc
unfolding lines
lines_none doc = rw (skip_from-nil true false) refl

-- the lines of a table, and what follows
table_then : (k t next : List ℕ) (ms : Members) (root : Nodes) (out : Document) → starts_newline t ≡ true → (next ≡ []) ⊎ (ends_line_feed t ≡ true) → parse_document t ≡ Some ms → has_section ms ≡ false
    → lines (suc (length next)) (with_table k ms root, k ∷ []) next ≡ Some out
    → lines (suc (length t) + suc (length next)) (insert k (open_table header no_nodes) root, k ∷ []) (t ++ next) ≡ Some out
table_then k t next ms root out is (inl none) read plain later =
    let here = table_lines k t ms root is read plain in
    let over : lines 1 (with_table k ms root, k ∷ []) [] ≡ Some out = subst (λ (text : List ℕ). lines (suc (length text)) (with_table k ms root, k ∷ []) text ≡ Some out) none later in
    let same : (with_table k ms root, k ∷ []) ≡ out = same_Some _ out (sym (lines_none (with_table k ms root, k ∷ [])) ∙ over) in
    let whole : t ++ next ≡ t = ap (λ (text : List ℕ). t ++ text) none ∙ append-nil t in
    lines_room (suc (length t)) (suc (length t) + suc (length next)) (insert k (open_table header no_nodes) root, k ∷ []) out (t ++ next) (omega arith)
    (subst (λ (text : List ℕ). lines (suc (length t)) (insert k (open_table header no_nodes) root, k ∷ []) text ≡ Some out) (sym whole) (here ∙ ap Some same))
table_then k t next ms root out is (inr ends) read plain later =
    lines_more (suc (length t)) (suc (length next)) (insert k (open_table header no_nodes) root, k ∷ []) (with_table k ms root, k ∷ []) out t next ends (table_lines k t ms root is read plain) later

-- a header, the lines of its table, and what follows
header_then : (k t next : List ℕ) (root : Nodes) (path : List (List ℕ)) (n : ℕ) (out : Document) → 0 < length k → list_all is_bare k ≡ true → starts_newline t ≡ true → get_node k root ≡ None
    → lines n (insert k (open_table header no_nodes) root, k ∷ []) (t ++ next) ≡ Some out → lines (suc n) (root, path) (91 ∷ (k ++ 93 ∷ (t ++ next))) ≡ Some out
unfolding lines
header_then k t next root path n out some bare is none later =
    let start = skip_none (91 ∷ (k ++ 93 ∷ (t ++ next))) 91 refl refl in
    let long : (length (91 ∷ (k ++ 93 ∷ (t ++ next))) == 0) ≡ false = grind (arith, nat_tests) in
    rw (start, long, header_line k t next some bare is, header_defined root path k none) later

-- digits are bytes of bare keys
all_bare : (k : List ℕ) → list_all (λ sign. is_digit sign 10) k ≡ true → list_all is_bare k ≡ true
all_bare [] all = refl
all_bare (c ∷ cs) all =
    let parts = and_parts (is_digit c 10) (list_all (λ sign. is_digit sign 10) cs) all in
    let here : is_bare c ≡ true = grind (arith, nat_tests) in
    rw here (all_bare cs parts.1)

-- a table at the front of a text
pub first_table : (text k t next : List ℕ) (ms : Members) (root : Nodes) (path : List (List ℕ)) (out : Document) → IsTable text k t next ms → get_node k root ≡ None
    → lines (suc (length next)) (with_table k ms root, k ∷ []) next ≡ Some out → lines (suc (length text)) (root, path) text ≡ Some out
first_table text k t next ms root path out is none later =
    let whole = 91 ∷ (k ++ 93 ∷ (t ++ next)) in
    let size : suc (suc (length t) + suc (length next)) ≤ suc (length whole) = omega (arith, length-append k (93 ∷ (t ++ next)), length-append t next, is.some_digit) in
    let rest = table_then k t next ms root out is.newline is.whole is.read is.plain later in
    subst (λ (s : List ℕ). lines (suc (length s)) (root, path) s ≡ Some out) (sym is.text_is)
    (lines_room (suc (suc (length t) + suc (length next))) (suc (length whole)) (root, path) out whole size
    (header_then k t next root path (suc (length t) + suc (length next)) out is.some_digit (all_bare k is.digits) is.newline none rest))

-- no key is in the root
abbrev AreNew : Nodes → List Entry → Type 0
AreNew root entries = AllByRecursion (λ (entry : Entry). get_node entry.0 root ≡ None) entries

still_new : (root : Nodes) (k : List ℕ) (ms : Members) (entries : List Entry) → list_all (λ (other : Entry). not (same_key other.0 k)) entries ≡ true → AreNew root entries → AreNew (with_table k ms root) entries
still_new root k ms [] apart new = tt
still_new root k ms (entry ∷ rest) apart new =
    let parts = and_parts (not (same_key entry.0 k)) (list_all (λ (other : Entry). not (same_key other.0 k)) rest) apart in
    let other : same_key entry.0 k ≡ false = not_true (same_key entry.0 k) parts.0 in
    (get_insert_other entry.0 k (open_table header (opened ms)) root other ∙ new.0, still_new root k ms rest parts.1 new.1)
  where
    not_true : (b : Bool) → not b ≡ true → b ≡ false
    not_true true h = absurd (false≢true h)
    not_true false h = refl

all_new : (entries : List Entry) → AreNew no_nodes entries
all_new [] = tt
all_new (entry ∷ rest) = (refl, all_new rest)

close_table : (k : List ℕ) (ms : Members) (root : Nodes) → close (with_table k ms root) ≡ insert_member k (table ms) (close root)
close_table k ms root =
    close_insert k (open_table header (opened ms)) root ∙ ap (λ (ms : Members). insert_member k (table ms) (close root)) (close_opened ms)

cut_lines : (entries : List Entry) (text : List ℕ) (root : Nodes) (path : List (List ℕ)) → IsCut text entries → AreApart entries → AreNew root entries
    → (out : Document) × (lines (suc (length text)) (root, path) text ≡ Some out) × (close out.0 ≡ document_after (close root) entries)
cut_lines [] text root path cut apart new =
    ((root, path), subst (λ (s : List ℕ). lines (suc (length s)) (root, path) s ≡ Some (root, path)) (sym cut) (lines_none (root, path)), refl)
cut_lines (entry ∷ rest) text root path cut apart new =
    let (t, next, is, more) = cut in
    let (out, found, same) = cut_lines rest next (with_table entry.0 entry.1 root) (entry.0 ∷ []) more apart.1 (still_new root entry.0 entry.1 rest apart.0 new.1) in
    (out, first_table text entry.0 t next entry.1 root path out is new.0 found, same ∙ ap (λ (ms : Members). document_after ms rest) (close_table entry.0 entry.1 root))

-- blank lines before a table are skipped
cut_start : (entries : List Entry) (text : List ℕ) → IsCut text entries → skip_blank text ≡ text
cut_start [] text cut = ap skip_blank cut ∙ skip_from-nil true false ∙ sym cut
cut_start (entry ∷ rest) text cut =
    let (t, next, is, more) = cut in
    let whole = 91 ∷ (entry.0 ++ 93 ∷ (t ++ next)) in
    ap skip_blank is.text_is ∙ skip_none whole 91 refl refl ∙ sym is.text_is

bom_within : (text : List ℕ) → length (skip_bom text) ≤ length text
unfolding skip_bom
bom_within text =
    elim (cases_Bool ((first text == 0xEF && slice_index text 1 == 0xBB) && slice_index text 2 == 0xBF)) [
      | inl mark ↦ rw mark (drop_within 3 text)
      | inr none ↦ rw none (omega arith)
    ]
  where
    drop_within : (n : ℕ) (s : List ℕ) → length (drop n s) ≤ length s
    drop_within zero s = omega arith
    drop_within (suc n) [] = omega arith
    drop_within (suc n) (c ∷ cs) = omega (arith, drop_within n cs)

pub cut_document : (text : List ℕ) (entries : List Entry) → IsCut (skip_blank (skip_bom text)) entries → AreApart entries → parse_document text ≡ Some (document_from entries)
cut_document text entries cut apart =
    let start = skip_blank (skip_bom text) in
    let (out, found, same) = cut_lines entries start no_nodes [] cut apart (all_new entries) in
    let size : suc (length start) ≤ suc (length text) = omega (arith, skip_within (skip_bom text), bom_within text) in
    let from_blank = after_blank (suc (length start)) (no_nodes, []) out (skip_bom text) start (sym (cut_start entries start cut)) found in
    document_some text out (lines_room (suc (length start)) (suc (length text)) (no_nodes, []) out (skip_bom text) size from_blank) ∙ ap Some same
