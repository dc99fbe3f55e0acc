-- A text that is cut into tables, and the document of those tables.
use Rattle.std.specs.Prelude.{◌≡◌, ℕ, ◌<◌, ◌≤◌, Bool, true, false, not, ◌&&◌, ◌||◌, ◌==◌, List, [], ◌∷◌, ◌++◌, length, Some, ◌⊎◌}
use Rattle.std.specs.Char.{is_digit}
use Rattle.std.specs.List.{list_all}
use Rattle.std.specs.Ordering.{nat_cmp, match_ordering}
use Rattle.std.specs.Cmp.Lexicographic.{slice_cmp}
use Rattle.toml_parser.specs.Lexical.{first, left_bracket, right_bracket, line_feed, starts_newline}
use Rattle.toml.specs.Data.{Data, array, table, Items, no_items, item, Members, no_members, member, same_key}
use Rattle.toml.specs.Parse.{parse_document}
use Rattle.phh_reading.specs.declared.table.TheConstants.{LONGEST_TABLE}

-- the text is not empty, and its last byte is a line feed
abbrev pub ends_line_feed : List ℕ → Bool
ends_line_feed [] = false
ends_line_feed (c ∷ []) = c == line_feed
ends_line_feed (c ∷ d ∷ cs) = ends_line_feed (d ∷ cs)

-- a value is a table
abbrev pub is_table : Data → Bool
is_table (table ms) = true
is_table _ = false

-- some item is a table
abbrev pub has_table : Items → Bool
has_table no_items = false
has_table (item d ds) = is_table d || has_table ds

-- what a header or a dotted key can make: a table, or an array that has one
abbrev pub is_section : Data → Bool
is_section (array ds) = has_table ds
is_section d = is_table d

-- some value is one that a header or a dotted key can make
abbrev pub has_section : Members → Bool
has_section no_members = false
has_section (member k d ms) = is_section d || has_section ms

-- a key, and the table under it
abbrev pub Entry : Type 0
Entry = List ℕ × Members

-- A header with a number, and the lines of its table after it up to the next header or the end. The
-- lines, read alone, are this table, and have no header of their own.
pub record IsTable (text number lines next : List ℕ) (members : Members) : Type 0 where
  pub text_is : text ≡ left_bracket ∷ (number ++ right_bracket ∷ (lines ++ next))
  pub some_digit : 0 < length number
  pub digits : list_all (λ sign. is_digit sign 10) number ≡ true
  pub newline : starts_newline lines ≡ true
  pub whole : (next ≡ []) ⊎ (ends_line_feed lines ≡ true)
  pub read : parse_document lines ≡ Some members
  pub plain : has_section members ≡ false

-- a line after the first begins with a bracket
abbrev pub has_header : List ℕ → Bool
has_header [] = false
has_header (c ∷ cs) = (c == line_feed && first cs == left_bracket) || has_header cs

-- a header with a number, and the text after it, which begins a new line
pub record IsHeader (text number rest : List ℕ) : Type 0 where
  pub text_is : text ≡ left_bracket ∷ (number ++ right_bracket ∷ rest)
  pub some_digit : 0 < length number
  pub digits : list_all (λ sign. is_digit sign 10) number ≡ true
  pub newline : starts_newline rest ≡ true

-- A table whose lines end before the next line that begins with a bracket, or with the text; there
-- are no more bytes of them than are read alone.
pub record IsFirstTable (text number lines next : List ℕ) (members : Members) : Type 0 where
  pub table : IsTable text number lines next members
  pub one : has_header lines ≡ false
  pub ends : (next ≡ []) ⊎ (first next ≡ left_bracket)
  pub few : length lines ≤ LONGEST_TABLE

-- the text is these tables, one after the other
abbrev pub IsCut : List ℕ → List Entry → Type 0
IsCut text [] = text ≡ []
IsCut text (entry ∷ rest) =
    (lines next : List ℕ) × IsTable text entry.0 lines next entry.1 × IsCut next rest

-- no key is that of another entry
abbrev pub AreApart : List Entry → Type 0
AreApart [] = Unit {0}
AreApart (entry ∷ rest) =
    (list_all (λ (other : Entry). not (same_key other.0 entry.0)) rest ≡ true) × AreApart rest

-- the members with one more, at its place in the order of keys
abbrev pub insert_member : List ℕ → Data → Members → Members
insert_member k d no_members = member k d no_members
insert_member k d (member l e ms) =
    match_ordering (slice_cmp nat_cmp k l) (member k d (member l e ms)) (member l d ms)
    (member l e (insert_member k d ms))

-- the document of these entries, after the members that it has
abbrev pub document_after : Members → List Entry → Members
document_after ms [] = ms
document_after ms (entry ∷ rest) =
    document_after (insert_member entry.0 (table entry.1) ms) rest

-- the document of these entries
abbrev pub document_from : List Entry → Members
document_from entries = document_after no_members entries
