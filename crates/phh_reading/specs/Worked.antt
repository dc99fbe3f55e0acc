-- Worked documents.
use Rattle.std.specs.Prelude.{ℕ, List, [], ◌∷◌, pos}
use Rattle.toml.specs.Data.{integer, string, table, Members, no_members, member}
use Rattle.phh_reading.specs.Tables.{Entry}

-- [2], a=1, [10], each on a line
abbrev pub two_tables : List ℕ
two_tables = 91 ∷ 50 ∷ 93 ∷ 10 ∷ 97 ∷ 61 ∷ 49 ∷ 10 ∷ 91 ∷ 49 ∷ 48 ∷ 93 ∷ 10 ∷ []

-- its tables, in the order of the text
abbrev pub two_entries : List Entry
two_entries =
    (50 ∷ [], member (97 ∷ []) (integer (pos 1)) no_members) ∷ (49 ∷ 48 ∷ [], no_members) ∷ []

-- its document: the key 10 is before the key 2, as texts are
abbrev pub two_documents : Members
two_documents =
    member (49 ∷ 48 ∷ []) (table no_members)
    (member (50 ∷ []) (table (member (97 ∷ []) (integer (pos 1)) no_members)) no_members)

-- the lines of a table up to a header that a text holds: a line with a=''' between two line feeds
abbrev pub lines_before_header : List ℕ
lines_before_header = 10 ∷ 97 ∷ 61 ∷ 39 ∷ 39 ∷ 39 ∷ 10 ∷ []

-- [1], a=''', [2] and ''', each on a line
abbrev pub header_in_text : List ℕ
header_in_text =
    91 ∷ 49 ∷ 93 ∷ 10 ∷ 97 ∷ 61 ∷ 39 ∷ 39 ∷ 39 ∷ 10 ∷ 91 ∷ 50 ∷ 93 ∷ 10 ∷ 39 ∷ 39 ∷ 39 ∷ 10 ∷ []

-- its one table, with the text
abbrev pub one_entry : List Entry
one_entry = (49 ∷ [], member (97 ∷ []) (string (91 ∷ 50 ∷ 93 ∷ 10 ∷ [])) no_members) ∷ []
