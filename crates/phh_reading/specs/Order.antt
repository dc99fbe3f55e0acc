-- The hands of a document whose keys are numbers: in the order of the numbers, and for equal
-- numbers in the order of the keys' texts.
use Rattle.std.specs.Prelude.{ℕ, Bool, true, false, ◌&&◌, List, [], ◌∷◌, map}
use Rattle.std.specs.declared.cmp.Ordering.{Ordering}
use Rattle.std.specs.Ordering.{nat_cmp, match_ordering, ordering_then}
use Rattle.std.specs.Cmp.Lexicographic.{slice_cmp}
use Rattle.std.specs.Str.Parse.{digits_value}
use Rattle.toml.specs.Data.{Data, table, Members, no_members, member}
use Rattle.first_fault.specs.Digits.{are_digits}

-- a value is a table
abbrev pub is_table : Data → Bool
is_table (table hand) = true
is_table _ = false

-- each key is a number, and each value a table
abbrev pub is_multi_hand : Members → Bool
is_multi_hand no_members = true
is_multi_hand (member key value rest) = (are_digits key && is_table value) && is_multi_hand rest

-- a key and its value
abbrev pub Entry : Type 0
Entry = List ℕ × Data

-- how two keys compare: by their numbers, and then by their texts
abbrev pub key_cmp : List ℕ → List ℕ → Ordering
key_cmp key other =
    ordering_then (nat_cmp (digits_value 10 key) (digits_value 10 other))
    (slice_cmp nat_cmp key other)

-- an entry, inserted at its place among others
abbrev pub placed : List ℕ → Data → List Entry → List Entry
placed key value [] = (key, value) ∷ []
placed key value (next ∷ rest) =
    match_ordering (key_cmp key next.0) ((key, value) ∷ next ∷ rest) ((next.0, value) ∷ rest)
    (next ∷ placed key value rest)

-- the entries, each inserted at its place among those before it
abbrev pub placed_all : List Entry → Members → List Entry
placed_all entries no_members = entries
placed_all entries (member key value rest) = placed_all (placed key value entries) rest

-- the tables among values
abbrev pub tables_among : List Data → List Members
tables_among [] = []
tables_among (table hand ∷ rest) = hand ∷ tables_among rest
tables_among (_ ∷ rest) = tables_among rest

-- the tables in order
abbrev pub in_order : Members → List Members
in_order members = tables_among (map (λ entry. entry.1) (placed_all [] members))
