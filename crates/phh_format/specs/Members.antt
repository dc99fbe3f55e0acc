-- A table is made of fields: a key and, if the field is present, its value.
use Rattle.std.specs.Prelude.{ℕ, List, [], ◌∷◌, Option, Some, None}
use Rattle.std.specs.Ordering.{nat_cmp, match_ordering}
use Rattle.std.specs.Cmp.Lexicographic.{slice_cmp}
use Rattle.toml.specs.Data.{Data, Members, no_members, member}

-- the members of a table, in the order of their keys, with this value at this key
abbrev pub with_member : List ℕ → Data → Members → Members
with_member key value no_members = member key value no_members
with_member key value (member next other rest) =
    match_ordering (slice_cmp nat_cmp key next)
    (member key value (member next other rest))
    (member next value rest)
    (member next other (with_member key value rest))

-- the same, if there is a value
abbrev pub with_member_if : List ℕ → Option Data → Members → Members
with_member_if key None members = members
with_member_if key (Some value) members = with_member key value members

-- a key, and its value if the field is present
abbrev pub Field : Type 0
Field = List ℕ × Option Data

-- a table together with these fields
abbrev pub with_fields : List Field → Members → Members
with_fields [] members = members
with_fields (field ∷ fields) members = with_member_if field.0 field.1 (with_fields fields members)

-- the table of fields
abbrev pub table_of : List Field → Members
table_of fields = with_fields fields no_members
