-- The tally of a name is at its place, and what is put there is put into the rows.
use Rattle.std.proofs.Common.{◌≡◌, ◌≢◌, ◌≤◌, ◌<◌, ℕ, zero, suc, length, slice_get, ◌+◌, ◌||◌, Bool, true, false, cond, List, [], ◌∷◌, ◌++◌, Some, None, bytes_eq, nat_eq, refl, sym, ap, subst, ◌∙◌, arith}
use Rattle.std.specs.Cmp.Lexicographic.{bytes_decides}
use Rattle.std.specs.List.{list_any, position_from}
use Rattle.std.specs.Map.{lookup, values_of}
use Rattle.std.specs.Option.{option_map_or}
use Rattle.std.proofs.lemmas.Bool.{eq-eqb, ne_eqb}
use Rattle.std.proofs.lemmas.List.{length-map}
use Rattle.std.proofs.lemmas.Option.{same_Some}
use Rattle.indexmap.specs.IndexMap.{insert_entry, set_value_at}
use Rattle.card_set.proofs.Bytes.{same_bytes}
use Rattle.printed_hands.specs.Indexed.{AreIndexed}
use Rattle.printed_hands.specs.Names.{with_name}
use Rattle.printed_hands.specs.declared.index.NameIndex.{NameIndex}
use Rattle.printed_hands.proofs.Placed.{known_place, last_place, place_range}
use Rattle.printed_hands.specs.Tallies.{AreNumbered, AreTallied, named_tallies, no_tally, tally_at, tally_names, tally_under}
use Rattle.printed_hands.specs.declared.tally.NamedTally.{NamedTally}
use Rattle.printed_hands.specs.declared.tally.Tally.{Tally}
use Rattle.printed_hands.proofs.ReportRows.{at_front, names_insert}

-- the place of the name in front
place_here : (name front : List ℕ) (names : List (List ℕ)) (first : ℕ) → bytes_eq name front ≡ true
    → position_from (bytes_eq name) first (with_name (front ∷ names) name) ≡ Some first
place_here name front names first same =
    ap (λ (b : Bool). position_from (bytes_eq name) first (cond (b || list_any (bytes_eq name) names) (front ∷ names) (front ∷ (names ++ name ∷ [])))) same
    ∙ ap (λ (b : Bool). cond b (Some first) (position_from (bytes_eq name) (first + 1) names)) same

-- the place of a name after another one
place_behind : (name front : List ℕ) (names : List (List ℕ)) (first : ℕ) → bytes_eq name front ≡ false
    → position_from (bytes_eq name) first (with_name (front ∷ names) name) ≡ position_from (bytes_eq name) (first + 1) (with_name names name)
place_behind name front names first other =
    ap (λ (b : Bool). position_from (bytes_eq name) first (cond (b || list_any (bytes_eq name) names) (front ∷ names) (front ∷ (names ++ name ∷ [])))) other
    ∙ by (list_any (bytes_eq name) names)
  where
    by : (b : Bool) → position_from (bytes_eq name) first (cond b (front ∷ names) (front ∷ (names ++ name ∷ []))) ≡ position_from (bytes_eq name) (first + 1) (cond b names (names ++ name ∷ []))
    by true = ap (λ (b : Bool). cond b (Some first) (position_from (bytes_eq name) (first + 1) names)) other
    by false = ap (λ (b : Bool). cond b (Some first) (position_from (bytes_eq name) (first + 1) (names ++ name ∷ []))) other

-- entries and their names have the same number
pub names_long : (entries : List (ℕ × NamedTally)) → length (tally_names (named_tallies entries)) ≡ length entries
names_long entries =
    length-map (named_tallies entries) (λ (row : List ℕ × Tally). row.0)
    ∙ length-map entries (λ (entry : ℕ × NamedTally). (entry.1.name, entry.1.tally))

-- a place that is counted from a number on
abbrev pub IsPlaceFrom : ℕ → List (ℕ × NamedTally) → List ℕ → ℕ → Type 0
IsPlaceFrom first entries name place = position_from (bytes_eq name) first (with_name (tally_names (named_tallies entries)) name) ≡ Some place

-- whether an entry at the front is that of a name is decided by its key
same_key : (first : ℕ) (entry : ℕ × NamedTally) (entries : List (ℕ × NamedTally)) (name : List ℕ) (place : ℕ) → entry.0 ≡ first
    → IsPlaceFrom first (entry ∷ entries) name place → bytes_eq name entry.1.name ≡ true → nat_eq place entry.0 ≡ true
same_key first entry entries name place key is same =
    eq-eqb place entry.0 (same_Some place first (sym is ∙ place_here name entry.1.name (tally_names (named_tallies entries)) first same) ∙ sym key)

later_place : (first : ℕ) (entry : ℕ × NamedTally) (entries : List (ℕ × NamedTally)) (name : List ℕ) (place : ℕ)
    → IsPlaceFrom first (entry ∷ entries) name place → bytes_eq name entry.1.name ≡ false → IsPlaceFrom (first + 1) entries name place
later_place first entry entries name place is other =
    sym (place_behind name entry.1.name (tally_names (named_tallies entries)) first other) ∙ is

other_key : (first : ℕ) (entry : ℕ × NamedTally) (entries : List (ℕ × NamedTally)) (name : List ℕ) (place : ℕ) → entry.0 ≡ first
    → IsPlaceFrom (first + 1) entries name place → nat_eq place entry.0 ≡ false
other_key first entry entries name place key later =
    let range = place_range name (with_name (tally_names (named_tallies entries)) name) (first + 1) place later in
    ne_eqb place entry.0 (λ same. omega (arith, same, key, range.0))

-- what is found at the place of a name is its tally
found_under : (first : ℕ) (entries : List (ℕ × NamedTally)) (name : List ℕ) (place : ℕ) → AreNumbered first entries → IsPlaceFrom first entries name place
    → tally_under entries place ≡ tally_at (named_tallies entries) name
found_under first [] name place numbered is = refl
found_under first (entry ∷ entries) name place numbered is = by (λ later. found_under (first + 1) entries name place numbered.1 later) (bytes_eq name entry.1.name) refl
  where
    under : Bool → Tally
    under b = option_map_or (λ (named : NamedTally). named.tally) (cond b (Some entry.1) (lookup (nat_eq place) entries)) no_tally

    at : Bool → Tally
    at b = cond b entry.1.tally (tally_at (named_tallies entries) name)

    by : (IsPlaceFrom (first + 1) entries name place → tally_under entries place ≡ tally_at (named_tallies entries) name)
        → (b : Bool) → bytes_eq name entry.1.name ≡ b → tally_under (entry ∷ entries) place ≡ tally_at (named_tallies (entry ∷ entries)) name
    by rest true same =
        ap under (same_key first entry entries name place numbered.0 is same)
        ∙ sym (at_front (entry.1.name, entry.1.tally) (named_tallies entries) name ∙ ap at same)
    by rest false other =
        let later = later_place first entry entries name place is other in
        ap under (other_key first entry entries name place numbered.0 later)
        ∙ rest later
        ∙ sym (at_front (entry.1.name, entry.1.tally) (named_tallies entries) name ∙ ap at other)

-- what is put at the place of a name is put into its row
put_under : (first : ℕ) (entries : List (ℕ × NamedTally)) (named : NamedTally) (place : ℕ) → AreNumbered first entries → IsPlaceFrom first entries named.name place
    → named_tallies (insert_entry nat_eq entries place named) ≡ insert_entry bytes_eq (named_tallies entries) named.name named.tally
put_under first [] named place numbered is = refl
put_under first (entry ∷ entries) named place numbered is = by (λ later. put_under (first + 1) entries named place numbered.1 later) (bytes_eq named.name entry.1.name) refl
  where
    under : Bool → List (List ℕ × Tally)
    under b = named_tallies (cond b ((entry.0, named) ∷ entries) (entry ∷ insert_entry nat_eq entries place named))

    into : Bool → List (List ℕ × Tally)
    into b = cond b ((entry.1.name, named.tally) ∷ named_tallies entries) ((entry.1.name, entry.1.tally) ∷ insert_entry bytes_eq (named_tallies entries) named.name named.tally)

    by : (IsPlaceFrom (first + 1) entries named.name place → named_tallies (insert_entry nat_eq entries place named) ≡ insert_entry bytes_eq (named_tallies entries) named.name named.tally)
        → (b : Bool) → bytes_eq named.name entry.1.name ≡ b
        → named_tallies (insert_entry nat_eq (entry ∷ entries) place named) ≡ insert_entry bytes_eq (named_tallies (entry ∷ entries)) named.name named.tally
    by rest true same =
        ap under (same_key first entry entries named.name place numbered.0 is same)
        ∙ ap (λ (name : List ℕ). (name, named.tally) ∷ named_tallies entries) ((bytes_decides named.name entry.1.name).0 same)
        ∙ sym (ap into same)
    by rest false other =
        let later = later_place first entry entries named.name place is other in
        ap under (other_key first entry entries named.name place numbered.0 later)
        ∙ ap (λ (rows : List (List ℕ × Tally)). (entry.1.name, entry.1.tally) ∷ rows) (rest later)
        ∙ sym (ap into other)

-- and the keys stay the numbers of the entries
still_numbered : (first : ℕ) (entries : List (ℕ × NamedTally)) (named : NamedTally) (place : ℕ) → AreNumbered first entries → IsPlaceFrom first entries named.name place
    → AreNumbered first (insert_entry nat_eq entries place named)
still_numbered first [] named place numbered is =
    (same_Some place first (sym is ∙ ap (λ (b : Bool). cond b (Some first) None) (same_bytes named.name)), tt)
still_numbered first (entry ∷ entries) named place numbered is = by (λ later. still_numbered (first + 1) entries named place numbered.1 later) (bytes_eq named.name entry.1.name) refl
  where
    by : (IsPlaceFrom (first + 1) entries named.name place → AreNumbered (first + 1) (insert_entry nat_eq entries place named))
        → (b : Bool) → bytes_eq named.name entry.1.name ≡ b → AreNumbered first (insert_entry nat_eq (entry ∷ entries) place named)
    by rest true same =
        subst (λ (c : Bool). AreNumbered first (cond c ((entry.0, named) ∷ entries) (entry ∷ insert_entry nat_eq entries place named)))
        (sym (same_key first entry entries named.name place numbered.0 is same))
        (numbered.0, numbered.1)
    by rest false other =
        let later = later_place first entry entries named.name place is other in
        subst (λ (c : Bool). AreNumbered first (cond c ((entry.0, named) ∷ entries) (entry ∷ insert_entry nat_eq entries place named)))
        (sym (other_key first entry entries named.name place numbered.0 later))
        (numbered.0, rest later)

-- after the entries there is no tally
none_under : (first : ℕ) (entries : List (ℕ × NamedTally)) (place : ℕ) → AreNumbered first entries → first + length entries ≤ place
    → tally_under entries place ≡ no_tally
none_under first [] place numbered behind = refl
none_under first (entry ∷ entries) place numbered behind =
    ap (λ (b : Bool). option_map_or (λ (named : NamedTally). named.tally) (cond b (Some entry.1) (lookup (nat_eq place) entries)) no_tally)
    (ne_eqb place entry.0 (λ same. omega (arith, same, numbered.0, behind)))
    ∙ none_under (first + 1) entries place numbered.1 (omega (arith, behind))

-- and at an index is the tally of its place
under_at : (first : ℕ) (entries : List (ℕ × NamedTally)) (place index : ℕ) (named : NamedTally) → AreNumbered first entries → place ≡ first + index
    → slice_get (values_of entries) index ≡ Some named → tally_under entries place ≡ named.tally
under_at first [] place zero named numbered here at = absurd (cc (at))
under_at first [] place (suc index) named numbered here at = absurd (cc (at))
under_at first (entry ∷ entries) place zero named numbered here at =
    ap (λ (b : Bool). option_map_or (λ (one : NamedTally). one.tally) (cond b (Some entry.1) (lookup (nat_eq place) entries)) no_tally)
    (eq-eqb place entry.0 (omega (arith, here, numbered.0)))
    ∙ ap (λ (one : NamedTally). one.tally) (same_Some entry.1 named at)
under_at first (entry ∷ entries) place (suc index) named numbered here at =
    ap (λ (b : Bool). option_map_or (λ (one : NamedTally). one.tally) (cond b (Some entry.1) (lookup (nat_eq place) entries)) no_tally)
    (ne_eqb place entry.0 (λ same. omega (arith, same, numbered.0, here)))
    ∙ under_at (first + 1) entries place index named numbered.1 (omega (arith, here)) at

-- to set a tally at an index is to put it at its place
set_is_put : (first : ℕ) (entries : List (ℕ × NamedTally)) (place index : ℕ) (named : NamedTally) → AreNumbered first entries → place ≡ first + index
    → index < length entries → set_value_at entries index named ≡ insert_entry nat_eq entries place named
set_is_put first [] place index named numbered here within = absurd (omega (arith, within))
set_is_put first (entry ∷ entries) place zero named numbered here within =
    ap (λ (b : Bool). cond b ((entry.0, named) ∷ entries) (entry ∷ insert_entry nat_eq entries place named))
    (sym (eq-eqb place entry.0 (omega (arith, here, numbered.0))))
set_is_put first (entry ∷ entries) place (suc index) named numbered here within =
    ap (λ (rest : List (ℕ × NamedTally)). entry ∷ rest) (set_is_put (first + 1) entries place index named numbered.1 (omega (arith, here)) (omega (arith, within)))
    ∙ ap (λ (b : Bool). cond b ((entry.0, named) ∷ entries) (entry ∷ insert_entry nat_eq entries place named))
    (sym (ne_eqb place entry.0 (λ same. omega (arith, same, numbered.0, here))))

-- the name of the entry at a name's place is that name
name_at : (first : ℕ) (entries : List (ℕ × NamedTally)) (name : List ℕ) (place index : ℕ) (named : NamedTally) → IsPlaceFrom first entries name place
    → place ≡ first + index → slice_get (values_of entries) index ≡ Some named → named.name ≡ name
name_at first [] name place zero named is here at = absurd (cc (at))
name_at first [] name place (suc index) named is here at = absurd (cc (at))
name_at first (entry ∷ entries) name place index named is here at =
    by index here at (λ k later where_it_is found. name_at (first + 1) entries name place k named later where_it_is found) (bytes_eq name entry.1.name) refl
  where
    by : (k : ℕ) → place ≡ first + k → slice_get (values_of (entry ∷ entries)) k ≡ Some named
        → ((j : ℕ) → IsPlaceFrom (first + 1) entries name place → place ≡ first + 1 + j → slice_get (values_of entries) j ≡ Some named → named.name ≡ name)
        → (b : Bool) → bytes_eq name entry.1.name ≡ b → named.name ≡ name
    by zero there found rest true same =
        ap (λ (one : NamedTally). one.name) (sym (same_Some entry.1 named found)) ∙ sym ((bytes_decides name entry.1.name).0 same)
    by (suc k) there found rest true same =
        absurd (omega (arith, there, same_Some place first (sym is ∙ place_here name entry.1.name (tally_names (named_tallies entries)) first same)))
    by zero there found rest false other =
        absurd (omega (arith, there, (place_range name (with_name (tally_names (named_tallies entries)) name) (first + 1) place (later_place first entry entries name place is other)).0))
    by (suc k) there found rest false other = rest k (later_place first entry entries name place is other) (omega (arith, there)) found

-- the place that an index gives
pub is_place : (index : NameIndex) (entries : List (ℕ × NamedTally)) (name : List ℕ) (place others : ℕ) → AreTallied index entries
    → others ≡ length entries
    → ((names : List (List ℕ)) → AreIndexed index names → length names ≡ others → position_from (bytes_eq name) 0 (with_name names name) ≡ Some place)
    → IsPlaceFrom 0 entries name place
is_place index entries name place others tallied many finds =
    finds (tally_names (named_tallies entries)) tallied.names (omega (arith, names_long entries, many))

-- the place of a name that is not after all names is among them
pub place_within : (entries : List (ℕ × NamedTally)) (name : List ℕ) (place others : ℕ) → IsPlaceFrom 0 entries name place
    → others ≡ length entries → place ≢ others → place < length entries
place_within entries name place others at many differ = by (list_any (bytes_eq name) names) refl
  where
    names : List (List ℕ)
    names = tally_names (named_tallies entries)

    long : length (tally_names (named_tallies entries)) ≡ length entries
    long = names_long entries

    by : (b : Bool) → list_any (bytes_eq name) (tally_names (named_tallies entries)) ≡ b → place < length entries
    by true known = omega (arith, known_place name (tally_names (named_tallies entries)) place known at, long)
    by false missing = absurd (differ (omega (arith, last_place name (tally_names (named_tallies entries)) place missing at, long, many)))

-- a new name has no tally yet
pub none_found : (entries : List (ℕ × NamedTally)) (name : List ℕ) (place : ℕ) → AreNumbered 0 entries → IsPlaceFrom 0 entries name place
    → place ≡ length entries → no_tally ≡ tally_at (named_tallies entries) name
none_found entries name place numbered at behind =
    sym (none_under 0 entries place numbered (omega (arith, behind))) ∙ found_under 0 entries name place numbered at

-- and a known one has that of the entry at its place
pub tally_found : (entries : List (ℕ × NamedTally)) (name : List ℕ) (place : ℕ) (named : NamedTally) → AreNumbered 0 entries → IsPlaceFrom 0 entries name place
    → slice_get (values_of entries) place ≡ Some named → named.tally ≡ tally_at (named_tallies entries) name
tally_found entries name place named numbered at is =
    sym (under_at 0 entries place place named numbered (omega arith) is) ∙ found_under 0 entries name place numbered at

-- a name that is put at its place is put into the rows, and they stay tallied
pub rows_put : (entries : List (ℕ × NamedTally)) (named : NamedTally) (name : List ℕ) (place : ℕ) → AreNumbered 0 entries → IsPlaceFrom 0 entries name place
    → named.name ≡ name → named_tallies (insert_entry nat_eq entries place named) ≡ insert_entry bytes_eq (named_tallies entries) name named.tally
rows_put entries named name place numbered at same =
    put_under 0 entries named place numbered (subst (λ (text : List ℕ). IsPlaceFrom 0 entries text place) (sym same) at)
    ∙ ap (λ (text : List ℕ). insert_entry bytes_eq (named_tallies entries) text named.tally) same

pub still_tallied : (index : NameIndex) (entries : List (ℕ × NamedTally)) (named : NamedTally) (name : List ℕ) (place : ℕ)
    → AreIndexed index (with_name (tally_names (named_tallies entries)) name) → AreNumbered 0 entries → IsPlaceFrom 0 entries name place → named.name ≡ name
    → AreTallied index (insert_entry nat_eq entries place named)
still_tallied index entries named name place indexed numbered at same = record {
  names = subst (AreIndexed index) (sym (ap tally_names (rows_put entries named name place numbered at same) ∙ names_insert (named_tallies entries) name named.tally)) indexed;
  places = still_numbered 0 entries named place numbered (subst (λ (text : List ℕ). IsPlaceFrom 0 entries text place) (sym same) at);
}

-- if a tally is set at an index, it is put at its place
pub set_at_place : (entries : List (ℕ × NamedTally)) (place : ℕ) (named : NamedTally) → AreNumbered 0 entries → place < length entries
    → set_value_at entries place named ≡ insert_entry nat_eq entries place named
set_at_place entries place named numbered within = set_is_put 0 entries place place named numbered (omega arith) within

pub its_name : (entries : List (ℕ × NamedTally)) (name : List ℕ) (place : ℕ) (named : NamedTally) → IsPlaceFrom 0 entries name place
    → slice_get (values_of entries) place ≡ Some named → named.name ≡ name
its_name entries name place named at is = name_at 0 entries name place place named at (omega arith) is
