-- Rows of different names are those that are found by them, so that their lines are the lines of
-- the names.
use Rattle.std.proofs.Common.{◌≡◌, ℕ, Bool, false, cond, List, [], ◌∷◌, map, zero, suc, slice_get, flat_map, Some, bytes_eq, refl, sym, ap, subst, ◌∙◌}
use Rattle.std.specs.List.{AllByRecursion, list_any}
use Rattle.std.specs.Option.{option_map, option_to_list}
use Rattle.std.proofs.lemmas.Bool.{or_parts}
use Rattle.std.proofs.lemmas.List.{append-nil}
use Rattle.std.proofs.lemmas.Option.{same_Some}
use Rattle.card_set.proofs.Bytes.{same_bytes}
use Rattle.card_set.proofs.FlatMaps.{flat_map-map}
use Rattle.printed_hands.proofs.Distinct.{AreDistinct, bytes_flip, distinct_fold}
use Rattle.printed_hands.specs.Report.{Hand, seats_of_all}
use Rattle.printed_hands.specs.Tallies.{AreWithin, IsRowWithin, MOST_SEATS, named_tallies, named_tally_line, tally_at, tally_line, tally_names, with_hands}
use Rattle.printed_hands.specs.declared.tally.NamedTally.{NamedTally}
use Rattle.printed_hands.specs.declared.tally.Tally.{Tally}
use Rattle.printed_hands.proofs.Named.{names_hands}
use Rattle.printed_hands.proofs.ReportRows.{at_front}

-- a name of rows with its tally
abbrev row_found : List (List ℕ × Tally) → List ℕ → (List ℕ × Tally)
row_found rows name = (name, tally_at rows name)

-- rows of different names are found by them
rows_found : (rows : List (List ℕ × Tally)) → AreDistinct (tally_names rows) → rows ≡ map (row_found rows) (tally_names rows)
rows_found [] distinct = refl
rows_found (row ∷ rows) distinct =
    let here : tally_at (row ∷ rows) row.0 ≡ row.1 = at_front row rows row.0 ∙ ap (λ (b : Bool). cond b row.1 (tally_at rows row.0)) (same_bytes row.0) in
    ap (λ (tally : Tally). (row.0, tally) ∷ rows) (sym here)
    ∙ ap (λ l. row_found (row ∷ rows) row.0 ∷ l) (rows_found rows distinct.1 ∙ passed (tally_names rows) distinct.0)
  where
    passed : (names : List (List ℕ)) → list_any (bytes_eq row.0) names ≡ false → map (row_found rows) names ≡ map (row_found (row ∷ rows)) names
    passed [] none = refl
    passed (name ∷ names) none =
        let parts = or_parts (bytes_eq row.0 name) (list_any (bytes_eq row.0) names) none in
        let other : tally_at (row ∷ rows) name ≡ tally_at rows name = at_front row rows name ∙ ap (λ (b : Bool). cond b row.1 (tally_at rows name)) (bytes_flip row.0 name false parts.0) in
        ap (λ (tally : Tally). (name, tally) ∷ map (row_found rows) names) (sym other)
        ∙ ap (λ l. row_found (row ∷ rows) name ∷ l) (passed names parts.1)

-- the names of all hands are different
distinct_rows : (hands : List Hand) → AreDistinct (tally_names (with_hands 1 [] hands))
distinct_rows hands = subst AreDistinct (sym (names_hands 1 [] hands)) (distinct_fold [] (map (λ seat. seat.name) (seats_of_all hands)) tt)

-- the lines of their rows are those of the names
pub lines_by_name : (hands : List Hand)
    → flat_map named_tally_line (with_hands 1 [] hands) ≡ flat_map (tally_line (with_hands 1 [] hands)) (tally_names (with_hands 1 [] hands))
lines_by_name hands =
    let rows = with_hands 1 [] hands in
    ap (flat_map named_tally_line) (rows_found rows (distinct_rows hands)) ∙ flat_map-map named_tally_line (row_found rows) (tally_names rows)

-- and each row is of no more seats than all hands have
each_within : (rows : List (List ℕ × Tally)) (names : List (List ℕ)) → AreWithin MOST_SEATS rows → AllByRecursion IsRowWithin (map (row_found rows) names)
each_within rows [] within = tt
each_within rows (name ∷ names) within = (within name, each_within rows names within)

pub rows_within : (hands : List Hand) → AreWithin MOST_SEATS (with_hands 1 [] hands) → AllByRecursion IsRowWithin (with_hands 1 [] hands)
rows_within hands within =
    let rows = with_hands 1 [] hands in
    subst (AllByRecursion IsRowWithin) (sym (rows_found rows (distinct_rows hands))) (each_within rows (tally_names rows) within)

-- the row at an index
row_here : (entries : List (ℕ × NamedTally)) (index : ℕ) → slice_get (named_tallies entries) index ≡ option_map (λ entry. (entry.1.name, entry.1.tally)) (slice_get entries index)
row_here [] zero = refl
row_here [] (suc index) = refl
row_here (entry ∷ entries) zero = refl
row_here (entry ∷ entries) (suc index) = row_here entries index

-- its line
pub line_here : (entries : List (ℕ × NamedTally)) (index place : ℕ) (named : NamedTally) → slice_get entries index ≡ Some (place, named)
    → flat_map named_tally_line (option_to_list (slice_get (named_tallies entries) index)) ≡ named_tally_line (named.name, named.tally)
line_here entries index place named at =
    ap (λ row. flat_map named_tally_line (option_to_list row)) (row_here entries index ∙ ap (option_map (λ entry. (entry.1.name, entry.1.tally))) at)
    ∙ append-nil (named_tally_line (named.name, named.tally))

-- and that it is of no more seats
pub within_here : (entries : List (ℕ × NamedTally)) (index place : ℕ) (named : NamedTally) → slice_get entries index ≡ Some (place, named)
    → AllByRecursion IsRowWithin (named_tallies entries) → IsRowWithin (named.name, named.tally)
within_here [] zero place named at within = absurd (cc (at))
within_here [] (suc index) place named at within = absurd (cc (at))
within_here (entry ∷ entries) zero place named at within =
    subst (λ (one : ℕ × NamedTally). IsRowWithin (one.1.name, one.1.tally)) (same_Some entry (place, named) at) within.0
within_here (entry ∷ entries) (suc index) place named at within = within_here entries index place named at within.1
