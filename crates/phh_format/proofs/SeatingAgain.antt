-- Who sat where reads back as it was written.
use Rattle.std.proofs.Common.{◌≡◌, ℕ, zero, suc, ◌+◌, ◌-◌, ◌≤◌, ◌<◌, Bool, true, false, ◌==◌, cond, bytes_eq, decimal, List, [], ◌∷◌, length, map, take, get_or, replicate, Option, Some, None, IfSome, option_map, option_and_then, is_some, unwrap_or, Ok, refl, ap, subst, ◌∙◌, arith, inl, inr, true≢false}
use Rattle.std.specs.List.{list_any, range_with_len}
use Rattle.std.proofs.lemmas.Bool.{cases_lt, eq-eqb, le-leb, ne_eqb}
use Rattle.std.proofs.lemmas.Fmt.{length-decimal-le}
use Rattle.std.proofs.lemmas.List.{get_or_past, length-map, length-take-le}
use Rattle.std.proofs.lemmas.List.FromFn.{length-map-range_with_len}
use Rattle.std.proofs.lemmas.Slice.Eq.{bytes_eq-Decides}
use Rattle.toml.specs.Data.{string}
use Rattle.first_fault.specs.Reading.{each_from, or_none}
use Rattle.first_fault.specs.declared.limits.TheConstants.{MOST_TEXT_BYTES}
use Rattle.hand_canon.specs.declared.notes.Notes.{Notes}
use Rattle.hand_canon.specs.AllowedNotes.{AreSeatNumbers, IsName, IsSeatCount, IsWithin, name_written, non_default_seats}
use Rattle.phh_reading.specs.declared.field_fault.FieldKey.TheVariants as keys
use Rattle.phh_reading.specs.declared.field_fault.FieldLocation.{FieldLocation}
use Rattle.phh_reading.specs.Fields.{item_place, items_said, key_place, list_said, number_said, text_said}
use Rattle.phh_reading.specs.NoteFields.{names_said, note_said, seat_count_said, seats_said, text_note_said}
use Rattle.phh_format.specs.HandFields.{names_field, number_field, numbers, texts}
use Rattle.phh_format.proofs.RowsAgain.{items_again, listed_again, number_data}
use Rattle.phh_format.proofs.NotesAgain.{note_again, number_again}
use Rattle.card_set.proofs.Bytes.{different_bytes}
use Rattle.card_set.proofs.Entries.{taken_within}
use Rattle.card_set.proofs.Options.{none_anyway}
use Rattle.chip_ledger.specs.SeatsSaid.{default_name}

-- the name that a seat has, if it has one
abbrev pub name_at : Notes → ℕ → Option (List ℕ)
name_at notes seat = get_or notes.names (seat - 1) None

-- a name that is the default counts as none
default_again : (seat : ℕ) (place : FieldLocation) → seat ≤ 10 → note_said (default_name seat) place (default_name seat) ≡ Ok None
unfolding note_said
default_again seat place few =
    let short : length (decimal seat) ≤ 20 = length-decimal-le 20 seat (omega arith) (omega (arith, few)) (omega (arith, few)) in
    let usual : bytes_eq (default_name seat) (default_name seat) ≡ true = (bytes_eq-Decides (default_name seat) (default_name seat)).1 refl in
    rw (le-leb (length (default_name seat)) MOST_TEXT_BYTES (omega (arith, short)), usual) (ap (λ (found : Option (List ℕ)). Ok found) (none_anyway (length (default_name seat) == 0) (default_name seat)))

one_name : (seat : ℕ) (place : FieldLocation) (said : Option (List ℕ)) → seat ≤ 10 → IfSome said (IsName seat) → text_note_said (default_name seat) place (string (unwrap_or said (default_name seat))) ≡ Ok said
unfolding text_note_said text_said
one_name seat place None few is = default_again seat place few
one_name seat place (Some name) few is = note_again (default_name seat) name place is.text (different_bytes name (default_name seat) is.said)

module _ (notes : Notes) (count : ℕ) (few : count ≤ 10) (named : (seat : ℕ) → 1 ≤ seat → seat ≤ count → IfSome (name_at notes seat) (IsName seat)) where
  each_name : (n c : ℕ) → n + c ≤ count
      → each_from (λ m value. text_note_said (default_name m) (item_place keys.Players m) value) (n + 1) (map string (map (name_written notes) (range_with_len (n + 1) c))) ≡ Ok (map (name_at notes) (range_with_len (n + 1) c))
  unfolding each_from
  each_name n zero within = refl
  each_name n (suc c) within =
      rw (
        one_name (n + 1) (item_place keys.Players (n + 1)) (name_at notes (n + 1)) (omega (arith, within, few)) (named (n + 1) (omega arith) (omega (arith, within))),
        each_name (n + 1) c (omega (arith, within)),
      ) refl

  items_named : items_said count keys.Players (texts (map (name_written notes) (range_with_len 1 count))) ≡ Ok (map string (map (name_written notes) (range_with_len 1 count)))
  unfolding items_said list_said
  items_named =
      let all = map string (map (name_written notes) (range_with_len 1 count)) in
      let long : length all ≡ count = length-map (map (name_written notes) (range_with_len 1 count)) string ∙ length-map-range_with_len (name_written notes) 1 count in
      rw (listed_again all, eq-eqb (length all) count long) refl

  -- the names of players, if none is noted
  none_named : (some : Bool) → list_any is_some (take count notes.names) ≡ some → names_said count (cond some (Some (texts (map (name_written notes) (range_with_len 1 count)))) None) ≡ Ok (map (name_at notes) (range_with_len 1 count))
  unfolding names_said
  none_named true is = rw items_named (each_name 0 count (omega arith))
  none_named false is = ap (λ names. Ok names) (all_none 0 count (λ k within. not_said count notes.names is k (omega (arith, within))))
    where
      not_said : (n : ℕ) (names : List (Option (List ℕ))) → list_any is_some (take n names) ≡ false → (k : ℕ) → k < n → get_or names k None ≡ None
      not_said zero names none k within = absurd (omega (arith, within))
      not_said (suc n) [] none k within = refl
      not_said (suc n) (None ∷ names) none zero within = refl
      not_said (suc n) (None ∷ names) none (suc k) within = not_said n names none k (omega (arith, within))
      not_said (suc n) (Some name ∷ names) none k within = absurd (true≢false none)

      all_none : (n c : ℕ) → ((k : ℕ) → k < n + c → get_or notes.names k None ≡ None) → replicate c None ≡ map (name_at notes) (range_with_len (n + 1) c)
      all_none n zero none = refl
      all_none n (suc c) none =
          let here : name_at notes (n + 1) ≡ None = subst (λ (k : ℕ). get_or notes.names k None ≡ None) (omega arith) (none n (omega arith)) in
          rw here (ap (λ (names : List (Option (List ℕ))). None ∷ names) (all_none (n + 1) c (λ k within. none k (omega (arith, within)))))

  pub names_again : names_said count (names_field count notes) ≡ Ok (map (name_at notes) (range_with_len 1 count))
  names_again = none_named (list_any is_some (take count notes.names)) refl

-- the numbers of seats
each_number : (n : ℕ) (all : List ℕ) → ((k : ℕ) → k < length all → IsWithin 1 255 (get_or all k 0)) → each_from (λ m value. number_said 1 255 (item_place keys.Seats m) value) n (number_data all) ≡ Ok all
unfolding each_from
each_number n [] each = refl
each_number n (number ∷ rest) each =
    rw (number_again 1 255 number (item_place keys.Seats n) (each 0 (omega arith)), each_number (n + 1) rest (λ k within. each (suc k) (omega (arith, within)))) refl

pub seats_again : (count : ℕ) (said : Option (List ℕ)) → 1 ≤ count → IfSome said (AreSeatNumbers count) → or_none (seats_said count) (option_map (λ seats. numbers (take count seats)) said) ≡ Ok (option_and_then (λ seats. non_default_seats count (take count seats)) said)
unfolding seats_said
seats_again count None some are = refl
seats_again count (Some seats) some are =
    let enough : count ≤ length seats = long in
    let whole : length (take count seats) ≡ count = length-take-le count seats enough in
    let each = taken_within count seats (IsWithin 1 255) enough (λ k within. subst (λ (n : ℕ). IsWithin 1 255 (get_or seats n 0)) (omega arith) (are.each (k + 1) (omega arith) (omega (arith, within)))) in
    rw (items_again count keys.Seats (take count seats) whole, each_number 1 (take count seats) each) refl
  where
    long : count ≤ length seats
    long = elim (cases_lt (length seats) count) [
      | inl short ↦
          let last = are.each count some (omega arith) in
          let none = get_or_past seats (count - 1) 0 (omega (arith, short)) in
          absurd (omega (arith, last.0, none))
      | inr enough ↦ enough
    ]

pub seat_count_again : (count : ℕ) (said : Option ℕ) → IfSome said (IsSeatCount count) → or_none (seat_count_said count) (number_field said) ≡ Ok said
unfolding seat_count_said
seat_count_again count None is = refl
seat_count_again count (Some number) is = rw (number_again 1 255 number (key_place keys.SeatCount) is.range, ne_eqb number count is.said) refl
