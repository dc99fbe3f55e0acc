-- What is put into rows and found there.
use Rattle.std.proofs.Common.{◌≡◌, ℕ, Bool, true, false, cond, ◌||◌, List, [], ◌∷◌, ◌++◌, Option, Some, unwrap_or, bytes_eq, refl, sym, ap, ◌∙◌, true≢false}
use Rattle.std.specs.Cmp.Lexicographic.{bytes_decides}
use Rattle.std.specs.List.{list_any}
use Rattle.std.specs.Map.{lookup}
use Rattle.indexmap.specs.IndexMap.{insert_entry}
use Rattle.printed_hands.specs.Names.{with_name}
use Rattle.printed_hands.specs.Report.{Seated}
use Rattle.printed_hands.specs.Tallies.{no_tally, tally_at, tally_names, with_play, with_seat}
use Rattle.printed_hands.specs.declared.tally.Tally.{Tally}
use Rattle.card_set.proofs.Bytes.{same_key}
use Rattle.card_set.proofs.Lists.{longer_either}

found_or : (b : Bool) (tally other : Tally) (rest : Option Tally) → unwrap_or (cond b (Some tally) rest) other ≡ cond b tally (unwrap_or rest other)
found_or true tally other rest = refl
found_or false tally other rest = refl

-- a row in front
pub at_front : (row : List ℕ × Tally) (rows : List (List ℕ × Tally)) (asked : List ℕ)
    → tally_at (row ∷ rows) asked ≡ cond (bytes_eq asked row.0) row.1 (tally_at rows asked)
at_front row rows asked = found_or (bytes_eq asked row.0) row.1 no_tally (lookup (bytes_eq asked) rows)

chosen_twice : (b : Bool) (x y z : Tally) → cond b x z ≡ cond b x (cond b y z)
chosen_twice true x y z = refl
chosen_twice false x y z = refl

swapped : (p q : Bool) (x y z : Tally) → (p ≡ true → q ≡ true → y ≡ x) → cond p y (cond q x z) ≡ cond q x (cond p y z)
swapped true true x y z same = same refl refl
swapped true false x y z same = refl
swapped false q x y z same = refl

-- a name that got a tally has it, and the others have theirs
pub at_insert : (rows : List (List ℕ × Tally)) (name : List ℕ) (tally : Tally) (asked : List ℕ)
    → tally_at (insert_entry bytes_eq rows name tally) asked ≡ cond (bytes_eq asked name) tally (tally_at rows asked)
at_insert [] name tally asked = at_front (name, tally) [] asked
at_insert (row ∷ rows) name tally asked = by (bytes_eq name row.0) refl (at_insert rows name tally asked)
  where
    by : (b : Bool) → bytes_eq name row.0 ≡ b
        → tally_at (insert_entry bytes_eq rows name tally) asked ≡ cond (bytes_eq asked name) tally (tally_at rows asked)
        → tally_at (cond b ((row.0, tally) ∷ rows) (row ∷ insert_entry bytes_eq rows name tally)) asked
        ≡ cond (bytes_eq asked name) tally (tally_at (row ∷ rows) asked)
    by true same later =
        let name_is : name ≡ row.0 = (bytes_decides name row.0).0 same in
        at_front (row.0, tally) rows asked
        ∙ chosen_twice (bytes_eq asked row.0) tally row.1 (tally_at rows asked)
        ∙ (λ i. cond (bytes_eq asked (sym name_is i)) tally (sym (at_front row rows asked) i))
    by false other later =
        at_front row (insert_entry bytes_eq rows name tally) asked
        ∙ ap (λ rest. cond (bytes_eq asked row.0) row.1 rest) later
        ∙ swapped (bytes_eq asked row.0) (bytes_eq asked name) tally row.1 (tally_at rows asked) (λ first second. absurd (true≢false (sym (same_key asked name row.0 first second) ∙ other)))
        ∙ ap (λ rest. cond (bytes_eq asked name) tally rest) (sym (at_front row rows asked))

-- a name that got a tally stays at its place, or comes last
pub names_insert : (rows : List (List ℕ × Tally)) (name : List ℕ) (tally : Tally)
    → tally_names (insert_entry bytes_eq rows name tally) ≡ with_name (tally_names rows) name
names_insert [] name tally = refl
names_insert (row ∷ rows) name tally = by (bytes_eq name row.0) (names_insert rows name tally)
  where
    by : (b : Bool)
        → tally_names (insert_entry bytes_eq rows name tally) ≡ with_name (tally_names rows) name
        → tally_names (cond b ((row.0, tally) ∷ rows) (row ∷ insert_entry bytes_eq rows name tally))
        ≡ cond (b || list_any (bytes_eq name) (tally_names rows)) (tally_names (row ∷ rows)) (tally_names (row ∷ rows) ++ name ∷ [])
    by true later = refl
    by false later =
        ap (λ rest. row.0 ∷ rest) later
        ∙ longer_either (list_any (bytes_eq name) (tally_names rows)) row.0 (tally_names rows) (tally_names rows ++ name ∷ [])

-- a tally with one more seat, if the seat has the name
abbrev pub step : ℕ → List ℕ → Tally → Seated → Tally
step number asked tally seat = cond (bytes_eq asked seat.name) (with_seat number tally seat) tally

same_seat : (number : ℕ) (rows : List (List ℕ × Tally)) (seat : Seated) (asked : List ℕ) (b : Bool) → bytes_eq asked seat.name ≡ b
    → cond b (with_seat number (tally_at rows seat.name) seat) (tally_at rows asked) ≡ cond b (with_seat number (tally_at rows asked) seat) (tally_at rows asked)
same_seat number rows seat asked true same = ap (λ name. with_seat number (tally_at rows name) seat) (sym ((bytes_decides asked seat.name).0 same))
same_seat number rows seat asked false other = refl

-- a seat adds to the tally of its name alone
pub at_row : (number : ℕ) (rows : List (List ℕ × Tally)) (seat : Seated) (asked : List ℕ)
    → tally_at (with_play number rows seat) asked ≡ step number asked (tally_at rows asked) seat
at_row number rows seat asked =
    at_insert rows seat.name (with_seat number (tally_at rows seat.name) seat) asked
    ∙ same_seat number rows seat asked (bytes_eq asked seat.name) refl
