-- Rows by name, with one more at the end.
use Rattle.std.proofs.Common.{◌≡◌, ◌||◌, Bool, true, false, if◌then◌else◌, List, [], ◌∷◌, ◌++◌, Option, Some, None, is_some, refl, ap, subst, ◌∙◌}
use Rattle.std.specs.Prelude.{find}
use Rattle.std.specs.Bool.{Decides}
use Rattle.std.specs.Str.{bytes_eq}
use Rattle.std.proofs.lemmas.Slice.Eq.{bytes_eq-Decides}
use Rattle.clap.specs.Walk.{Row, Text, at_row, has_row}

-- the first row of a name
abbrev pub row_named : Text → List Row → Option Row
row_named name rows = find (λ row. bytes_eq row.id name) rows

-- a name has a row if and only if its first row is found
pub has_row-named : (name : Text) (rows : List Row) → has_row name rows ≡ is_some (row_named name rows)
has_row-named name [] = refl
has_row-named name (row ∷ rows) = go (bytes_eq row.id name) (has_row-named name rows)
  where
    go : (b : Bool) → has_row name rows ≡ is_some (row_named name rows)
        → (b || has_row name rows) ≡ is_some (if b then Some row else row_named name rows)
    go true e = refl
    go false e = e

end-step : (b : Bool) (row : Row) (rows rest missing changed : List Row) (found : Option Row) → (if b then Some row else found) ≡ None
    → (found ≡ None → rest ≡ rows ++ missing) → (if b then changed else row ∷ rest) ≡ row ∷ (rows ++ missing)
end-step true row rows rest missing changed found e more = cc
end-step false row rows rest missing changed found e more = ap (λ (others : List Row). row ∷ others) (more e)

-- if no row has the name, the new row comes last
pub at_row-end : (name : Text) (change : Row → List Row) (missing rows : List Row) → row_named name rows ≡ None
    → at_row name change missing rows ≡ rows ++ missing
at_row-end name change missing [] e = refl
at_row-end name change missing (row ∷ rows) e =
    end-step (bytes_eq row.id name) row rows (at_row name change missing rows) missing (change row ++ rows) (row_named name rows) e
    (at_row-end name change missing rows)

other-step : (b : Bool) (row : Row) (found after : Option Row) → after ≡ found → (if b then Some row else after) ≡ (if b then Some row else found)
other-step true row found after e = refl
other-step false row found after e = e

-- a row of another name at the end changes nothing for a name
row_named-other : (name : Text) (rows : List Row) (last : Row) → bytes_eq last.id name ≡ false
    → row_named name (rows ++ last ∷ []) ≡ row_named name rows
row_named-other name [] last e = rw e refl
row_named-other name (row ∷ rows) last e =
    other-step (bytes_eq row.id name) row (row_named name rows) (row_named name (rows ++ last ∷ [])) (row_named-other name rows last e)

new-step : (b : Bool) (row last : Row) (found after : Option Row) → (if b then Some row else found) ≡ None
    → (found ≡ None → after ≡ Some last) → (if b then Some row else after) ≡ Some last
new-step true row last found after e more = cc
new-step false row last found after e more = more e

-- a name without a row has a row of this name at the end
row_named-end : (name : Text) (rows : List Row) (last : Row) → bytes_eq last.id name ≡ true → row_named name rows ≡ None
    → row_named name (rows ++ last ∷ []) ≡ Some last
row_named-end name [] last is e = rw is refl
row_named-end name (row ∷ rows) last is e = new-step (bytes_eq row.id name) row last (row_named name rows)
    (row_named name (rows ++ last ∷ [])) e (row_named-end name rows last is)

-- names, each with its row if it has one
abbrev pub Named : Type 0
Named = List (Text × Option Row)

-- rows hold what is named
abbrev pub Hold : Named → List Row → Type 0
Hold [] rows = Unit {0}
Hold (named ∷ others) rows = (row_named named.0 rows ≡ named.1) × Hold others rows

-- one more row under its name
abbrev pub given : Row → Named → Named
given row [] = []
given row (named ∷ others) = (named.0, if bytes_eq row.id named.0 then Some row else named.1) ∷ given row others

-- rows with a row of a new name at the end hold it besides
pub hold_given : (named : Named) (rows : List Row) (row : Row) → row_named row.id rows ≡ None → Hold named rows
    → Hold (given row named) (rows ++ row ∷ [])
hold_given [] rows row none held = _
hold_given (named ∷ others) rows row none held =
    (go (bytes_eq row.id named.0) (bytes_eq-Decides row.id named.0) refl, hold_given others rows row none held.1)
  where
    go : (b : Bool) → Decides b (row.id ≡ named.0) → bytes_eq row.id named.0 ≡ b
        → row_named named.0 (rows ++ row ∷ []) ≡ (if b then Some row else named.1)
    go true d is = row_named-end named.0 rows row is (subst (λ (name : Text). row_named name rows ≡ None) (d.0 refl) none)
    go false d is = row_named-other named.0 rows row is ∙ held.0
