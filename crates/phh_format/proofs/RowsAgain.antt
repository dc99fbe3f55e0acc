-- Lists of numbers that were written read back as these numbers.
use Rattle.std.proofs.Common.{◌≡◌, ℕ, ◌+◌, ◌≤◌, List, [], ◌∷◌, length, map, get_or, pos, Ok, refl, ap, subst, ◌∙◌, arith}
use Rattle.std.specs.List.{AllByRecursion}
use Rattle.std.proofs.lemmas.Bool.{le-leb, eq-eqb}
use Rattle.std.proofs.lemmas.List.{length-map, length-take}
use Rattle.toml.specs.Data.{Data, integer}
use Rattle.toml.specs.View.{items_of}
use Rattle.chip_ledger.specs.declared.seat_row.SeatRow.{SeatRow}
use Rattle.chip_ledger.specs.SeatRow.{amount_of, amounts_in}
use Rattle.first_fault.specs.Reading.{each_from}
use Rattle.phh_reading.specs.declared.field_fault.FieldKey.{FieldKey}
use Rattle.phh_reading.specs.declared.field_fault.FieldLocation.{FieldLocation}
use Rattle.phh_reading.specs.Fields.{amount_said, item_place, items_said, list_said, listed}
use Rattle.phh_reading.specs.Rows.{amounts_said, row_said}
use Rattle.phh_format.specs.HandFields.{numbers}
use Rattle.card_set.proofs.Entries.{each_taken}
use Rattle.hand_canon.specs.AllowedNotes.{IsWithin}

-- the items of a list, in order
pub listed_again : (all : List Data) → listed (items_of all) ≡ all
listed_again [] = refl
listed_again (item ∷ rest) = ap (λ (items : List Data). item ∷ items) (listed_again rest)

-- numbers as data
abbrev pub number_data : List ℕ → List Data
number_data all = map (λ number. integer (pos number)) all

pub amount_again : (least most number : ℕ) (place : FieldLocation) → least ≤ number → number ≤ most → amount_said least most place (integer (pos number)) ≡ Ok number
unfolding amount_said
amount_again least most number place low high = rw (le-leb least number low, le-leb number most high) refl

amounts_from : (least most : ℕ) (key : FieldKey) (n : ℕ) (all : List ℕ) → AllByRecursion (IsWithin least most) all
    → each_from (λ n value. amount_said least most (item_place key n) value) n (number_data all) ≡ Ok all
unfolding each_from
amounts_from least most key n [] each = refl
amounts_from least most key n (number ∷ rest) each =
    rw (amount_again least most number (item_place key n) each.0.0 each.0.1, amounts_from least most key (n + 1) rest each.1) refl

-- amounts that were written
pub amounts_again : (least most : ℕ) (key : FieldKey) (all : List ℕ) → AllByRecursion (IsWithin least most) all → amounts_said least most key (number_data all) ≡ Ok all
amounts_again least most key all each = amounts_from least most key 1 all each

pub list_again : (place : FieldLocation) (all : List ℕ) → list_said place (numbers all) ≡ Ok (number_data all)
unfolding list_said
list_again place all = ap (λ items. Ok items) (listed_again (number_data all))

pub items_again : (seats : ℕ) (key : FieldKey) (all : List ℕ) → length all ≡ seats → items_said seats key (numbers all) ≡ Ok (number_data all)
unfolding items_said
items_again seats key all count = rw (list_again (record { key = key; item = 0 }) all, eq-eqb (length (number_data all)) seats (length-map all (λ number. integer (pos number)) ∙ count)) refl

-- a row that was written
pub row_again : (seats most : ℕ) (key : FieldKey) (all : List ℕ) → length all ≡ seats → AllByRecursion (IsWithin 0 most) all → row_said seats most key (numbers all) ≡ Ok all
unfolding row_said
row_again seats most key all count each = rw (items_again seats key all count) (amounts_again 0 most key all each)

-- what holds for the amount of each seat holds for the amounts of the row
pub each_amount : (P : ℕ → Type 0) (row : SeatRow) → ((seat : ℕ) → 1 ≤ seat → seat ≤ row.seats → P (amount_of row seat)) → AllByRecursion P (amounts_in row)
each_amount P row each =
    each_taken P row.seats row.amounts (omega (arith, row.full, row.greatest))
    (λ k within. subst (λ (n : ℕ). P (get_or row.amounts n 0)) (omega arith) (each (k + 1) (omega arith) (omega (arith, within))))

-- as many amounts as seats
pub amount_count : (row : SeatRow) → length (amounts_in row) ≡ row.seats
amount_count row = omega (arith, length-take row.seats row.amounts, row.full, row.greatest)
