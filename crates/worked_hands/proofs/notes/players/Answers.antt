-- Each clause is computed, or breaks one condition.
use Rattle.std.specs.Prelude.{◌≡◌, ◌≤◌, ℕ, ◌∷◌, codes, None, Some, replicate, slice_index, slice_index_or}
use Rattle.std.proofs.Common.{ap, arith, lit≤, refl, suc, sym, zero, ◌++◌, ◌∙◌}
use Rattle.std.proofs.lemmas.Fmt.{decimal_digit}
use Rattle.chip_ledger.specs.Fillers.{index-replicate}
use Rattle.hand_canon.proofs.NoteTexts.{none_allowed}
use Rattle.hand_canon.specs.NoteTable.{no_texts}
use Rattle.worked_hands.proofs.BlankNotes.{allowed_with}
use Rattle.worked_hands.proofs.notes.players.Goals as goal
use Rattle.card_set.proofs.Numbers.{by_three}

pub returns-clause-two_names : goal.returns-clause-two_names
returns-clause-two_names c =
    record {
      names = by_three _
          (record { text = (lit≤ tt, lit≤ tt); said = λ same. let byte : ◌≡◌ {A = ℕ} 50 49 = ap (λ text. slice_index text 1) (same ∙ ap (λ digit. codes "p" ++ digit) (decimal_digit 1 (omega arith))) in omega (arith, byte) })
          (record { text = (lit≤ tt, lit≤ tt); said = λ same. let byte : ◌≡◌ {A = ℕ} 80 112 = ap (λ text. slice_index text 0) same in omega (arith, byte) })
          tt;
      no_more_names = nobody_more;
      seats = tt;
      seat_count = tt;
      hand = tt;
      texts = none_allowed no_texts refl;
      year = tt;
      month = tt;
      day = tt;
      date = tt;
      time = tt;
      zone = tt;
    }
  where
    nobody_more : (index : ℕ) → 3 ≤ index → slice_index_or (Some (codes "p2") ∷ Some (codes "P2") ∷ None ∷ None ∷ replicate 6 None) index None ≡ None
    nobody_more (suc (suc index)) late = index-replicate 8 None index
    nobody_more zero late = absurd (omega (arith, late))
    nobody_more (suc zero) late = absurd (omega (arith, late))

pub returns-clause-the_default_name : goal.returns-clause-the_default_name
returns-clause-the_default_name c = λ allowed. (allowed.names 2 (lit≤ tt) (lit≤ tt)).said (ap (λ digit. codes "p" ++ digit) (sym (decimal_digit 2 (omega arith))))

pub returns-clause-a_name_past_the_last_seat : goal.returns-clause-a_name_past_the_last_seat
returns-clause-a_name_past_the_last_seat c = λ allowed. let none = allowed.no_more_names 3 (lit≤ tt) in absurd (cc)

pub returns-clause-seats_from_255 : goal.returns-clause-seats_from_255
returns-clause-seats_from_255 c = allowed_with (Some (255 ∷ 1 ∷ 2 ∷ replicate 7 0)) None None None None None None (record {
  each = by_three _ (lit≤ tt, lit≤ tt) (lit≤ tt, lit≤ tt) (lit≤ tt, lit≤ tt);
  no_more = past_three;
  said = λ same. let number : ◌≡◌ {A = ℕ} 255 1 = ap (λ numbers. slice_index numbers 0) same in omega (arith, number);
}) tt tt tt tt tt tt tt
  where
    past_three : (index : ℕ) → 3 ≤ index → slice_index (255 ∷ 1 ∷ 2 ∷ replicate 7 0) index ≡ 0
    past_three (suc (suc (suc index))) late = index-replicate 7 0 index
    past_three zero late = absurd (omega (arith, late))
    past_three (suc zero) late = absurd (omega (arith, late))
    past_three (suc (suc zero)) late = absurd (omega (arith, late))

pub returns-clause-the_default_numbers : goal.returns-clause-the_default_numbers
returns-clause-the_default_numbers c = λ allowed. allowed.seats.said refl

pub returns-clause-no_seat : goal.returns-clause-no_seat
returns-clause-no_seat c = λ allowed. let within : 1 ≤ 0 = (allowed.seats.each 3 (lit≤ tt) (lit≤ tt)).0 in omega (arith, within)

pub returns-clause-a_seat_of_256 : goal.returns-clause-a_seat_of_256
returns-clause-a_seat_of_256 c = λ allowed. let within : 256 ≤ 255 = (allowed.seats.each 3 (lit≤ tt) (lit≤ tt)).1 in omega (arith, within)

pub returns-clause-a_table_for_ten : goal.returns-clause-a_table_for_ten
returns-clause-a_table_for_ten c = allowed_with None (Some 10) None None None None None tt (record { range = (lit≤ tt, lit≤ tt); said = λ same. let number : ◌≡◌ {A = ℕ} 10 3 = same in omega (arith, number) }) tt tt tt tt tt tt

pub returns-clause-the_default_count : goal.returns-clause-the_default_count
returns-clause-the_default_count c = λ allowed. allowed.seat_count.said refl

pub returns-clause-a_table_for_none : goal.returns-clause-a_table_for_none
returns-clause-a_table_for_none c = λ allowed. let within : 1 ≤ 0 = allowed.seat_count.range.0 in omega (arith, within)
