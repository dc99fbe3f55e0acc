use Rattle.std.proofs.Common.{◌≡◌, ◌∙◌, ◌&&◌, ap, true, length, List, ℕ, string_bytes}
use Rattle.std.proofs.lemmas.Bool.{and_parts}
use Rattle.toml.specs.View.{members_view, view}
use Rattle.first_fault.specs.Digits.{are_digits}
use Rattle.phh_reading.specs.Order.{Entry, is_multi_hand, is_table, placed, placed_all}
use Rattle.phh_reading.proofs.Placing.{Key, IsKeyed, entries_view, insert_placed, insert_keyed}
use Rattle.phh_reading.proofs.NumberOrder.{AreDigits, digits_of_number}
use Rattle.phh_reading.proofs.order.values_in_order.Goals as goal

pub loop-key-preserved : goal.loop-key-preserved
loop-key-preserved c =
    let l = c.loop-key in
    let name = string_bytes c.in-Some.key.now in
    let number = c.without_zeros-digits.result in
    let text = c.as_bytes-text.result in
    let k : Key = (length number.now, number, text) in
    let text_is : text.now ≡ name = c.as_bytes-text.ensures.value ∙ c.as_str.ensures.value in
    let hands : (are_digits name && is_table (view c.in-Some.value.now)) && is_multi_hand (members_view c.next.new.self) ≡ true = rw c.in-Some.ensures.steps at l.invariant.hands in
    let parts = and_parts (are_digits name && is_table (view c.in-Some.value.now)) (is_multi_hand (members_view c.next.new.self)) hands in
    let digits : AreDigits text.now = rw text_is (digits_of_number name (and_parts (are_digits name) (is_table (view c.in-Some.value.now)) parts.0).0) in
    let is : IsKeyed (k, c.in-Some.value) = (ap length c.without_zeros-digits.ensures, c.without_zeros-digits.ensures, digits) in
    let step : entries_view c.try_insert.new.self.entries ≡ placed name (view c.in-Some.value.now) (entries_view l.hands.entries) =
    ap entries_view c.in_ok-try_insert.ensures.entries
    ∙ insert_placed l.hands.entries k c.in-Some.value is l.invariant.keyed
    ∙ ap (λ (t : List ℕ). placed t (view c.in-Some.value.now) (entries_view l.hands.entries)) text_is in
    let left = rw c.in-Some.ensures.steps at l.invariant.placed in
    record {
      can_next = tt;
      is_finite = tt;
      keyed = rw c.in_ok-try_insert.ensures.entries (insert_keyed l.hands.entries k c.in-Some.value is l.invariant.keyed);
      hands = parts.1;
      placed = ap (λ (hs : List Entry). placed_all hs (members_view c.next.new.self)) step ∙ left;
    }
