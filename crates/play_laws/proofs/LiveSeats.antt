-- A move leaves all live seats live, or all but one.
use Rattle.std.proofs.Common.{◌≡◌, ℕ, ◌+◌, ◌<◌, ◌≤◌, Bool, true, false, ◌&&◌, ◌||◌, ◌==◌, not, inl, inr, ◌⊎◌, List, ◌∷◌, nat_le, refl, sym, arith}
use Rattle.std.specs.List.{list_any}
use Rattle.std.proofs.lemmas.Bool.{true≢false, leb-false}
use Rattle.play_event.specs.declared.setup.Setup.{Setup}
use Rattle.play_event.specs.Past.{Move, is_folding}
use Rattle.play_event.specs.Seats.{is_live, live_count, all_seats}
use Rattle.card_set.proofs.Counting.{counts_either, count_one}

live_or_folded : (folds same folded : Bool) → not folded ≡ true → (not ((folds && same) || folded) ≡ true) ⊎ (same ≡ true)
live_or_folded folds true folded is = inr refl
live_or_folded true false false is = inl refl
live_or_folded false false false is = inl refl
live_or_folded folds false true is = absurd (true≢false (sym is))

pub live_less : (setup : Setup) (move : Move) (moves : List Move) → live_count setup moves ≤ live_count setup (move ∷ moves) + 1
live_less setup move moves =
    let folded : ℕ → Bool = λ seat. list_any (λ (other : Move). is_folding other.act && (other.seat == seat)) moves in
    omega (arith, counts_either (is_live moves) (is_live (move ∷ moves)) (λ seat. move.seat == seat) (λ seat is. live_or_folded (is_folding move.act) (move.seat == seat) (folded seat) is) (all_seats setup), count_one move.seat 1 setup.stacks.seats)

-- if two seats are live, one is
pub one_of_several : (setup : Setup) (moves : List Move) → nat_le (live_count setup moves) 1 ≡ false → 1 ≤ live_count setup moves
one_of_several setup moves more = let two : 1 < live_count setup moves = leb-false (live_count setup moves) 1 more in omega (arith, two)

-- and one is left after a move
pub some_left : (setup : Setup) (move : Move) (moves : List Move) → nat_le (live_count setup moves) 1 ≡ false → 1 ≤ live_count setup (move ∷ moves)
some_left setup move moves more =
    let two : 1 < live_count setup moves = leb-false (live_count setup moves) 1 more in
    omega (arith, two, live_less setup move moves)
