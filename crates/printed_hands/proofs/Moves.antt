-- One more move: what its seat has put in after it, and where the trace has it.
use Rattle.std.proofs.Common.{◌≡◌, ℕ, ◌+◌, ◌-◌, ◌≤◌, List, [], ◌∷◌, ◌++◌, length, Some, refl, sym, subst, ap, ◌∙◌, append_assoc, arith, inl, inr, slice_get}
use Rattle.std.proofs.lemmas.Bool.{cases_eq, eq-eqb, ne_eqb}
use Rattle.std.proofs.lemmas.List.{append-nil}
use Rattle.chip_ledger.specs.SeatRow.{amount_of}
use Rattle.chip_ledger.specs.declared.seat_row.SeatRow.{SeatRow}
use Rattle.play_event.specs.CanonScript.{plain_move}
use Rattle.play_event.specs.Chips.{chips_put}
use Rattle.play_event.specs.Past.{Move}
use Rattle.play_event.specs.Played.{move_said}
use Rattle.play_event.specs.Trace.{TracedMove, traced_move, traced_moves}
use Rattle.play_event.specs.declared.played.Move as rows
use Rattle.play_event.specs.declared.setup.Setup.{Setup}
use Rattle.printed_hands.specs.Steps.{HasPut}
use Rattle.card_set.proofs.Entries.{at_length}
use Rattle.play_event.proofs.TracedMoves.{as_many}

-- the chips of the seat that moves, and those of another
pub own_more : (setup : Setup) (moves : List Move) (move : Move) (seat : ℕ) → move.seat ≡ seat → chips_put setup (move ∷ moves) seat ≡ chips_put setup moves seat + (move.to - move.from)
own_more setup moves move seat same = rw (eq-eqb move.seat seat same) (omega arith)

pub other_same : (setup : Setup) (moves : List Move) (move : Move) (seat : ℕ) → (move.seat ≡ seat → ⊥) → chips_put setup (move ∷ moves) seat ≡ chips_put setup moves seat
other_same setup moves move seat differ = rw (ne_eqb move.seat seat differ) (omega arith)

-- a row that the move's chips were added to
pub has_put_more : (setup : Setup) (moves : List Move) (moved : rows.Move) (put new : SeatRow) → HasPut setup moves put
    → new.seats ≡ put.seats
    → amount_of new moved.seat.number ≡ amount_of put moved.seat.number + (moved.to - moved.from)
    → ((n : ℕ) → 1 ≤ n → (n ≡ moved.seat.number → ⊥) → amount_of new n ≡ amount_of put n)
    → HasPut setup (plain_move (move_said moved) ∷ moves) new
has_put_more setup moves moved put new has seats own others =
    record {
      seats = seats ∙ has.seats;
      amounts = λ n low high. elim (cases_eq moved.seat.number n) [
        | inl same ↦ subst (λ (k : ℕ). amount_of new k ≡ chips_put setup (plain_move (move_said moved) ∷ moves) k) same
            (own ∙ ap (λ (chips : ℕ). chips + (moved.to - moved.from)) (has.amounts moved.seat.number (omega (arith, low, same)) (omega (arith, high, same)))
            ∙ sym (own_more setup moves (plain_move (move_said moved)) moved.seat.number refl))
        | inr differ ↦ others n low (λ same. differ (sym same)) ∙ has.amounts n low high
            ∙ sym (other_same setup moves (plain_move (move_said moved)) n differ)
      ];
    }

-- a row without the seat of the move
pub has_put_same : (setup : Setup) (moves : List Move) (moved : rows.Move) (put : SeatRow) → HasPut setup moves put
    → (moved.seat.number ≤ put.seats → ⊥)
    → HasPut setup (plain_move (move_said moved) ∷ moves) put
has_put_same setup moves moved put has beyond =
    record {
      seats = has.seats;
      amounts = λ n low high. has.amounts n low high
          ∙ sym (other_same setup moves (plain_move (move_said moved)) n (λ same. beyond (omega (arith, same, high, has.seats))));
    }

-- the moves of the trace after some moves begin with those after the older ones
record Behind (setup : Setup) (front base : List Move) : Type 0 where
  rest : List TracedMove
  is : traced_moves setup (front ++ base) ≡ traced_moves setup base ++ rest

behind : (setup : Setup) (front base : List Move) → Behind setup front base
behind setup [] base = record { rest = []; is = sym (append-nil (traced_moves setup base)) }
behind setup (move ∷ front) base =
    let before = behind setup front base in
    record {
      rest = before.rest ++ traced_move setup move (front ++ base) ∷ [];
      is = ap (λ (list : List TracedMove). list ++ traced_move setup move (front ++ base) ∷ []) before.is
          ∙ append_assoc (traced_moves setup base) before.rest (traced_move setup move (front ++ base) ∷ []);
    }

-- so the trace has a move after those that were made before it
pub traced_here : (setup : Setup) (front : List Move) (move : Move) (base : List Move)
    → slice_get (traced_moves setup (front ++ move ∷ base)) (length base) ≡ Some (traced_move setup move base)
traced_here setup front move base =
    let all = behind setup front (move ∷ base) in
    let cut : traced_moves setup (front ++ move ∷ base) ≡ traced_moves setup base ++ traced_move setup move base ∷ all.rest =
    all.is ∙ append_assoc (traced_moves setup base) (traced_move setup move base ∷ []) all.rest in
    subst (λ (list : List TracedMove). slice_get list (length base) ≡ Some (traced_move setup move base)) (sym cut)
    (subst (λ (n : ℕ). slice_get (traced_moves setup base ++ traced_move setup move base ∷ all.rest) n ≡ Some (traced_move setup move base)) (as_many setup base)
    (at_length (traced_moves setup base) (traced_move setup move base) all.rest))
