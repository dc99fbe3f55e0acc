-- A seat that is live or able to act after a move was so before it.
use Rattle.std.proofs.Common.{Bool, List, arith, false, nat_lt, not, sym, true, ℕ, ◌&&◌, ◌==◌, ◌||◌, ◌∷◌, ◌≡◌}
use Rattle.std.proofs.lemmas.Bool.{and_from, and_parts, lt-ltb, ltb-true, true≢false}
use Rattle.std.specs.List.{list_any}
use Rattle.play_event.specs.Past.{Move, is_folding}
use Rattle.play_event.specs.Seats.{can_act, is_live}
use Rattle.play_event.specs.declared.setup.Setup.{Setup}
use Rattle.play_event.specs.Chips.{chips_left}

-- a seat that is live after a move was live before it
pub still_live : (move : Move) (moves : List Move) (seat : ℕ) → is_live (move ∷ moves) seat ≡ true → is_live moves seat ≡ true
still_live move moves seat is =
    live_by (is_folding move.act && (move.seat == seat)) (list_any (λ (other : Move). is_folding other.act && (other.seat == seat)) moves) is
  where
    live_by : (a b : Bool) → not (a || b) ≡ true → not b ≡ true
    live_by true b is = absurd (true≢false (sym is))
    live_by false b is = is

-- and a seat that is able to act was able to
pub able_still : (setup : Setup) (move : Move) (moves : List Move) (seat : ℕ) → can_act setup (move ∷ moves) seat ≡ true → can_act setup moves seat ≡ true
able_still setup move moves seat is =
    let parts = and_parts (is_live (move ∷ moves) seat) (nat_lt 0 (chips_left setup (move ∷ moves) seat)) is in
    and_from (is_live moves seat) (nat_lt 0 (chips_left setup moves seat)) (still_live move moves seat parts.0) (lt-ltb 0 (chips_left setup moves seat) (omega (arith, ltb-true 0 (chips_left setup (move ∷ moves) seat) parts.1)))
