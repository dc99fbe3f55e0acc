-- The letter of one more move.
use Rattle.std.proofs.Common.{◌≡◌, ℕ, ◌+◌, ◌-◌, ◌≤◌, ◌<◌, Bool, List, [], ◌∷◌, ◌++◌, length, map, take, get_or, slice_index, refl, sym, ap, subst, ◌∙◌, append_assoc, arith}
use Rattle.std.proofs.lemmas.Bool.{eq-eqb}
use Rattle.std.proofs.lemmas.List.{append-nil}
use Rattle.chip_ledger.specs.declared.seat_row.TheConstants.{MOST_AMOUNT}
use Rattle.play_event.specs.CanonScript.{plain_move, plain_moves}
use Rattle.play_event.specs.Chips.{chips_put}
use Rattle.play_event.specs.Past.{Move}
use Rattle.play_event.specs.Played.{move_said}
use Rattle.play_event.specs.declared.played.Move as rows
use Rattle.play_event.specs.declared.setup.Setup.{Setup}
use Rattle.acpc_format.specs.Betting.{hand_total, letter_on, letters_on}
use Rattle.acpc_format.specs.Puts.{HaveFewChips, HavePut}
use Rattle.acpc_format.proofs.Totals.{few_so_far, plain_more}

pub no_letters : (no_limit : Bool) (setup : Setup) (street : ℕ) (out : List ℕ) → out ≡ out ++ letters_on no_limit setup street []
unfolding letters_on
no_letters no_limit setup street out = sym (append-nil out)

-- the moves with the next one
abbrev with_next : rows.Move → ℕ → List rows.Move → List Move
with_next played count moves = plain_move (move_said played) ∷ plain_moves (map move_said (take count moves))

next_is : (count : ℕ) (moves : List rows.Move) (played : rows.Move) → count < length moves → get_or moves count played ≡ played
    → plain_moves (map move_said (take (count + 1) moves)) ≡ with_next played count moves
next_is count moves played within here =
    plain_more count moves played within ∙ ap (λ (m : rows.Move). with_next m count moves) here

-- the next move may be added
pub may_add : (setup : Setup) (count : ℕ) (moves : List rows.Move) (played : rows.Move) (put : List ℕ) → count < length moves → get_or moves count played ≡ played
    → HaveFewChips setup moves → HavePut setup (plain_moves (map move_said (take count moves))) put
    → slice_index put (played.seat.number - 1) + (played.to - played.from) ≤ MOST_AMOUNT
may_add setup count moves played put within here few has =
    let seat = played.seat.number in
    let so_far : chips_put setup (with_next played count moves) seat ≤ chips_put setup (plain_moves (map move_said moves)) seat =
    subst (λ (list : List Move). chips_put setup list seat ≤ chips_put setup (plain_moves (map move_said moves)) seat) (next_is count moves played within here) (few_so_far setup seat (count + 1) moves) in
    let own : chips_put setup (with_next played count moves) seat ≡ chips_put setup (plain_moves (map move_said (take count moves))) seat + (played.to - played.from) =
    rw (eq-eqb seat seat refl) (omega arith) in
    omega (arith, so_far, own, few.within seat, has.amounts seat played.seat.first played.seat.last)

-- the next move is added
pub put_next : (setup : Setup) (count : ℕ) (moves : List rows.Move) (played : rows.Move) (put : List ℕ) → count < length moves → get_or moves count played ≡ played
    → HavePut setup (with_next played count moves) put → HavePut setup (plain_moves (map move_said (take (count + 1) moves))) put
put_next setup count moves played put within here has = subst (λ (list : List Move). HavePut setup list put) (sym (next_is count moves played within here)) has

-- and its letter is written
pub letter_next : (no_limit : Bool) (setup : Setup) (street count : ℕ) (moves : List rows.Move) (played : rows.Move) (put old so_far new : List ℕ) → count < length moves → get_or moves count played ≡ played
    → HavePut setup (with_next played count moves) put
    → so_far ≡ old ++ letters_on no_limit setup street (plain_moves (map move_said (take count moves)))
    → new ≡ so_far ++ letter_on no_limit street (plain_move (move_said played)) (slice_index put (played.seat.number - 1))
    → new ≡ old ++ letters_on no_limit setup street (plain_moves (map move_said (take (count + 1) moves)))
unfolding letters_on
letter_next no_limit setup street count moves played put old so_far new within here has before is =
    let base = plain_moves (map move_said (take count moves)) in
    let move = plain_move (move_said played) in
    let total : slice_index put (played.seat.number - 1) ≡ hand_total setup move base = has.amounts played.seat.number played.seat.first played.seat.last in
    is ∙ ap (λ (n : ℕ). so_far ++ letter_on no_limit street move n) total
    ∙ ap (λ (l : List ℕ). l ++ letter_on no_limit street move (hand_total setup move base)) before
    ∙ append_assoc old (letters_on no_limit setup street base) (letter_on no_limit street move (hand_total setup move base))
    ∙ ap (λ (list : List Move). old ++ letters_on no_limit setup street list) (sym (next_is count moves played within here))
