-- What seats put, counted move by move, is at most what they put in the whole hand, and that is at
-- most their stacks.
use Rattle.std.proofs.Common.{◌≡◌, ℕ, zero, suc, ◌+◌, ◌-◌, ◌≤◌, ◌<◌, List, [], ◌∷◌, ◌++◌, length, map, take, reverse, get_or, refl, sym, ap, ◌∙◌, arith}
use Rattle.std.proofs.lemmas.Grind.{reverse_onto}
use Rattle.play_event.specs.CanonScript.{plain_move, plain_moves}
use Rattle.play_event.specs.TraceCore.{TraceCore}
use Rattle.canon_laws.proofs.SameCore.{plain_again}
use Rattle.play_event.proofs.ChipLaws.{puts_within}
use Rattle.play_event.specs.Chips.{chips_added, chips_put}
use Rattle.play_event.specs.Past.{Move, moves_of}
use Rattle.play_event.specs.Played.{move_said}
use Rattle.play_event.specs.Scripts.{past_at_end}
use Rattle.play_event.specs.Trace.{traced_moves}
use Rattle.play_event.specs.declared.played.Move as rows
use Rattle.play_event.specs.declared.setup.Setup.{Setup}
use Rattle.hand_canon.specs.Sound.{IsSound}
use Rattle.hand_canon.specs.SoundRecord.{script_said}
use Rattle.hand_canon.specs.declared.trace.Play.{Play}
use Rattle.acpc_format.specs.Puts.{HaveFewChips}

added_append : (seat : ℕ) (moves others : List Move) → chips_added seat (moves ++ others) ≡ chips_added seat moves + chips_added seat others
added_append seat [] others = omega arith
added_append seat (move ∷ moves) others = omega (arith, added_append seat moves others)

added_reverse : (seat : ℕ) (moves : List Move) → chips_added seat (reverse moves) ≡ chips_added seat moves
added_reverse seat [] = refl
added_reverse seat (move ∷ moves) =
    ap (chips_added seat) (reverse_onto moves move [])
    ∙ added_append seat (reverse moves) (move ∷ [])
    ∙ omega (arith, added_reverse seat moves)

added_taken : (seat count : ℕ) (moves : List rows.Move) → chips_added seat (map plain_move (map move_said (take count moves))) ≤ chips_added seat (map plain_move (map move_said moves))
added_taken seat zero moves = omega arith
added_taken seat (suc count) [] = omega arith
added_taken seat (suc count) (move ∷ moves) = omega (arith, added_taken seat count moves)

-- after the first `count` moves a seat has put no more than in the whole hand
pub few_so_far : (setup : Setup) (seat count : ℕ) (moves : List rows.Move) → chips_put setup (plain_moves (map move_said (take count moves))) seat ≤ chips_put setup (plain_moves (map move_said moves)) seat
few_so_far setup seat count moves =
    omega (arith, added_taken seat count moves, added_reverse seat (map plain_move (map move_said (take count moves))), added_reverse seat (map plain_move (map move_said moves)))

-- one more move
pub plain_more : (count : ℕ) (moves : List rows.Move) (other : rows.Move) → count < length moves
    → plain_moves (map move_said (take (count + 1) moves)) ≡ plain_move (move_said (get_or moves count other)) ∷ plain_moves (map move_said (take count moves))
plain_more count [] other within = absurd (omega (arith, within))
plain_more zero (move ∷ moves) other within = refl
plain_more (suc count) (move ∷ moves) other within =
    let front : List Move = map plain_move (map move_said (take count moves)) in
    let longer : List Move = map plain_move (map move_said (take (count + 1) moves)) in
    let first = plain_move (move_said move) in
    let more : suc count + 1 ≡ suc (count + 1) = omega arith in
    ap (λ (n : ℕ). plain_moves (map move_said (take n (move ∷ moves)))) more
    ∙ reverse_onto longer first []
    ∙ ap (λ (list : List Move). list ++ first ∷ []) (plain_more count moves other (omega (arith, within)))
    ∙ ap (λ (list : List Move). plain_move (move_said (get_or moves count other)) ∷ list) (sym (reverse_onto front first []))

-- a sound play keeps each seat within its stack
pub sound_few : (play : Play) → IsSound play → HaveFewChips play.trace.setup play.trace.moves
sound_few play sound = record {
  within = λ seat.
      let setup = play.hand.setup in
      let past = past_at_end setup (script_said play.hand) in
      let moves : map move_said play.trace.moves ≡ traced_moves setup (moves_of past) = ap (λ (core : TraceCore). core.moves) sound.trace.core in
      let plain : plain_moves (map move_said play.trace.moves) ≡ moves_of past = ap plain_moves moves ∙ plain_again setup (moves_of past) in
      let most = puts_within setup play.hand.rules (reverse (script_said play.hand)) sound.valid.antes sound.legal.played.legal seat in
      let same : chips_put play.trace.setup (plain_moves (map move_said play.trace.moves)) seat ≡ chips_put setup (moves_of past) seat =
      ap (λ (s : Setup). chips_put s (plain_moves (map move_said play.trace.moves)) seat) sound.trace.same_setup ∙ ap (λ (list : List Move). chips_put setup list seat) plain in
      omega (arith, same, most, setup.stacks.bounded (seat - 1));
}
