-- The chips that seats have put, kept as ten numbers.
use Rattle.std.proofs.Common.{◌≡◌, ◌≢◌, ℕ, ◌+◌, ◌-◌, ◌≤◌, ◌<◌, List, ◌∷◌, length, set, slice_index, sym, ap, ◌∙◌, arith, inl, inr, ne_eqb}
use Rattle.std.proofs.lemmas.Bool.{cases_eq, eq-eqb}
use Rattle.std.proofs.lemmas.Grind.{get_or-set_at}
use Rattle.std.proofs.lemmas.List.{get_or-set_other}
use Rattle.play_event.specs.CanonScript.{plain_move}
use Rattle.play_event.specs.Chips.{chips_put, posted}
use Rattle.play_event.specs.Past.{Move}
use Rattle.play_event.specs.Played.{move_said}
use Rattle.play_event.specs.declared.played.Move as rows
use Rattle.play_event.specs.declared.setup.Setup.{Setup}
use Rattle.acpc_format.specs.Puts.{HavePut}

-- one more seat has what it posts
pub posted_more : (setup : Setup) (put : List ℕ) (index chips : ℕ) → length put ≡ 10 → index < 10 → chips ≡ posted setup (index + 1)
    → ((seat : ℕ) → 1 ≤ seat → seat ≤ index → slice_index put (seat - 1) ≡ posted setup seat)
    → (seat : ℕ) → 1 ≤ seat → seat ≤ index + 1 → slice_index (set put index chips) (seat - 1) ≡ posted setup seat
posted_more setup put index chips full within is before seat low high = elim (cases_eq seat (index + 1)) [
  | inl last ↦ get_or-set_at put index (seat - 1) chips 0 (omega (arith, last)) (omega (arith, full, within)) ∙ is ∙ ap (posted setup) (sym last)
  | inr other ↦
      get_or-set_other put index (seat - 1) chips 0 (λ same. other (omega (arith, same, low)))
      ∙ before seat low (omega (arith, high, earlier seat (index + 1) other high))
]
  where
    earlier : (a b : ℕ) → a ≢ b → a ≤ b → a + 1 ≤ b
    earlier a b differ most = omega (arith, differ, most)

-- what a move adds is added to its seat
pub put_more : (setup : Setup) (moves : List Move) (played : rows.Move) (put : List ℕ) → length put ≡ 10 → HavePut setup moves put
    → HavePut setup (plain_move (move_said played) ∷ moves) (set put (played.seat.number - 1) (slice_index put (played.seat.number - 1) + (played.to - played.from)))
put_more setup moves played put full has = record {
  amounts = λ seat low high. elim (cases_eq played.seat.number seat) [
    | inl same ↦
        get_or-set_at put (played.seat.number - 1) (seat - 1) (slice_index put (played.seat.number - 1) + (played.to - played.from)) 0 (omega (arith, same)) (omega (arith, full, low, high, same))
        ∙ own seat same (has.amounts played.seat.number played.seat.first played.seat.last)
    | inr differ ↦
        get_or-set_other put (played.seat.number - 1) (seat - 1) (slice_index put (played.seat.number - 1) + (played.to - played.from)) 0 (λ same. differ (omega (arith, same, low, played.seat.first)))
        ∙ has.amounts seat low high
        ∙ rw (ne_eqb played.seat.number seat differ) (omega arith)
  ];
}
  where
    own : (seat : ℕ) → played.seat.number ≡ seat → slice_index put (played.seat.number - 1) ≡ chips_put setup moves played.seat.number
        → slice_index put (played.seat.number - 1) + (played.to - played.from) ≡ chips_put setup (plain_move (move_said played) ∷ moves) seat
    own seat same is = rw (eq-eqb played.seat.number seat same) (omega (arith, is, ap (chips_put setup moves) same))
