-- What the games that are written deal on their streets.
use Rattle.std.proofs.Common.{◌≡◌, ℕ, zero, suc, ◌+◌, ◌-◌, ◌≤◌, true, false, refl, sym, ap, ◌∙◌, arith, true≢false}
use Rattle.std.specs.Prelude.{slice_get}
use Rattle.std.specs.Option.{option_map_or}
use Rattle.play_event.specs.declared.code.Code.{Code}
use Rattle.play_event.specs.declared.code.Code.TheVariants as codes
use Rattle.play_event.specs.declared.street.Size.{Size}
use Rattle.play_event.specs.declared.street.Size.TheVariants as sizes
use Rattle.play_event.specs.Games.{board_cards_on, flop_streets, game_of, hole_cards_on, street_count}
use Rattle.play_event.specs.Streets.{has_draw}
use Rattle.ohh_writing.specs.Games.{is_spelled_game}

-- hole cards and no board first; then three, one and one cards of the board; and no draws
pub record IsFlopGame (code : Code) : Type 0 where
  pub holes : hole_cards_on code 1 ≡ (game_of code).hole
  pub some : 1 ≤ (game_of code).hole
  pub few : (game_of code).hole ≤ 7
  pub later_holes : (street : ℕ) → 2 ≤ street → hole_cards_on code street ≡ 0
  pub no_board : board_cards_on code 1 ≡ 0
  pub flop : board_cards_on code 2 ≡ 3
  pub turn : board_cards_on code 3 ≡ 1
  pub river : board_cards_on code 4 ≡ 1
  pub no_draw : (street : ℕ) → has_draw code street ≡ false
  pub streets : street_count code ≡ 4

no_draw_at : (hole : ℕ) (early late : Size) (index : ℕ) → option_map_or (λ s. s.draws) (slice_get (flop_streets hole early late) index) false ≡ false
no_draw_at hole early late zero = refl
no_draw_at hole early late (suc zero) = refl
no_draw_at hole early late (suc (suc zero)) = refl
no_draw_at hole early late (suc (suc (suc zero))) = refl
no_draw_at hole early late (suc (suc (suc (suc index)))) = refl

no_hole_at : (hole : ℕ) (early late : Size) (index : ℕ) → option_map_or (λ s. s.down + s.up) (slice_get (flop_streets hole early late) (suc index)) 0 ≡ 0
no_hole_at hole early late zero = refl
no_hole_at hole early late (suc zero) = refl
no_hole_at hole early late (suc (suc zero)) = refl
no_hole_at hole early late (suc (suc (suc index))) = refl

no_hole : (hole : ℕ) (early late : Size) (street : ℕ) → 2 ≤ street → option_map_or (λ s. s.down + s.up) (slice_get (flop_streets hole early late) (street - 1)) 0 ≡ 0
no_hole hole early late street low =
    let index : street - 1 ≡ suc (street - 2) = omega (arith, low) in
    ap (λ k. option_map_or (λ s. s.down + s.up) (slice_get (flop_streets hole early late) k) 0) index ∙ no_hole_at hole early late (street - 2)

pub flop_game : (code : Code) → is_spelled_game code ≡ true → IsFlopGame code
flop_game codes.NT is = record {
  holes = refl;
  some = omega arith;
  few = omega arith;
  later_holes = no_hole 2 sizes.Least sizes.Least;
  no_board = refl;
  flop = refl;
  turn = refl;
  river = refl;
  no_draw = λ street. no_draw_at 2 sizes.Least sizes.Least (street - 1);
  streets = refl;
}
flop_game codes.FT is = record {
  holes = refl;
  some = omega arith;
  few = omega arith;
  later_holes = no_hole 2 sizes.Small sizes.Big;
  no_board = refl;
  flop = refl;
  turn = refl;
  river = refl;
  no_draw = λ street. no_draw_at 2 sizes.Small sizes.Big (street - 1);
  streets = refl;
}
flop_game codes.PO is = record {
  holes = refl;
  some = omega arith;
  few = omega arith;
  later_holes = no_hole 4 sizes.Least sizes.Least;
  no_board = refl;
  flop = refl;
  turn = refl;
  river = refl;
  no_draw = λ street. no_draw_at 4 sizes.Least sizes.Least (street - 1);
  streets = refl;
}
flop_game codes.FO8 is = record {
  holes = refl;
  some = omega arith;
  few = omega arith;
  later_holes = no_hole 4 sizes.Small sizes.Big;
  no_board = refl;
  flop = refl;
  turn = refl;
  river = refl;
  no_draw = λ street. no_draw_at 4 sizes.Small sizes.Big (street - 1);
  streets = refl;
}
flop_game codes.NS is = absurd (true≢false (sym is))
flop_game codes.F7S is = absurd (true≢false (sym is))
flop_game codes.F7S8 is = absurd (true≢false (sym is))
flop_game codes.FR is = absurd (true≢false (sym is))
flop_game codes.N2L1D is = absurd (true≢false (sym is))
flop_game codes.F2L3D is = absurd (true≢false (sym is))
flop_game codes.FB is = absurd (true≢false (sym is))
