-- What hold'em deals on its streets.
use Rattle.std.proofs.Common.{◌≡◌, ℕ, zero, suc, ◌+◌, ◌-◌, ◌≤◌, Bool, true, false, refl, ap, ◌∙◌, arith}
use Rattle.std.specs.Prelude.{slice_get}
use Rattle.std.specs.Option.{option_map_or}
use Rattle.play_event.specs.declared.code.Code.{Code}
use Rattle.play_event.specs.declared.code.Code.TheVariants as codes
use Rattle.play_event.specs.declared.street.Size.{Size}
use Rattle.play_event.specs.declared.street.Size.TheVariants as sizes
use Rattle.play_event.specs.Games.{board_cards_on, flop_streets, hole_cards_on, street_count}
use Rattle.play_event.specs.Streets.{has_draw}
use Rattle.acpc_format.specs.SetupFacts.{is_code_of}

-- two hole cards and no board first; then three, one and one cards of the board; and no draws
pub record IsHoldem (code : Code) : Type 0 where
  pub holes : hole_cards_on code 1 ≡ 2
  pub later_holes : (street : ℕ) → 2 ≤ street → hole_cards_on code street ≡ 0
  pub no_board : board_cards_on code 1 ≡ 0
  pub flop : board_cards_on code 2 ≡ 3
  pub turn : board_cards_on code 3 ≡ 1
  pub river : board_cards_on code 4 ≡ 1
  pub no_draw : (street : ℕ) → has_draw code street ≡ false
  pub streets : street_count code ≡ 4

no_draw_at : (early late : Size) (index : ℕ) → option_map_or (λ s. s.draws) (slice_get (flop_streets 2 early late) index) false ≡ false
no_draw_at early late zero = refl
no_draw_at early late (suc zero) = refl
no_draw_at early late (suc (suc zero)) = refl
no_draw_at early late (suc (suc (suc zero))) = refl
no_draw_at early late (suc (suc (suc (suc index)))) = refl

no_hole_at : (early late : Size) (index : ℕ) → option_map_or (λ s. s.down + s.up) (slice_get (flop_streets 2 early late) (suc index)) 0 ≡ 0
no_hole_at early late zero = refl
no_hole_at early late (suc zero) = refl
no_hole_at early late (suc (suc zero)) = refl
no_hole_at early late (suc (suc (suc index))) = refl

no_hole : (early late : Size) (street : ℕ) → 2 ≤ street → option_map_or (λ s. s.down + s.up) (slice_get (flop_streets 2 early late) (street - 1)) 0 ≡ 0
no_hole early late street low =
    let index : street - 1 ≡ suc (street - 2) = omega (arith, low) in
    ap (λ k. option_map_or (λ s. s.down + s.up) (slice_get (flop_streets 2 early late) k) 0) index ∙ no_hole_at early late (street - 2)

pub holdem : (no_limit : Bool) (code : Code) → is_code_of no_limit code ≡ true → IsHoldem code
holdem no_limit codes.NT is = record {
  holes = refl;
  later_holes = no_hole sizes.Least sizes.Least;
  no_board = refl;
  flop = refl;
  turn = refl;
  river = refl;
  no_draw = λ street. no_draw_at sizes.Least sizes.Least (street - 1);
  streets = refl;
}
holdem no_limit codes.FT is = record {
  holes = refl;
  later_holes = no_hole sizes.Small sizes.Big;
  no_board = refl;
  flop = refl;
  turn = refl;
  river = refl;
  no_draw = λ street. no_draw_at sizes.Small sizes.Big (street - 1);
  streets = refl;
}
holdem no_limit codes.NS is = absurd (cc (is))
holdem no_limit codes.PO is = absurd (cc (is))
holdem no_limit codes.FO8 is = absurd (cc (is))
holdem no_limit codes.F7S is = absurd (cc (is))
holdem no_limit codes.F7S8 is = absurd (cc (is))
holdem no_limit codes.FR is = absurd (cc (is))
holdem no_limit codes.N2L1D is = absurd (cc (is))
holdem no_limit codes.F2L3D is = absurd (cc (is))
holdem no_limit codes.FB is = absurd (cc (is))
