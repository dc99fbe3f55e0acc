-- Each street of a game deals or draws, and no street does both.
use Rattle.std.proofs.Common.{◌≡◌, ℕ, zero, suc, ◌≤◌, if◌then◌else◌, Bool, true, ◌&&◌, ◌||◌, not, nat_lt, refl, arith, false}
use Rattle.play_event.specs.Games.{hole_cards_on, board_cards_on, street_count}
use Rattle.play_event.specs.Streets.{has_draw}
use Rattle.play_event.specs.declared.code.Code.TheVariants as games
use Rattle.play_event.specs.declared.code.Code.{Code}

-- a street deals, or it draws, and then it deals nothing
abbrev pub deals_or_draws : Code → ℕ → Bool
deals_or_draws code street =
    if has_draw code street then not (nat_lt 0 (hole_cards_on code street)) && not (nat_lt 0 (board_cards_on code street))
    else (nat_lt 0 (hole_cards_on code street) || nat_lt 0 (board_cards_on code street))

pub each_street : (code : Code) (street : ℕ) → 1 ≤ street → street ≤ street_count code → deals_or_draws code street ≡ true
each_street games.N2L1D (suc zero) low high = refl
each_street games.N2L1D (suc (suc zero)) low high = refl
each_street games.N2L1D (suc (suc (suc more))) low high = absurd (omega (arith, high))
each_street games.F7S (suc zero) low high = refl
each_street games.F7S (suc (suc zero)) low high = refl
each_street games.F7S (suc (suc (suc zero))) low high = refl
each_street games.F7S (suc (suc (suc (suc zero)))) low high = refl
each_street games.F7S (suc (suc (suc (suc (suc zero))))) low high = refl
each_street games.F7S (suc (suc (suc (suc (suc (suc more)))))) low high = absurd (omega (arith, high))
each_street games.F7S8 (suc zero) low high = refl
each_street games.F7S8 (suc (suc zero)) low high = refl
each_street games.F7S8 (suc (suc (suc zero))) low high = refl
each_street games.F7S8 (suc (suc (suc (suc zero)))) low high = refl
each_street games.F7S8 (suc (suc (suc (suc (suc zero))))) low high = refl
each_street games.F7S8 (suc (suc (suc (suc (suc (suc more)))))) low high = absurd (omega (arith, high))
each_street games.FR (suc zero) low high = refl
each_street games.FR (suc (suc zero)) low high = refl
each_street games.FR (suc (suc (suc zero))) low high = refl
each_street games.FR (suc (suc (suc (suc zero)))) low high = refl
each_street games.FR (suc (suc (suc (suc (suc zero))))) low high = refl
each_street games.FR (suc (suc (suc (suc (suc (suc more)))))) low high = absurd (omega (arith, high))
each_street _ zero low high = absurd (omega (arith, low))
each_street _ (suc zero) low high = refl
each_street _ (suc (suc zero)) low high = refl
each_street _ (suc (suc (suc zero))) low high = refl
each_street _ (suc (suc (suc (suc zero)))) low high = refl
each_street _ (suc (suc (suc (suc (suc more))))) low high = absurd (omega (arith, high))

pub first_draws : (code : Code) → has_draw code 1 ≡ false
first_draws games.FT = refl
first_draws _ = refl
