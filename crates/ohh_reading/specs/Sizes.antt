-- The bet sizes of a hand follow from its big blind.
use Rattle.std.specs.Prelude.{ℕ, ◌*◌, if◌then◌else◌}
use Rattle.play_event.specs.declared.code.Code.{Code}
use Rattle.ohh_members.specs.Blinds.{is_fixed_game}
use Rattle.hand_canon.specs.declared.sizes.Sizes.{Sizes}

-- in fixed limit the bets are the big blind and twice that; in the other limits the big blind is
-- the least bet
abbrev pub sizes_of : Code → ℕ → Sizes
sizes_of code big_blind =
    if is_fixed_game code
    then record { bring_in = 0; small_bet = big_blind; big_bet = 2 * big_blind; min_bet = 0 }
    else record { bring_in = 0; small_bet = 0; big_bet = 0; min_bet = big_blind }
