-- Which setups the logs of a game can write.
use Rattle.std.specs.Prelude.{◌==◌, ◌&&◌, Bool, false, not, nat_lt, bytes_eq, if◌then◌else◌, List, [], ◌∷◌}
use Rattle.std.specs.List.{list_any}
use Rattle.chip_ledger.specs.Greatest.{greatest}
use Rattle.play_event.specs.declared.code.Code.{Code}
use Rattle.play_event.specs.declared.code.Code.TheVariants as codes
use Rattle.play_event.specs.declared.setup.Setup.{Setup}
use Rattle.hand_canon.specs.declared.writing.Unspelled.{Unspelled}
use Rattle.hand_canon.specs.declared.writing.Unspelled.TheVariants as facts
use Rattle.acpc_game.specs.declared.game.Game.{Game}
use Rattle.chip_ledger.specs.SeatRow.{amounts_in}

-- the variant is that of the game: no-limit hold'em in a no-limit game, else fixed-limit hold'em
abbrev pub is_code_of : Bool → Code → Bool
is_code_of no_limit codes.NT = no_limit
is_code_of no_limit codes.FT = not no_limit
is_code_of no_limit _ = false

-- the bet sizes are those of the game: in no-limit the least bet is the greatest blind; in limit
-- both bets are the game's raise sizes
abbrev pub has_sizes_of : Game → Setup → Bool
has_sizes_of game setup =
    if game.no_limit then setup.min_bet == greatest (amounts_in setup.blinds)
    else setup.small_bet == game.small_raise && setup.big_bet == game.big_raise

-- each case in which a game's logs cannot write a setup, with the fact that is reported, in the
-- order in which they are checked
abbrev pub setup_conditions : Game → Setup → List (Bool × Unspelled)
setup_conditions game setup =
    (not (is_code_of game.no_limit setup.code), facts.Variant)
    ∷ (not (setup.stacks.seats == game.stacks.seats), facts.SeatCount)
    ∷ (not (bytes_eq (amounts_in setup.stacks) (amounts_in game.stacks)), facts.Stacks)
    ∷ (not (has_sizes_of game setup), facts.BetSizes)
    ∷ (list_any (nat_lt 0) (amounts_in setup.antes), facts.Antes)
    ∷ (not (bytes_eq (amounts_in setup.blinds) (amounts_in game.blinds)), facts.Blinds)
    ∷ (list_any (nat_lt 0) setup.rakes.rakes, facts.Rake)
    ∷ []
