-- If a hand with a valid setup fits a game, handref supports that game, and so its game file reads
-- back as that game.
use Rattle.std.proofs.Common.{◌≡◌, Bool, true, false, not, nat_lt, if◌then◌else◌, length, Option, Some, None, Ok, Err, refl, sym, ap, subst, ◌∙◌, arith}
use Rattle.std.specs.List.{list_any}
use Rattle.std.specs.Option.{option_map_or}
use Rattle.std.proofs.lemmas.List.{length-take-le}
use Rattle.std.proofs.lemmas.Option.{same_Some}
use Rattle.std.specs.Result.{result_ok}
use Rattle.play_event.specs.declared.setup.Setup.{Setup}
use Rattle.play_event.specs.ValidSetup.{IsValid}
use Rattle.hand_canon.specs.declared.writing.Unspelled.TheVariants as facts
use Rattle.chip_ledger.specs.SeatRow.{amounts_in}
use Rattle.acpc_game.specs.GameFile.{GameSaid, game_said, has_short_stack}
use Rattle.acpc_game.specs.GameText.{game_text}
use Rattle.acpc_game.specs.SaidGames.{IsGame}
use Rattle.acpc_game.proofs.GameAgain.{game_again}
use Rattle.acpc_format.specs.GameOf.{MakesGame, game_by_limit, game_for, game_with, is_sized_by_blind, no_limit_of}
use Rattle.acpc_format.proofs.Making.{makes_game}

made_game : (no_limit : Bool) (setup : Setup) → MakesGame no_limit setup → IsGame (game_with no_limit setup)
made_game no_limit setup makes =
    let stacks = setup.stacks in
    let blinds = setup.blinds in
    let as_many : length (amounts_in stacks) ≡ stacks.seats = length-take-le stacks.seats stacks.amounts (omega (arith, stacks.full, stacks.greatest)) in
    let others : length (amounts_in blinds) ≡ blinds.seats = length-take-le blinds.seats blinds.amounts (omega (arith, blinds.full, blinds.greatest)) in
    record {
      least = omega (arith, as_many, stacks.least);
      most = omega (arith, as_many, stacks.greatest);
      one_row = others ∙ makes.one_row ∙ sym as_many;
      few = makes.few;
      few_blinds = makes.few_blinds;
      stacked = makes.stacked;
      in_order = makes.in_order;
      sizes = makes.sizes;
      caps = tt;
    }

-- the game of the code of a hand, if it is hold'em that logs have
by_limit : (setup : Setup) (game : GameSaid) (limit : Option Bool) → IsValid setup → no_limit_of setup.code ≡ limit
    → option_map_or (game_by_limit setup) limit (Err facts.Variant) ≡ Ok game → IsGame game
by_limit setup game None valid code is = absurd (cc (is))
by_limit setup game (Some no_limit) valid code is =
    by_tests (has_short_stack (amounts_in setup.stacks) (amounts_in setup.blinds)) (is_sized_by_blind no_limit setup) (list_any (nat_lt 0) (amounts_in setup.antes)) refl refl is
  where
    by_tests : (short sized antes : Bool) → has_short_stack (amounts_in setup.stacks) (amounts_in setup.blinds) ≡ short → is_sized_by_blind no_limit setup ≡ sized
        → (if short then Err facts.Stacks else if not sized then Err facts.BetSizes else if antes then Err facts.Antes else Ok (game_with no_limit setup)) ≡ Ok game → IsGame game
    by_tests true sized antes stacked fits one = absurd (cc (one))
    by_tests false false antes stacked fits one = absurd (cc (one))
    by_tests false true true stacked fits one = absurd (cc (one))
    by_tests false true false stacked fits one = subst IsGame (same_Some (game_with no_limit setup) game (ap result_ok one)) (made_game no_limit setup (makes_game no_limit setup valid code stacked fits))

pub file_again : (setup : Setup) (game : GameSaid) → IsValid setup → game_for setup ≡ Ok game → game_said (game_text game) ≡ Ok game
unfolding game_for
file_again setup game valid is = game_again game (by_limit setup game (no_limit_of setup.code) valid refl is)
