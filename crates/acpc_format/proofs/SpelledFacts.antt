-- What holds of a play that the logs of a game can write.
use Rattle.std.proofs.Common.{◌≡◌, Bool, true, false, ◌==◌, ◌&&◌, not, nat_lt, bytes_eq, if◌then◌else◌, Option, Some, None, refl}
use Rattle.std.specs.List.{list_any}
use Rattle.std.proofs.lemmas.Bool.{eqb-true}
use Rattle.chip_ledger.specs.Seat.{seats_of}
use Rattle.play_event.specs.declared.setup.Setup.{Setup}
use Rattle.hand_canon.specs.TraceRows.{core_said}
use Rattle.hand_canon.specs.declared.trace.Play.{Play}
use Rattle.hand_canon.specs.declared.trace.Trace.{Trace}
use Rattle.hand_canon.specs.declared.writing.Keep.{Keep}
use Rattle.hand_canon.specs.declared.writing.Unspelled.{Unspelled}
use Rattle.hand_canon.specs.declared.writing.Unspelled.TheVariants as facts
use Rattle.acpc_game.specs.declared.game.Game.{Game}
use Rattle.acpc_format.specs.PlayFacts.{is_above_caps, is_free_fold, is_off_unit, is_open_muck, is_part_known, play_conditions}
use Rattle.acpc_format.specs.SetupFacts.{has_sizes_of, is_code_of, setup_conditions}
use Rattle.acpc_format.specs.Spelled.{unspelled, unspelled_note}
use Rattle.card_set.proofs.Options.{from_some_none}
use Rattle.card_set.proofs.Tests.{not_not}
use Rattle.chip_ledger.specs.SeatRow.{amounts_in}
use Rattle.hand_canon.proofs.Refusals.{both_none}
use Rattle.hand_canon.specs.WriteRefusals.{or_behind}
use Rattle.first_fault.specs.Conditions.{first_where}

-- the setup has what the game has
pub record HasSetupOf (game : Game) (setup : Setup) : Type 0 where
  pub code : is_code_of game.no_limit setup.code ≡ true
  pub seats : setup.stacks.seats ≡ game.stacks.seats
  pub stacks : bytes_eq (amounts_in setup.stacks) (amounts_in game.stacks) ≡ true
  pub sizes : has_sizes_of game setup ≡ true
  pub antes : list_any (nat_lt 0) (amounts_in setup.antes) ≡ false
  pub blinds : bytes_eq (amounts_in setup.blinds) (amounts_in game.blinds) ≡ true
  pub rakes : list_any (nat_lt 0) setup.rakes.rakes ≡ false

pub where_none : (condition : Bool) (fact : Unspelled) (rest : Option Unspelled) → (if condition then Some fact else rest) ≡ None → (condition ≡ false) × (rest ≡ None)
where_none true fact rest none = from_some_none none
where_none false fact rest none = (refl, none)

has_setup : (game : Game) (setup : Setup) → first_where (setup_conditions game setup) ≡ None → HasSetupOf game setup
has_setup game setup none =
    let one = where_none (not (is_code_of game.no_limit setup.code)) facts.Variant _ none in
    let two = where_none (not (setup.stacks.seats == game.stacks.seats)) facts.SeatCount _ one.1 in
    let three = where_none (not (bytes_eq (amounts_in setup.stacks) (amounts_in game.stacks))) facts.Stacks _ two.1 in
    let four = where_none (not (has_sizes_of game setup)) facts.BetSizes _ three.1 in
    let five = where_none (list_any (nat_lt 0) (amounts_in setup.antes)) facts.Antes _ four.1 in
    let six = where_none (not (bytes_eq (amounts_in setup.blinds) (amounts_in game.blinds))) facts.Blinds _ five.1 in
    let seven = where_none (list_any (nat_lt 0) setup.rakes.rakes) facts.Rake _ six.1 in
    record {
      code = not_not (is_code_of game.no_limit setup.code) one.0;
      seats = eqb-true setup.stacks.seats game.stacks.seats (not_not (setup.stacks.seats == game.stacks.seats) two.0);
      stacks = not_not (bytes_eq (amounts_in setup.stacks) (amounts_in game.stacks)) three.0;
      sizes = not_not (has_sizes_of game setup) four.0;
      antes = five.0;
      blinds = not_not (bytes_eq (amounts_in setup.blinds) (amounts_in game.blinds)) six.0;
      rakes = seven.0;
    }

-- what the play has, fact by fact
pub record HasPlayOf (game : Game) (trace : Trace) : Type 0 where
  pub folds : list_any is_free_fold trace.moves ≡ false
  pub caps : is_above_caps game.caps trace.moves ≡ false
  pub units : not game.no_limit && list_any is_off_unit trace.moves ≡ false
  pub whole : list_any (is_part_known (core_said trace).places) (seats_of trace.setup.stacks.seats) ≡ false
  pub mucks : list_any (is_open_muck (core_said trace).places trace.mucked) (seats_of trace.setup.stacks.seats) ≡ false

has_play : (game : Game) (trace : Trace) → first_where (play_conditions game trace) ≡ None → HasPlayOf game trace
has_play game trace none =
    let one = where_none (list_any is_free_fold trace.moves) facts.FreeFold _ none in
    let two = where_none (is_above_caps game.caps trace.moves) facts.TooManyRaises _ one.1 in
    let three = where_none (not game.no_limit && list_any is_off_unit trace.moves) facts.RaiseTarget _ two.1 in
    let four = where_none (list_any (is_part_known (core_said trace).places) (seats_of trace.setup.stacks.seats)) facts.PartCards _ three.1 in
    let five = where_none (list_any (is_open_muck (core_said trace).places trace.mucked) (seats_of trace.setup.stacks.seats)) facts.Muck _ four.1 in
    record { folds = one.0; caps = two.0; units = three.0; whole = four.0; mucks = five.0 }

-- what holds of a play that can be written
pub record IsSpelled (game : Game) (play : Play) : Type 0 where
  pub setup : HasSetupOf game play.trace.setup
  pub played : HasPlayOf game play.trace

pub spelled : (game : Game) (keep : Keep) (play : Play) → unspelled game keep play ≡ None → IsSpelled game play
unfolding unspelled
spelled game keep play none =
    let first = both_none (first_where (setup_conditions game play.trace.setup)) (or_behind (first_where (play_conditions game play.trace)) (unspelled_note keep play.hand.notes)) none in
    let second = both_none (first_where (play_conditions game play.trace)) (unspelled_note keep play.hand.notes) first.1 in
    record { setup = has_setup game play.trace.setup first.0; played = has_play game play.trace second.0 }
