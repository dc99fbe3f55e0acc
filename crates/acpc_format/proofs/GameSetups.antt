-- The logs of a game can write every fact of the game's setup.
use Rattle.std.proofs.Common.{◌≡◌, ℕ, ◌+◌, ◌-◌, Bool, true, false, ◌&&◌, ◌==◌, not, eqb, nat_lt, bytes_eq, if◌then◌else◌, slice_index, Option, Some, None, refl, sym, ap, ◌∙◌, arith, true≢false}
use Rattle.std.specs.List.{list_any}
use Rattle.std.proofs.lemmas.Bool.{and_from, eq-eqb}
use Rattle.std.proofs.lemmas.Slice.Eq.{bytes_eq-Decides}
use Rattle.chip_ledger.specs.Greatest.{greatest}
use Rattle.chip_ledger.specs.declared.seat_row.SeatRow.{SeatRow}
use Rattle.play_event.specs.declared.setup.Setup.{Setup}
use Rattle.hand_canon.specs.declared.writing.Unspelled.{Unspelled}
use Rattle.hand_canon.specs.declared.writing.Unspelled.TheVariants as facts
use Rattle.acpc_game.specs.declared.game.Game.{Game}
use Rattle.acpc_format.specs.SetupFacts.{has_sizes_of, is_code_of, setup_conditions}
use Rattle.acpc_reading.specs.RecordView.{IsSetupOf, code_of}
use Rattle.card_set.proofs.Any.{none_from_zeros, none_taken_from_zeros}
use Rattle.card_set.proofs.Tests.{not_true}
use Rattle.chip_ledger.specs.SeatRow.{amounts_in}
use Rattle.first_fault.specs.Conditions.{first_where}

-- the logs of a game can write the variant of the game
pub code_fits : (no_limit : Bool) → is_code_of no_limit (code_of no_limit) ≡ true
code_fits true = refl
code_fits false = refl

sizes_fit : (no_limit : Bool) (small big least blind game_small game_big game_blind : ℕ) → small ≡ game_small → big ≡ game_big → least ≡ (if no_limit then game_blind else 0) → blind ≡ game_blind
    → (if no_limit then eqb least blind else eqb small game_small && eqb big game_big) ≡ true
sizes_fit true small big least blind game_small game_big game_blind one two three four = eq-eqb least blind (three ∙ sym four)
sizes_fit false small big least blind game_small game_big game_blind one two three four = and_from (eqb small game_small) (eqb big game_big) (eq-eqb small game_small one) (eq-eqb big game_big two)

-- a condition that does not hold
passed : (condition : Bool) (fact : Unspelled) (rest : Option Unspelled) → condition ≡ false → rest ≡ None → (if condition then Some fact else rest) ≡ None
passed false fact rest is none = none
passed true fact rest is none = absurd (true≢false is)

-- no condition of the setup holds
pub setup_none : (game : Game) (setup : Setup) → IsSetupOf game setup → first_where (setup_conditions game setup) ≡ None
setup_none game setup is =
    let code : is_code_of game.no_limit setup.code ≡ true = ap (is_code_of game.no_limit) is.code ∙ code_fits game.no_limit in
    let seats = eq-eqb setup.stacks.seats game.stacks.seats (ap (λ (row : SeatRow). row.seats) is.stacks) in
    let stacks = (bytes_eq-Decides (amounts_in setup.stacks) (amounts_in game.stacks)).1 (ap amounts_in is.stacks) in
    let blinds = (bytes_eq-Decides (amounts_in setup.blinds) (amounts_in game.blinds)).1 (ap amounts_in is.blinds) in
    let sizes : has_sizes_of game setup ≡ true = sizes_fit game.no_limit setup.small_bet setup.big_bet setup.min_bet (greatest (amounts_in setup.blinds)) game.small_raise game.big_raise (greatest (amounts_in game.blinds)) is.small_bet is.big_bet is.min_bet
    (ap (λ (row : SeatRow). greatest (amounts_in row)) is.blinds) in
    let next : (index : ℕ) → (index + 1) - 1 ≡ index = λ index. omega arith in
    let antes = none_taken_from_zeros setup.antes.seats setup.antes.amounts (λ index. sym (ap (slice_index setup.antes.amounts) (next index)) ∙ is.antes (index + 1)) in
    let rakes = none_from_zeros setup.rakes.rakes (λ index. sym (ap (slice_index setup.rakes.rakes) (next index)) ∙ is.rakes (index + 1)) in
    passed (not (is_code_of game.no_limit setup.code)) facts.Variant _ (not_true (is_code_of game.no_limit setup.code) code)
    (passed (not (setup.stacks.seats == game.stacks.seats)) facts.SeatCount _ (not_true (setup.stacks.seats == game.stacks.seats) seats)
    (passed (not (bytes_eq (amounts_in setup.stacks) (amounts_in game.stacks))) facts.Stacks _ (not_true (bytes_eq (amounts_in setup.stacks) (amounts_in game.stacks)) stacks)
    (passed (not (has_sizes_of game setup)) facts.BetSizes _ (not_true (has_sizes_of game setup) sizes)
    (passed (list_any (nat_lt 0) (amounts_in setup.antes)) facts.Antes _ antes
    (passed (not (bytes_eq (amounts_in setup.blinds) (amounts_in game.blinds))) facts.Blinds _ (not_true (bytes_eq (amounts_in setup.blinds) (amounts_in game.blinds)) blinds)
    (passed (list_any (nat_lt 0) setup.rakes.rakes) facts.Rake _ rakes refl))))))
