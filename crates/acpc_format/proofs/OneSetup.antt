-- A valid setup that the logs of a game can write is that of the game.
use Rattle.std.proofs.Common.{◌≡◌, ℕ, ◌-◌, Bool, true, false, ◌&&◌, eqb, nat_lt, bytes_eq, if◌then◌else◌, List, slice_index, None, refl, sym, ap, subst, ◌∙◌, arith, true≢false, inl, inr}
use Rattle.std.specs.List.{list_any}
use Rattle.std.proofs.lemmas.Bool.{and_parts, cases_lt, eqb-true}
use Rattle.std.proofs.lemmas.Slice.Eq.{bytes_eq-Decides}
use Rattle.chip_ledger.proofs.Same.{seat_row_same_by_seats}
use Rattle.chip_ledger.specs.Greatest.{greatest}
use Rattle.chip_ledger.specs.SeatRow.{amount_of, amounts_in}
use Rattle.chip_ledger.specs.declared.seat_row.SeatRow.{SeatRow}
use Rattle.card_set.proofs.NumbersOfRange.{any_none}
use Rattle.play_event.specs.declared.code.Code.{Code}
use Rattle.play_event.specs.declared.code.Code.TheVariants as codes
use Rattle.play_event.specs.declared.setup.Setup.{Setup}
use Rattle.play_event.specs.Streets.{is_stud_game}
use Rattle.play_event.specs.ValidSetup.{IsSizeWhere, IsValid, has_antes}
use Rattle.hand_canon.specs.declared.trace.Play.{Play}
use Rattle.hand_canon.specs.declared.writing.Keep.{Keep}
use Rattle.acpc_game.specs.declared.game.Game.{Game}
use Rattle.acpc_game.specs.Games.{has_fitting_sizes}
use Rattle.acpc_format.specs.SetupFacts.{is_code_of}
use Rattle.acpc_format.specs.Spelled.{unspelled}
use Rattle.acpc_reading.specs.RecordView.{IsSetupOf, code_of}
use Rattle.acpc_format.proofs.SpelledFacts.{HasSetupOf, spelled}
use Rattle.card_set.proofs.Any.{zero_from_none}
use Rattle.card_set.proofs.Entries.{index_taken_at}
use Rattle.acpc_format.proofs.Making.{HasSizes}

-- the code of a game
pub code_is : (no_limit : Bool) (code : Code) → is_code_of no_limit code ≡ true → code ≡ code_of no_limit
code_is true codes.NT is = refl
code_is false codes.FT is = refl
code_is false codes.NT is = absurd (cc (is))
code_is true codes.FT is = absurd (cc (is))
code_is no_limit codes.NS is = absurd (cc (is))
code_is no_limit codes.PO is = absurd (cc (is))
code_is no_limit codes.FO8 is = absurd (cc (is))
code_is no_limit codes.F7S is = absurd (cc (is))
code_is no_limit codes.F7S8 is = absurd (cc (is))
code_is no_limit codes.FR is = absurd (cc (is))
code_is no_limit codes.N2L1D is = absurd (cc (is))
code_is no_limit codes.F2L3D is = absurd (cc (is))
code_is no_limit codes.FB is = absurd (cc (is))

-- rows of one number of seats with the same amounts are the same
rows_same : (row other : SeatRow) → row.seats ≡ other.seats → bytes_eq (amounts_in row) (amounts_in other) ≡ true → row ≡ other
rows_same row other seats equal =
    let same : amounts_in row ≡ amounts_in other = (bytes_eq-Decides (amounts_in row) (amounts_in other)).0 equal in
    seat_row_same_by_seats row other seats (λ n low high.
    sym (index_taken_at row.amounts row.seats (n - 1) (omega (arith, low, high)))
    ∙ ap (λ (list : List ℕ). slice_index list (n - 1)) same
    ∙ index_taken_at other.amounts other.seats (n - 1) (omega (arith, low, high, seats)))

-- a row without an amount above 0
none_in : (row : SeatRow) → list_any (nat_lt 0) (amounts_in row) ≡ false → (seat : ℕ) → amount_of row seat ≡ 0
none_in row none seat = elim (cases_lt (seat - 1) row.seats) [
  | inl within ↦ sym (index_taken_at row.amounts row.seats (seat - 1) within) ∙ zero_from_none (amounts_in row) (seat - 1) none
  | inr beyond ↦ row.filler (seat - 1) beyond
]

no_sizes : (blind small big : ℕ) → has_fitting_sizes true blind small big ≡ true → (small ≡ 0) × (big ≡ 0)
no_sizes blind small big fits =
    let both = (and_parts (nat_lt 0 blind) (eqb small 0 && eqb big 0) fits).1 in
    let parts = and_parts (eqb small 0) (eqb big 0) both in
    (eqb-true small 0 parts.0, eqb-true big 0 parts.1)

sizes_are : (no_limit : Bool) (small big least blind game_blind game_small game_big : ℕ) → HasSizes (code_of no_limit) small big least
    → (if no_limit then eqb least blind else eqb small game_small && eqb big game_big) ≡ true → blind ≡ game_blind → has_fitting_sizes no_limit game_blind game_small game_big ≡ true
    → (small ≡ game_small) × ((big ≡ game_big) × (least ≡ (if no_limit then game_blind else 0)))
sizes_are true small big least blind game_blind game_small game_big has same blinds fits =
    let none = no_sizes game_blind game_small game_big fits in
    (has.small_bet ∙ sym none.0, (has.big_bet ∙ sym none.1, eqb-true least blind same ∙ blinds))
sizes_are false small big least blind game_blind game_small game_big has same blinds fits =
    let parts = and_parts (eqb small game_small) (eqb big game_big) same in
    (eqb-true small game_small parts.0, (eqb-true big game_big parts.1, has.least_bet))

no_bring_in : (no_limit : Bool) (size : ℕ) → IsSizeWhere (is_stud_game (code_of no_limit)) size → size ≡ 0
no_bring_in true size none = none
no_bring_in false size none = none

by_dead : (dead : Bool) (setup : Setup) → ((seat : ℕ) → amount_of setup.antes seat ≡ 0) → (dead ≡ true → has_antes setup ≡ true) → dead ≡ false
by_dead false setup none has = refl
by_dead true setup none has =
    absurd (true≢false (sym (has refl) ∙ any_none (λ seat. nat_lt 0 (amount_of setup.antes seat)) 1 setup.stacks.seats (λ seat low high. zero_not (amount_of setup.antes seat) (none seat))))
  where
    zero_not : (n : ℕ) → n ≡ 0 → nat_lt 0 n ≡ false
    zero_not n is = rw is refl

setup_is : (game : Game) (setup : Setup) → IsValid setup → HasSetupOf game setup → IsSetupOf game setup
setup_is game setup valid has =
    let code = code_is game.no_limit setup.code has.code in
    let blinds : setup.blinds ≡ game.blinds = rows_same setup.blinds game.blinds (valid.same_blinds ∙ has.seats ∙ sym game.one_row) has.blinds in
    let antes = none_in setup.antes has.antes in
    let sizes = sizes_are game.no_limit setup.small_bet setup.big_bet setup.min_bet (greatest (amounts_in setup.blinds)) (greatest (amounts_in game.blinds)) game.small_raise game.big_raise
    (subst (λ (c : Code). HasSizes c setup.small_bet setup.big_bet setup.min_bet) code (record { small_bet = valid.small_bet; big_bet = valid.big_bet; least_bet = valid.least_bet }))
    has.sizes (ap (λ (row : SeatRow). greatest (amounts_in row)) blinds) game.sizes in
    record {
      code = code;
      stacks = rows_same setup.stacks game.stacks has.seats has.stacks;
      antes = antes;
      ante_seats = valid.same_antes ∙ has.seats;
      dead_antes = by_dead setup.dead_antes setup antes valid.dead_antes;
      blinds = blinds;
      bring_in = no_bring_in game.no_limit setup.bring_in (subst (λ (c : Code). IsSizeWhere (is_stud_game c) setup.bring_in) code valid.bring_in);
      small_bet = sizes.0;
      big_bet = sizes.1.0;
      min_bet = sizes.1.1;
      rakes = λ pot. zero_from_none setup.rakes.rakes (pot - 1) has.rakes;
    }

-- so the setup of a play that can be written is that of the game
pub spelled_setup : (game : Game) (keep : Keep) (play : Play) → IsValid play.trace.setup → unspelled game keep play ≡ None → IsSetupOf game play.trace.setup
spelled_setup game keep play valid none = setup_is game play.trace.setup valid (spelled game keep play none).setup
