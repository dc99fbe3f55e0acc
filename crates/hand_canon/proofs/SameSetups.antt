-- Rows of amounts, rows of rakes and setups with the same parts are equal.
use Rattle.std.proofs.Common.{◌≡◌, ℕ, ◌-◌, Bool, List, length, take, get_or, refl, sym, subst, ap, ◌∙◌, arith}
use Rattle.std.proofs.Props.{props}
use Rattle.std.proofs.lemmas.List.{get_or-take, length-take-le}
use Rattle.chip_ledger.proofs.Same.{seat_row_same_by_seats}
use Rattle.chip_ledger.specs.declared.rakes.RakeRow.{RakeRow}
use Rattle.chip_ledger.specs.declared.seat_row.SeatRow.{SeatRow}
use Rattle.play_event.specs.declared.code.Code.{Code}
use Rattle.play_event.specs.declared.setup.Setup.{Setup}

-- rows with the same amounts are equal
pub amounts_same : (a b : SeatRow) → take a.seats a.amounts ≡ take b.seats b.amounts → a ≡ b
amounts_same a b same =
    let seats : a.seats ≡ b.seats =
    sym (length-take-le a.seats a.amounts (omega (arith, a.greatest, a.full)))
    ∙ ap length same
    ∙ length-take-le b.seats b.amounts (omega (arith, b.greatest, b.full)) in
    seat_row_same_by_seats a b seats
    (λ n first last.
    sym (get_or-take a.seats a.amounts (n - 1) 0 (omega (arith, first, last)))
    ∙ ap (λ (amounts : List ℕ). get_or amounts (n - 1) 0) same
    ∙ get_or-take b.seats b.amounts (n - 1) 0 (omega (arith, first, last, seats)))

-- what a row of rakes keeps
record KeptRakes (rakes : List ℕ) : Type 0 where
  full : length rakes ≡ 11

KeptRakes-prop : (rakes : List ℕ) → IsProp (KeptRakes rakes)
KeptRakes-prop rakes = hlevel props

rake_row : (rakes : List ℕ) → KeptRakes rakes → RakeRow
rake_row rakes kept = record { rakes = rakes; full = kept.full }

-- rows with the same rakes are equal
pub rakes_same : (a b : RakeRow) → a.rakes ≡ b.rakes → a ≡ b
unfolding rake_row
rakes_same a b same =
    let P : List ℕ → Type 0 = λ rakes. (kept : KeptRakes rakes) → a ≡ rake_row rakes kept in
    let here : P a.rakes = λ kept. ap (rake_row a.rakes) (KeptRakes-prop a.rakes (record { full = a.full }) kept) in
    subst P same here (record { full = b.full })

-- a setup made from its parts
setup_from : Code → SeatRow → SeatRow → Bool → SeatRow → ℕ → ℕ → ℕ → ℕ → RakeRow → Setup
setup_from code stacks antes dead_antes blinds bring_in small_bet big_bet min_bet rakes =
    record {
      code = code;
      stacks = stacks;
      antes = antes;
      dead_antes = dead_antes;
      blinds = blinds;
      bring_in = bring_in;
      small_bet = small_bet;
      big_bet = big_bet;
      min_bet = min_bet;
      rakes = rakes;
    }

setup_parts : (s : Setup) → s ≡ setup_from s.code s.stacks s.antes s.dead_antes s.blinds s.bring_in s.small_bet s.big_bet s.min_bet s.rakes
unfolding setup_from
setup_parts s = refl

-- setups have the same parts
pub record HaveSameParts (s t : Setup) : Type 0 where
  pub code : s.code ≡ t.code
  pub stacks : s.stacks ≡ t.stacks
  pub antes : s.antes ≡ t.antes
  pub dead_antes : s.dead_antes ≡ t.dead_antes
  pub blinds : s.blinds ≡ t.blinds
  pub bring_in : s.bring_in ≡ t.bring_in
  pub small_bet : s.small_bet ≡ t.small_bet
  pub big_bet : s.big_bet ≡ t.big_bet
  pub min_bet : s.min_bet ≡ t.min_bet
  pub rakes : s.rakes ≡ t.rakes

-- setups with the same parts are equal
pub setups_same : (s t : Setup) → HaveSameParts s t → s ≡ t
setups_same s t same =
    cc (
      setup_parts s,
      setup_parts t,
      same.code,
      same.stacks,
      same.antes,
      same.dead_antes,
      same.blinds,
      same.bring_in,
      same.small_bet,
      same.big_bet,
      same.min_bet,
      same.rakes,
    )
