-- No more is shared of a pot than its rake leaves.
use Rattle.std.proofs.Common.{◌≡◌, ◌≤◌, ℕ, zero, suc, ◌+◌, ◌-◌, ◌*◌, ◌/◌, ◌%◌, nat_lt, inl, inr, Bool, true, false, if◌then◌else◌, List, [], ◌∷◌, All, length, slice_get, slice_index, ◌==◌, map, sum_by, refl, sym, ap, subst, ◌∙◌, arith}
use Rattle.std.specs.List.{list_any}
use Rattle.std.specs.Option.{option_map_or}
use Rattle.std.proofs.Math.Nat.{mul-one}
use Rattle.std.proofs.lemmas.Bool.{cases_lt}
use Rattle.card_set.proofs.Sums.{sum_by-plus}
use Rattle.chip_ledger.specs.declared.pots.Pot.{Pot}
use Rattle.chip_ledger.specs.declared.rakes.RakeRow.{RakeRow}
use Rattle.chip_ledger.specs.declared.live_row.LiveRow.{LiveRow}
use Rattle.chip_ledger.specs.declared.seat_row.SeatRow.{SeatRow}
use Rattle.chip_ledger.specs.LiveRow.{flag_of, flagged}
use Rattle.chip_ledger.specs.PotRow.{plain, plain_pots, plain_shares, pots_in, shared_in, shares_in}
use Rattle.chip_ledger.specs.RakeRow.{rake_of}
use Rattle.chip_ledger.specs.Rakes.{HaveRakes, chips_in, less_rake, nets_from, nets_of}
use Rattle.chip_ledger.specs.Pots.{PlainPot}
use Rattle.chip_ledger.specs.Seat.{seats_of}
use Rattle.chip_ledger.specs.SeatRow.{amount_of, total_of}
use Rattle.chip_ledger.proofs.OneSeat.{sum_of_none}
use Rattle.chip_ledger.proofs.Seats.{sum-seats}
use Rattle.variant_table.specs.Division.{AreHalves, AreParts, count_to, divided}
use Rattle.play_event.specs.declared.code.Code.{Code}
use Rattle.play_event.specs.declared.setup.Setup.{Setup}
use Rattle.play_event.specs.Past.{Past}
use Rattle.variant_table.specs.Shares.{AllShared, AreContested, AreOfOne, AreSharesOf, Ranking, Showdown, is_contender, ranking_of}
use Rattle.showdown_split.proofs.Bests.{count_some}
use Rattle.showdown_split.proofs.FirstRake.{have_rakes}
use Rattle.showdown_split.proofs.Flagged.{is_flagged-flag, length-flagged, sum_for_each}
use Rattle.showdown_split.proofs.Parts.{parts_total}
use Rattle.hand_canon.specs.declared.trace.Trace.{Trace}
use Rattle.hand_canon.specs.LegalHand.{IsShareable, showdown_in}
use Rattle.play_event.specs.TraceCore.{core_of}
use Rattle.hand_canon.specs.WholeTrace.{IsTraceOf}

-- a seat that does not win has no part
no_part : (seats : ℕ) (wins : ℕ → Bool) (chips n : ℕ) (b : Bool) → wins n ≡ b → ¬ (b ≡ true) → divided seats wins chips n ≡ 0
no_part seats wins chips n true is not = absurd (not refl)
no_part seats wins chips n false is not =
    let part = chips / count_to wins seats + (if nat_lt (count_to wins (n - 1)) (chips % count_to wins seats) then 1 else 0) in
    ap (λ (b : Bool). if b then part else 0) is

-- the parts of chips are all of them, or none if nobody wins
parts_within : (seats : ℕ) (contending : ℕ → Bool) (beats : ℕ → ℕ → Type 0) (chips : ℕ) (share : ℕ → ℕ) → AreParts seats contending beats chips share → sum_by share (seats_of seats) ≤ chips
parts_within seats contending beats chips share are =
    let same = sum-seats share (divided seats are.wins chips) seats are.parts in
    elim (cases_lt 0 (count_to are.wins seats)) [
      | inl some ↦ omega (arith, same, parts_total seats are.wins chips some)
      | inr none ↦
          omega (
            arith,
            same,
            sum_of_none (divided seats are.wins chips) seats (λ n low high.
                no_part seats are.wins chips n (are.wins n) refl (λ won. let some = count_some are.wins seats n low high won in absurd (omega (arith, none, some)))),
          )
    ]

halves_within : (seats : ℕ) (contending : ℕ → Bool) (beats low : ℕ → ℕ → Type 0) (chips : ℕ) (share : ℕ → ℕ) → AreHalves seats contending beats low chips share → sum_by share (seats_of seats) ≤ chips
halves_within seats contending beats low chips share are =
    let half : chips / 2 ≤ chips = omega arith in
    omega (
      arith,
      half,
      sum-seats share (λ n. are.high n + are.low n) seats are.together,
      sum_by-plus are.high are.low (seats_of seats),
      parts_within seats contending beats (chips - chips / 2) are.high are.high_parts,
      parts_within seats contending low (chips / 2) are.low are.low_parts,
    )

pub contested_within : (seats : ℕ) (contending : ℕ → Bool) (ranking : Ranking) (chips : ℕ) (share : ℕ → ℕ) → AreContested seats contending ranking chips share → sum_by share (seats_of seats) ≤ chips
contested_within seats contending ranking chips share (inl whole) = parts_within seats contending ranking.beats chips share whole.1
contested_within seats contending ranking chips share (inr halves) = halves_within seats contending ranking.beats ranking.beats_low chips share halves.1

-- a pot that one seat may win is its share
pub one_whole : (seats : ℕ) (row : LiveRow) (pot : PlainPot) (share : ℕ → ℕ) → row.seats ≡ seats → pot.eligible ≡ flagged row → AreOfOne seats pot share → sum_by share (seats_of seats) ≡ pot.chips
one_whole seats row pot share same is one =
    let count : count_to (flag_of row) seats ≡ 1 = ap (count_to (flag_of row)) (sym same) ∙ sym (length-flagged row) ∙ ap length (sym is) ∙ one.one in
    sum-seats share (λ n. if flag_of row n then pot.chips else 0) seats (λ n low high.
    one.all n low high
    ∙ ap (λ (ns : List ℕ). if list_any (λ m. m == n) ns then pot.chips else 0) is
    ∙ ap (λ (b : Bool). if b then pot.chips else 0) (is_flagged-flag row n low))
    ∙ sum_for_each (flag_of row) pot.chips seats
    ∙ ap (λ (n : ℕ). pot.chips * n) count
    ∙ mul-one pot.chips

-- the shares of a pot
pot_within : (code : Code) (showdown : Showdown) (row : LiveRow) (pot : PlainPot) (share : ℕ → ℕ) → row.seats ≡ showdown.seats → pot.eligible ≡ flagged row → AreSharesOf code showdown pot share → sum_by share (seats_of showdown.seats) ≤ pot.chips
pot_within code showdown row pot share same is (inl one) = omega (arith, one_whole showdown.seats row pot share same is one)
pot_within code showdown row pot share same is (inr shown) =
    contested_within showdown.seats (is_contender showdown pot) (ranking_of code showdown) pot.chips share shown.contested

-- the chips of a pot at an index, and its shares
abbrev pub pot_at : List PlainPot → ℕ → ℕ
pot_at pots k = option_map_or (λ (p : PlainPot). p.chips) (slice_get pots k) 0

abbrev pub share_at : List SeatRow → ℕ → ℕ
share_at rows k = option_map_or total_of (slice_get rows k) 0

-- pot by pot
all_within : (code : Code) (showdown : Showdown) (rakes : RakeRow) (first : ℕ) (pots : List Pot) (rows : List SeatRow) (k : ℕ)
    → All (λ (pot : Pot). pot.eligible.seats ≡ showdown.seats) pots
    → All (λ (row : SeatRow). row.seats ≡ showdown.seats) rows
    → AllShared code showdown (nets_from first rakes (map plain pots)) (map amount_of rows)
    → rake_of rakes (first + k) ≤ pot_at (map plain pots) k
    → share_at rows k + rake_of rakes (first + k) ≤ pot_at (map plain pots) k
all_within code showdown rakes first [] [] k one other all have = omega (arith, have)
all_within code showdown rakes first [] (row ∷ rows) k one other all have = absurd all
all_within code showdown rakes first (pot ∷ pots) [] k one other all have = absurd all
all_within code showdown rakes first (pot ∷ pots) (row ∷ rows) zero one other all have =
    let here : first + 0 ≡ first = omega arith in
    let seats : row.seats ≡ showdown.seats = other zero row (omega arith) in
    let net : PlainPot = less_rake (rake_of rakes first) (plain pot) in
    omega (
      arith,
      have,
      ap (rake_of rakes) here,
      ap (λ n. sum_by (amount_of row) (seats_of n)) seats,
      pot_within code showdown pot.eligible net (amount_of row) (one zero pot (omega arith)) refl all.0,
    )
all_within code showdown rakes first (pot ∷ pots) (row ∷ rows) (suc k) one other all have =
    let later : suc first + k ≡ first + suc k = omega arith in
    subst (λ (n : ℕ). share_at rows k + rake_of rakes n ≤ pot_at (map plain pots) k) later
    (all_within code showdown rakes (suc first) pots rows k (λ i d within. one (suc i) d (omega (arith, within))) (λ i d within. other (suc i) d (omega (arith, within))) all.1
    (subst (λ (n : ℕ). rake_of rakes n ≤ pot_at (map plain pots) k) (sym later) have))

pub shares_and_rakes : (setup : Setup) (past : Past) (trace : Trace) → IsShareable setup (core_of setup past) → IsTraceOf setup past trace
    → (number : ℕ) → shared_in trace.shares number + rake_of setup.rakes number ≤ chips_in (plain_pots trace.pots) number
shares_and_rakes setup past trace can is number =
    let k = number - 1 in
    let at : 1 + k - 1 ≡ k = omega arith in
    let rake : rake_of setup.rakes (1 + k) ≡ rake_of setup.rakes number = ap (slice_index setup.rakes.rakes) at in
    let said : (core_of setup past).pots ≡ plain_pots trace.pots = ap (λ core. core.pots) (sym is.core) in
    let have : HaveRakes (plain_pots trace.pots) setup.rakes =
    subst (λ (pots : List PlainPot). HaveRakes pots setup.rakes) said (have_rakes (core_of setup past).pots setup.rakes can.no_rake_above) in
    let shared : AllShared setup.code (showdown_in setup (core_of setup past)) (nets_of setup.rakes (plain_pots trace.pots)) (plain_shares trace.shares) =
    subst (λ (pots : List PlainPot). AllShared setup.code (showdown_in setup (core_of setup past)) (nets_of setup.rakes pots) (plain_shares trace.shares)) said is.shares.shared in
    omega (
      arith,
      rake,
      all_within setup.code (showdown_in setup (core_of setup past)) setup.rakes 1 (pots_in trace.pots) (shares_in trace.shares) k is.seats.eligible is.seats.shares shared (omega (arith, rake, have number)),
    )
