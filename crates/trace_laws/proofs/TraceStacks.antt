-- The finishing stacks of a whole trace and its pots are the starting stacks and the shares.
use Rattle.std.proofs.Common.{◌≡◌, ℕ, suc, ◌+◌, List, [], ◌∷◌, All, map, sum_by, ap, ◌∙◌, arith}
use Rattle.std.proofs.lemmas.List.Sums.{sum-map, sum_by-cons}
use Rattle.card_set.proofs.Sums.{sum_by-none, sum_by-plus, sum_by-same}
use Rattle.chip_ledger.specs.declared.pots.Pot.{Pot}
use Rattle.chip_ledger.specs.declared.seat_row.SeatRow.{SeatRow}
use Rattle.chip_ledger.specs.PotRow.{plain_shares, pots_in, shares_in}
use Rattle.chip_ledger.specs.Seat.{seats_of}
use Rattle.chip_ledger.specs.SeatRow.{amount_of, total_of}
use Rattle.chip_ledger.proofs.Seats.{sum-seats}
use Rattle.play_event.specs.declared.setup.Rules.{Rules}
use Rattle.play_event.specs.declared.setup.Setup.{Setup}
use Rattle.play_event.specs.Chips.{chips_left, chips_put}
use Rattle.play_event.specs.Laws.{AreLegal}
use Rattle.play_event.specs.Past.{Past, moves_of}
use Rattle.play_event.specs.CurrentBet.{all_chips_put}
use Rattle.play_event.specs.Said.{Said}
use Rattle.play_event.specs.Scripts.{past_of}
use Rattle.play_event.specs.Seats.{all_seats}
use Rattle.play_event.specs.Stakes.{finishing_stack, returned_after}
use Rattle.play_event.specs.ValidSetup.{IsValid}
use Rattle.play_event.proofs.ChipLaws.{put_and_left}
use Rattle.hand_canon.specs.declared.trace.Trace.{Trace}
use Rattle.hand_canon.specs.WholeTrace.{IsTraceOf}
use Rattle.trace_laws.proofs.TraceChips.{pots_and_returns, returned_total}
use Rattle.canon_laws.proofs.SameCore.{plain_again}

-- the shares of all seats together are those of all pots together
shares_total : (rows : List SeatRow) (seats : ℕ) → All (λ (row : SeatRow). row.seats ≡ seats) rows
    → sum_by (λ n. sum_by (λ share. share n) (map amount_of rows)) (seats_of seats) ≡ sum_by total_of rows
shares_total [] seats same = sum_by-none (seats_of seats)
shares_total (row ∷ rows) seats same =
    let rest : ℕ → ℕ = λ n. sum_by (λ share. share n) (map amount_of rows) in
    let here : row.seats ≡ seats = same 0 row (omega arith) in
    let each : sum_by (λ n. sum_by (λ share. share n) (map amount_of (row ∷ rows))) (seats_of seats) ≡ sum_by (λ n. amount_of row n + rest n) (seats_of seats) =
    sum_by-same (λ n. sum_by (λ share. share n) (map amount_of (row ∷ rows))) (λ n. amount_of row n + rest n)
    (λ n. sum_by-cons (λ (share : ℕ → ℕ). share n) (amount_of row) (map amount_of rows)) (seats_of seats) in
    omega (
      arith,
      each,
      sum_by-plus (amount_of row) rest (seats_of seats),
      ap (λ n. sum_by (amount_of row) (seats_of n)) here,
      sum_by-cons total_of row rows,
      shares_total rows seats (λ k d within. same (suc k) d (omega (arith, within))),
    )

-- what the players finish with
finish_total : (setup : Setup) (past : Past) (trace : Trace) → IsTraceOf setup past trace
    → total_of trace.finish ≡ sum_by (chips_left setup (moves_of past)) (all_seats setup) + (total_of trace.pots.returned + sum_by total_of (shares_in trace.shares))
finish_total setup past trace is =
    let moves = moves_of past in
    let left = chips_left setup moves in
    let back = returned_after setup moves in
    let shared : ℕ → ℕ = λ n. sum_by (λ share. share n) (plain_shares trace.shares) in
    let each : sum_by (amount_of trace.finish) (all_seats setup) ≡ sum_by (λ n. left n + (back n + shared n)) (all_seats setup) =
    sum-seats (amount_of trace.finish) (λ n. left n + (back n + shared n)) setup.stacks.seats (λ n low high.
    is.shares.finishes n low high ∙ ap (λ played. finishing_stack setup played (plain_shares trace.shares) n) (plain_again setup moves)) in
    omega (
      arith,
      ap (λ n. sum_by (amount_of trace.finish) (seats_of n)) is.seats.finish,
      each,
      sum_by-plus left (λ n. back n + shared n) (all_seats setup),
      sum_by-plus back shared (all_seats setup),
      returned_total setup past trace is,
      shares_total (shares_in trace.shares) setup.stacks.seats is.seats.shares,
    )

-- what is put in and what is left are the stacks
stacks_total : (setup : Setup) (rules : Rules) (events : List Said) → IsValid setup → AreLegal setup rules events
    → all_chips_put setup (moves_of (past_of setup events)) + sum_by (chips_left setup (moves_of (past_of setup events))) (all_seats setup) ≡ total_of setup.stacks
stacks_total setup rules events valid legal =
    let moves = moves_of (past_of setup events) in
    omega (
      arith,
      sum-map (chips_put setup moves) (all_seats setup),
      sum_by-plus (chips_put setup moves) (chips_left setup moves) (all_seats setup),
      sum_by-same (λ n. chips_put setup moves n + chips_left setup moves n) (amount_of setup.stacks) (put_and_left setup rules events valid.antes legal) (all_seats setup),
    )

pub stacks_and_shares : (setup : Setup) (rules : Rules) (events : List Said) (trace : Trace) → IsValid setup → AreLegal setup rules events → IsTraceOf setup (past_of setup events) trace
    → total_of trace.finish + sum_by (λ (pot : Pot). pot.chips) (pots_in trace.pots) ≡ total_of setup.stacks + sum_by total_of (shares_in trace.shares)
stacks_and_shares setup rules events trace valid legal is =
    omega (
      arith,
      finish_total setup (past_of setup events) trace is,
      stacks_total setup rules events valid legal,
      pots_and_returns setup (past_of setup events) trace is,
    )
