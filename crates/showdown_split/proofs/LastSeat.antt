-- If one seat is live, the net of each pot goes to this seat.
use Rattle.std.proofs.Common.{◌≡◌, ◌&&◌, ℕ, Bool, true, false, cond, List, [], ◌∷◌, length, map, filter, nat_le, nat_lt, refl, sym, ◌∙◌, ap, subst, arith, inl}
use Rattle.std.proofs.lemmas.Bool.{le-leb}
use Rattle.std.proofs.lemmas.List.{length-map}
use Rattle.std.proofs.lemmas.List.Sums.{length-filter}
use Rattle.card_set.proofs.Sums.{sum_by-map, sum_by-same}
use Rattle.chip_ledger.specs.declared.rakes.RakeRow.{RakeRow}
use Rattle.chip_ledger.specs.Pots.{PlainPot, Stake, after_return, reaching, whole_share, without_returned}
use Rattle.chip_ledger.specs.Rakes.{nets_of}
use Rattle.chip_ledger.proofs.SolePot.{live_stakes, one_pot, sole_pot}
use Rattle.play_event.specs.declared.code.Code.{Code}
use Rattle.play_event.specs.declared.setup.Setup.{Setup}
use Rattle.play_event.specs.Past.{Move}
use Rattle.play_event.specs.Seats.{all_seats, live_count}
use Rattle.play_event.specs.Stakes.{dead_antes_of, nets_after, shares_by_folds, stake_after, stakes_after}
use Rattle.variant_table.specs.Shares.{AllShared, Showdown}
use Rattle.card_set.proofs.Tests.{one_if}

live_anyway : (live : Bool) (n : ℕ) → (live && nat_le 0 n) ≡ live
live_anyway true n = le-leb 0 n (omega arith)
live_anyway false n = refl

-- as many seats may win the only pot as are live
winners_of_one_pot : (stakes : List Stake) → length (reaching (after_return stakes) 0) ≡ live_stakes stakes
unfolding after_return
winners_of_one_pot stakes =
    let left = map (without_returned stakes) stakes in
    let reaches : Stake → Bool = λ s. s.live && nat_le 0 s.chips in
    length-map (filter reaches left) (λ (s : Stake). s.seat)
    ∙ length-filter reaches left
    ∙ sum_by-same (λ (s : Stake). one_if (reaches s)) (λ (s : Stake). one_if s.live) (λ s. ap one_if (live_anyway s.live s.chips)) left
    ∙ sum_by-map (λ (s : Stake). one_if s.live) (without_returned stakes) stakes

shared_if : (code : Code) (showdown : Showdown) (rakes : RakeRow) (pot : PlainPot) (has : Bool)
    → length pot.eligible ≡ 1
    → AllShared code showdown (nets_of rakes (cond has (pot ∷ []) [])) (map whole_share (nets_of rakes (cond has (pot ∷ []) [])))
shared_if code showdown rakes pot true one = (inl (record { one = one; all = λ seat low high. refl }), tt)
shared_if code showdown rakes pot false one = tt

pub last_seat_wins : (setup : Setup) (moves : List Move) (showdown : Showdown)
    → live_count setup moves ≡ 1
    → AllShared setup.code showdown (nets_after setup moves) (shares_by_folds setup moves)
last_seat_wins setup moves showdown alone =
    let stakes = stakes_after setup moves in
    let dead = dead_antes_of setup in
    let pot = one_pot (after_return stakes) dead in
    let live : live_stakes stakes ≡ 1 = sum_by-map (λ (s : Stake). cond s.live 1 0) (stake_after setup moves) (all_seats setup) ∙ alone in
    let pots = sole_pot stakes dead (omega (arith, live)) in
    subst (λ (ps : List PlainPot). AllShared setup.code showdown (nets_of setup.rakes ps) (map whole_share (nets_of setup.rakes ps))) (sym pots)
    (shared_if setup.code showdown setup.rakes pot (nat_lt 0 pot.chips) (winners_of_one_pot stakes ∙ live))
