-- Before the first card the numbers are what was posted.
use Rattle.std.proofs.Common.{ℕ, ◌-◌, Bool, true, ◌&&◌, nat_lt, nat_le, if◌then◌else◌, sum_by, [], ◌≡◌, refl, sym, ap, subst, ◌∙◌, arith}
use Rattle.chip_ledger.specs.Greatest.{greatest}
use Rattle.chip_ledger.specs.LiveRow.{flag_of}
use Rattle.chip_ledger.specs.Seat.{seats_of}
use Rattle.chip_ledger.specs.SeatRow.{amount_of}
use Rattle.chip_ledger.proofs.SeatLists.{count_seats}
use Rattle.chip_ledger.proofs.Seats.{map-seats}
use Rattle.card_set.proofs.Counting.{count_all}
use Rattle.play_event.specs.declared.setup.Setup.{Setup}
use Rattle.play_event.specs.Chips.{blind_posted, posted}
use Rattle.play_event.specs.Streets.{unit}
use Rattle.play_laws.proofs.AtStart.{all_live, first_deal}
use Rattle.betting_numbers.specs.Posting.{HasPosted}
use Rattle.betting_numbers.specs.declared.starting.Posted.{Posted}
use Rattle.betting_numbers.proofs.Posting.{bet_inside, blind_bet_at_start, put_within, sum_seats}
use Rattle.betting_numbers.proofs.starting.start.Goals as goal
use Rattle.play_laws.proofs.LiveSeats.{one_of_several}

-- all seats have posted
all_posted : (setup : Setup) (count : ℕ) (p : Posted) → count ≡ setup.stacks.seats → HasPosted setup count p → HasPosted setup setup.stacks.seats p
all_posted setup count p all has = subst (λ (n : ℕ). HasPosted setup n p) all has

pub invariant_of-result-clause-blind_bet_is : goal.invariant_of-result-clause-blind_bet_is
invariant_of-result-clause-blind_bet_is c =
    blind_bet_at_start c.args.setup.now c.loop-index.posted (all_posted c.args.setup.now c.loop-index.index c.loop-index.posted (omega (arith, c.loop-index.auto.index-end, c.loop-index-test.false)) c.loop-index.invariant)

pub returns-clause-stands : goal.returns-clause-stands
returns-clause-stands c =
    let posts = (all_posted c.args.setup.now c.loop-index.index c.loop-index.posted (omega (arith, c.loop-index.auto.index-end, c.loop-index-test.false)) c.loop-index.invariant) in
    let setup = c.args.setup.now in
    record {
      valid = c.requires.valid;
      standing = record {
        puts = λ seat i. omega (arith, posts.puts seat i.first i.last);
        bets = λ seat i. omega (arith, posts.bets seat i.first i.last);
        live = λ seat i. posts.live seat i.first i.last;
        moved = λ seat i. c.new.ensures.all_false seat;
        acted_since_raise = λ seat i. c.new-2.ensures.all_false seat;
        last = refl;
        raises = refl;
        full_raise = refl;
        full_bet =
            c.full_bet.ensures
            ∙ ap (λ (size : ℕ). if nat_le size c.loop-index.posted.current_bet then c.loop-index.posted.current_bet else 0) c.requires.size
            ∙ ap (λ (current_bet : ℕ). if nat_le (unit setup 1) current_bet then current_bet else 0) (blind_bet_at_start setup c.loop-index.posted posts);
        always_floor = refl;
        bet_or_bring_in_made = refl;
      };
      turn_is = first_deal c.args.setup.now;
      someone = one_of_several c.args.setup.now [] (all_live c.args.setup.now);
      early = refl;
      unshown = λ other unended seat live. refl;
    }

pub invariant_of-result-clause-within : goal.invariant_of-result-clause-within
invariant_of-result-clause-within c = put_within c.args.setup.now c.loop-index.posted (all_posted c.args.setup.now c.loop-index.index c.loop-index.posted (omega (arith, c.loop-index.auto.index-end, c.loop-index-test.false)) c.loop-index.invariant) c.requires.reach

pub invariant_of-result-clause-inside : goal.invariant_of-result-clause-inside
invariant_of-result-clause-inside c = bet_inside c.args.setup.now c.loop-index.posted (all_posted c.args.setup.now c.loop-index.index c.loop-index.posted (omega (arith, c.loop-index.auto.index-end, c.loop-index-test.false)) c.loop-index.invariant)

pub invariant_of-result-clause-pot_is : goal.invariant_of-result-clause-pot_is
invariant_of-result-clause-pot_is c =
    let posts = (all_posted c.args.setup.now c.loop-index.index c.loop-index.posted (omega (arith, c.loop-index.auto.index-end, c.loop-index-test.false)) c.loop-index.invariant) in
    let setup = c.args.setup.now in
    let puts = c.loop-index.posted.puts in
    posts.pot
    ∙ sym (sum_seats (amount_of puts) (posted setup) setup.stacks.seats posts.puts)
    ∙ sym (ap (λ (n : ℕ). sum_by (amount_of puts) (seats_of n)) posts.put_seats)

pub invariant_of-result-clause-current_bet_is : goal.invariant_of-result-clause-current_bet_is
invariant_of-result-clause-current_bet_is c =
    let posts = (all_posted c.args.setup.now c.loop-index.index c.loop-index.posted (omega (arith, c.loop-index.auto.index-end, c.loop-index-test.false)) c.loop-index.invariant) in
    let setup = c.args.setup.now in
    posts.current_bet ∙ sym (ap greatest (map-seats (amount_of c.loop-index.posted.bets) (blind_posted setup) setup.stacks.seats posts.bets))

pub invariant_of-result-clause-live_is : goal.invariant_of-result-clause-live_is
invariant_of-result-clause-live_is c =
    let n = c.args.setup.now.stacks.seats in
    sym (count_seats (flag_of c.loop-index.posted.live) (λ k. true) n (all_posted c.args.setup.now c.loop-index.index c.loop-index.posted (omega (arith, c.loop-index.auto.index-end, c.loop-index-test.false)) c.loop-index.invariant).live ∙ count_all (λ k. true) 1 n (λ k. refl))

pub invariant_of-result-clause-able_is : goal.invariant_of-result-clause-able_is
invariant_of-result-clause-able_is c =
    let posts = (all_posted c.args.setup.now c.loop-index.index c.loop-index.posted (omega (arith, c.loop-index.auto.index-end, c.loop-index-test.false)) c.loop-index.invariant) in
    let p = c.loop-index.posted in
    let setup = c.args.setup.now in
    let left : ℕ → Bool = λ k. nat_lt 0 (amount_of setup.stacks k - posted setup k) in
    posts.able
    ∙ sym (count_seats (λ k. flag_of p.live k && nat_lt 0 (amount_of setup.stacks k - amount_of p.puts k)) left setup.stacks.seats (λ k low high.
    ap (λ (live : Bool). live && nat_lt 0 (amount_of setup.stacks k - amount_of p.puts k)) (posts.live k low high)
    ∙ ap (λ (put : ℕ). nat_lt 0 (amount_of setup.stacks k - put)) (posts.puts k low high)))
