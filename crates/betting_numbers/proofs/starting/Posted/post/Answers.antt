-- Each number counts one more seat.
use Rattle.std.proofs.Common.{◌≡◌, ℕ, ◌+◌, ◌-◌, ◌≤◌, ◌==◌, Bool, true, nat_lt, cond, max, count_by, sym, ap, ◌∙◌, arith}
use Rattle.chip_ledger.specs.LiveRow.{flag_of}
use Rattle.chip_ledger.specs.Seat.{seats_of}
use Rattle.chip_ledger.specs.SeatRow.{amount_of}
use Rattle.chip_ledger.specs.declared.seat_row.TheConstants.{MOST_AMOUNT}
use Rattle.chip_ledger.proofs.Seats.{sum_of_seats_more}
use Rattle.chip_ledger.proofs.SeatLists.{count_more, greatest_more}
use Rattle.play_event.specs.Chips.{blind_posted, posted}
use Rattle.betting_numbers.specs.Posting.{big_of}
use Rattle.betting_numbers.proofs.Posting.{last_of_more, less_left, one_more}
use Rattle.betting_numbers.proofs.starting.Posted.post.Goals as goal

pub returns : goal.returns
returns c =
    let setup = c.args.setup.now in
    let was = c.requires.posted in
    let n = c.args.index in
    let bet : c.min-bet.result ≡ blind_posted setup (n + 1) = omega (arith, c.min-bet.ensures, c.saturating_sub.ensures, c.get-stack.ensures, c.get-ante.ensures, c.get-blind.ensures) in
    let put : c.get-ante.result + c.min-bet.result ≡ posted setup (n + 1) = omega (arith, bet, c.get-ante.ensures) in
    let most : amount_of setup.stacks (n + 1) ≤ MOST_AMOUNT = setup.stacks.bounded (n + 1 - 1) in
    let left : nat_lt (c.get-ante.result + c.min-bet.result) c.get-stack.result ≡ nat_lt 0 (amount_of setup.stacks (n + 1) - posted setup (n + 1)) =
    less_left (c.get-ante.result + c.min-bet.result) c.get-stack.result
    ∙ ap (λ (stack : ℕ). nat_lt 0 (stack - (c.get-ante.result + c.min-bet.result))) c.get-stack.ensures
    ∙ ap (λ (put : ℕ). nat_lt 0 (amount_of setup.stacks (n + 1) - put)) put in
    let big : c.max-self-2.result ≡ max (big_of (amount_of setup.blinds) n) (amount_of setup.blinds (n + 1)) = omega (arith, c.max-self-2.ensures, was.big, c.get-blind.ensures) in
    record {
      bet_seats = c.set.ensures.seats ∙ was.bet_seats;
      put_seats = c.set-2.ensures.seats ∙ was.put_seats;
      live_seats = c.set-3.ensures.seats ∙ was.live_seats;
      bets = one_more (λ k. amount_of c.set.new.self k ≡ blind_posted setup k) n (λ k low high. omega (arith, c.set.ensures.others k low (λ same. omega (arith, same, high)), was.bets k low high)) (c.set.ensures.amount ∙ bet);
      puts = one_more (λ k. amount_of c.set-2.new.self k ≡ posted setup k) n (λ k low high. omega (arith, c.set-2.ensures.others k low (λ same. omega (arith, same, high)), was.puts k low high)) (c.set-2.ensures.amount ∙ put);
      live = one_more (λ k. flag_of c.set-3.new.self k ≡ true) n (λ k low high. c.set-3.ensures.others k low (λ same. omega (arith, same, high)) ∙ was.live k low high) c.set-3.ensures.flag;
      pot = omega (arith, was.pot, put, sum_of_seats_more (posted setup) n);
      pot_bounded = omega (arith, was.pot_bounded, put, most, c.requires.posts.reach (n + 1));
      current_bet = omega (arith, c.max-self.ensures, was.current_bet, bet, greatest_more (blind_posted setup) n);
      current_bet_bounded = omega (arith, c.max-self.ensures, was.current_bet_bounded, bet, most);
      able =
          c.one_more-self.ensures.value
          ∙ ap (λ (count : ℕ). count + cond (nat_lt (c.get-ante.result + c.min-bet.result) c.get-stack.result) 1 0) was.able
          ∙ ap (λ (left : Bool). count_by (λ k. nat_lt 0 (amount_of setup.stacks k - posted setup k)) (seats_of n) + cond left 1 0) left
          ∙ sym (count_more (λ k. nat_lt 0 (amount_of setup.stacks k - posted setup k)) n);
      able_within = omega (arith, c.one_more-self.ensures.within, was.able_within);
      big = big ∙ sym (greatest_more (amount_of setup.blinds) n);
      last =
          c.last_after-self.ensures.value
          ∙ ap (λ (blind : ℕ). cond (blind == c.max-self-2.result) (n + 1) c.args.self.now.last_big) c.get-blind.ensures
          ∙ ap (λ (big : ℕ). cond (amount_of setup.blinds (n + 1) == big) (n + 1) c.args.self.now.last_big) big
          ∙ ap (λ (last : ℕ). cond (amount_of setup.blinds (n + 1) == max (big_of (amount_of setup.blinds) n) (amount_of setup.blinds (n + 1))) (n + 1) last) was.last
          ∙ sym (last_of_more (amount_of setup.blinds) n);
      last_within = c.last_after-self.ensures.within;
    }
