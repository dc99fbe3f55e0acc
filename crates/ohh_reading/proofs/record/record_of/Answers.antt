use Rattle.std.proofs.Common.{◌-◌, ◌∙◌, refl, sym, arith}
use Rattle.std.proofs.lemmas.Bool.{false≢true}
use Rattle.ohh_reading.proofs.record.record_of.Goals as goal

pub returns-clause-history : goal.returns-clause-history
returns-clause-history c =
    let front = c.requires.front in
    let stakes = c.requires.stakes in
    let sizes = c.make_bet_sizes-sizes.ensures in
    record {
      sound = record {
        valid = record {
          same_antes = stakes.same_antes;
          same_blinds = stakes.same_blinds;
          few_seats = omega (arith, c.requires.seats, front.few, front.game.seats);
          stacks = λ seat first last. c.requires.sizes (seat - 1) (omega (arith, first, last));
          antes = stakes.antes;
          blinds = stakes.blinds;
          bring_in = rw front.game.blinds sizes.bring_in;
          small_bet = sizes.small_bet;
          big_bet = sizes.big_bet;
          least_bet = sizes.min_bet;
          dead_antes = stakes.dead_antes;
          heads_up = stakes.heads_up;
          stud = λ stud. absurd (false≢true (sym front.game.blinds ∙ stud));
          rakes = c.requires.paid.rakes;
        };
        within = c.requires.within;
        stated = record {
          finish = λ x is. absurd (cc);
          wins = rw c.requires.seats c.requires.paid.wins;
          pot_total = c.requires.paid.total;
          values = λ x is. absurd (cc);
        };
        notes = rw c.requires.seats c.requires.allowed;
      };
      rules = refl;
    }
