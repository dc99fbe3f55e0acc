use Rattle.std.proofs.Common.{refl, sym, arith}
use Rattle.phh_reading.proofs.hand.read_hand.Goals as goal

pub returns-clause-sound : goal.returns-clause-sound
returns-clause-sound c =
    let valid = c.in_ok-setup.ensures.valid in
    let few = c.in_ok-script.ensures.few in
    let counted = c.in_ok-script.ensures.counted in
    record {
      sound = record {
        valid = record {
          same_antes = valid.same_antes;
          same_blinds = valid.same_blinds;
          few_seats = valid.few_seats;
          stacks = valid.stacks;
          antes = valid.antes;
          blinds = valid.blinds;
          bring_in = valid.bring_in;
          small_bet = valid.small_bet;
          big_bet = valid.big_bet;
          least_bet = valid.least_bet;
          dead_antes = valid.dead_antes;
          heads_up = valid.heads_up;
          stud = valid.stud;
          rakes = c.in_ok-rakes.ensures.most;
        };
        within = record {
          moves = omega (arith, few.moves, counted.moves);
          others = omega (arith, few.other_events, counted.other_events);
        };
        stated = record {
          finish = rw (sym c.players-players.ensures) c.in_ok-finish.ensures.seats;
          wins = λ x is. absurd (cc);
          pot_total = λ x is. absurd (cc);
          values = λ x is. absurd (cc);
        };
        notes = rw (sym c.players-players.ensures) c.in_ok-notes.ensures.allowed;
      };
      rules = refl;
    }

pub returns-clause-moves : goal.returns-clause-moves
returns-clause-moves c = c.in_ok-script.ensures.counted.file_moves
