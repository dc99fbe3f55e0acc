-- The setup is the one that is drawn.
use Rattle.std.proofs.Common.{◌≡◌, ℕ, ◌+◌, if◌then◌else◌, refl, sym, ap, ◌∙◌, arith}
use Rattle.play_event.specs.Streets.{is_stud_game}
use Rattle.hand_gen.specs.Draws.{choice_among, number_after}
use Rattle.hand_gen.specs.Setups.{blind_of, seats_drawn}
use Rattle.hand_gen.proofs.SetupLaws.{behind_one}
use Rattle.hand_gen.proofs.setups.setup_at.Goals as goal
use Rattle.card_set.proofs.Tests.{if_not_none}
use Rattle.chip_ledger.proofs.RowLists.{no_rake}

pub returns : goal.returns
returns c =
    let number : ℕ = c.args.number in
    let first : c.advance_number-first.result ≡ number_after 1 number = c.advance_number-first.ensures in
    let seats : c.stacks.result.seats ≡ seats_drawn number = c.stacks.ensures.seats ∙ ap (λ n. 2 + n) (c.drawn.ensures.value ∙ ap (choice_among 3) first) in
    record {
      code = c.find_game-code.ensures;
      seats = seats;
      same_antes = c.even_row.ensures.seats ∙ sym c.stacks.ensures.seats;
      same_blinds = c.blinds.ensures.seats ∙ sym c.stacks.ensures.seats;
      stacks = λ seat least most.
          c.stacks.ensures.stacks seat least (omega (arith, most, c.stacks.ensures.seats))
          ∙ ap (λ n. 100 + choice_among 401 (number_after seat n)) first
          ∙ sym (ap (λ n. 100 + choice_among 401 n) (behind_one seat number));
      antes = λ seat least most.
          c.even_row.ensures.even seat least (omega (arith, most, c.stacks.ensures.seats)) ∙ c.chips_where.ensures ∙ ap (λ b. if b then 1 else 0) c.is_stud-stud.ensures;
      blinds = λ seat least most.
          c.blinds.ensures.blinds seat least (omega (arith, most, c.stacks.ensures.seats))
          ∙ ap (λ b. if b then 0 else blind_of (2 + c.drawn.result) seat) c.is_stud-stud.ensures
          ∙ ap (λ n. if is_stud_game c.find_game-code.result then 0 else blind_of n seat) (sym c.stacks.ensures.seats);
      dead_antes = refl;
      bring_in = c.chips_where-2.ensures ∙ ap (λ b. if b then 1 else 0) c.is_stud-stud.ensures;
      small_bet = c.chips_where-3.ensures ∙ ap (λ b. if b then 2 else 0) c.is_fixed-fixed.ensures;
      big_bet = c.chips_where-4.ensures ∙ ap (λ b. if b then 4 else 0) c.is_fixed-fixed.ensures;
      least_bet = c.chips_where-5.ensures ∙ if_not_none c.is_fixed-fixed.result 2 ∙ ap (λ b. if b then 0 else 2) c.is_fixed-fixed.ensures;
      rakes = λ pot. no_rake c.none.result c.none.ensures pot;
    }
