-- Two setups of one game are the same.
use Rattle.std.proofs.Common.{◌≡◌, ℕ, ◌+◌, slice_index, sym, subst, ◌∙◌, arith}
use Rattle.std.proofs.lemmas.List.{ext_get_or}
use Rattle.chip_ledger.proofs.Same.{seat_row_same_by_seats}
use Rattle.play_event.specs.declared.setup.Setup.{Setup}
use Rattle.hand_canon.proofs.SameSetups.{rakes_same}
use Rattle.hand_canon.proofs.SameSetups as parts
use Rattle.acpc_game.specs.declared.game.Game.{Game}
use Rattle.acpc_reading.specs.RecordView.{IsSetupOf}

pub setups_same : (game : Game) (a b : Setup) → IsSetupOf game a → IsSetupOf game b → a ≡ b
setups_same game a b is it =
    let none : (k : ℕ) → slice_index a.rakes.rakes k ≡ slice_index b.rakes.rakes k = λ k.
    let P : ℕ → Type 0 = λ i. slice_index a.rakes.rakes i ≡ slice_index b.rakes.rakes i in
    subst P (omega arith) (is.rakes (k + 1) ∙ sym (it.rakes (k + 1))) in
    parts.setups_same a b (record {
      code = is.code ∙ sym it.code;
      stacks = is.stacks ∙ sym it.stacks;
      antes = seat_row_same_by_seats a.antes b.antes (is.ante_seats ∙ sym it.ante_seats) (λ n first last. is.antes n ∙ sym (it.antes n));
      dead_antes = is.dead_antes ∙ sym it.dead_antes;
      blinds = is.blinds ∙ sym it.blinds;
      bring_in = is.bring_in ∙ sym it.bring_in;
      small_bet = is.small_bet ∙ sym it.small_bet;
      big_bet = is.big_bet ∙ sym it.big_bet;
      min_bet = is.min_bet ∙ sym it.min_bet;
      rakes = rakes_same a.rakes b.rakes (ext_get_or 0 a.rakes.rakes b.rakes.rakes (a.rakes.full ∙ sym b.rakes.full) (λ k inside. none k));
    })
