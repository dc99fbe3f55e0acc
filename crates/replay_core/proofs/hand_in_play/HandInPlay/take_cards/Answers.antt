-- An event of cards is handled by both betting and cards.
use Rattle.std.proofs.Common.{◌≡◌, ◌≤◌, None, refl, sym, subst, ◌∙◌, arith}
use Rattle.std.proofs.lemmas.Result.{err_from_is_err_and}
use Rattle.betting_numbers.specs.LegalMoves.{reason_after}
use Rattle.deal_core.specs.Standing.{IsNow}
use Rattle.play_event.specs.Past.{Past}
use Rattle.replay_core.specs.Together.{StandTogether}
use Rattle.play_event.specs.declared.code.Code.{Code}
use Rattle.play_event.specs.Games.{street_count}
use Rattle.play_event.specs.Said.{said_of}
use Rattle.play_event.specs.Scripts.{with_event}
use Rattle.replay_core.proofs.Joined.{now_at, up_to_after}
use Rattle.replay_core.proofs.Kept.{one_number, same_whole}
use Rattle.replay_core.proofs.Moves.{none_told}
use Rattle.replay_core.proofs.hand_in_play.HandInPlay.take_cards.Goals as goal

pub returns-clause-advanced : goal.returns-clause-advanced
returns-clause-advanced g c =
    let b = c.args.self.now.betting in
    let game = c.due-due.ensures.game in
    let t = c.args.self.now.cards in
    let event = said_of c.args.event.now in
    let now : (past : Past) → StandTogether b t past → IsNow t c.due-due.result c.live-live.result b.setup past =
    λ past both. now_at b t c.due-due.result c.live-live.result past both c.due-due.ensures.value (c.live-live.ensures.stands past both.betting) in
    let legal : (past : Past) → StandTogether b t past → reason_after b past event ≡ None =
    λ past both. c.in_ok-apply_cards.ensures.legal b.rules b.setup past (now past both) (sym (c.settled-settled.ensures.stands past both.betting)) in
    let most : b.street ≤ street_count g.V.Variant.CODE = omega (arith, game.kept.last, g.met.V.Variant.values.streets_is) in
    let within : b.street ≤ street_count b.setup.code = subst (λ (code : Code). b.street ≤ street_count code) (sym game.code) most in
    record {
      refused = λ past both. tt;
      legal = legal;
      stands = λ past both. c.end.ensures.stands (with_event b.setup event past)
          (up_to_after b past event t c.apply_cards.new.cards both c.requires (legal past both) game.kept.first within
          c.apply_cards.ensures.hand.code c.apply_cards.ensures.hand.seats (c.in_ok-apply_cards.ensures.stands b.setup past (now past both)));
      added = λ past both. none_told b past event c.requires;
      same = record { hand = c.end.ensures.same.hand; seats = c.end.ensures.same.seats ∙ c.apply_cards.ensures.hand.seats };
    }

pub returns-in_err-apply_cards-clause-advanced : goal.returns-in_err-apply_cards-clause-advanced
returns-in_err-apply_cards-clause-advanced g c =
    let p = err_from_is_err_and c.from_residual.result c.from_residual.ensures.1 in
    let b = c.args.self.now.betting in
    let t = c.args.self.now.cards in
    rw (p.1, p.2) (record {
      refused = λ past both.
          let now = now_at b t c.due-due.result c.live-live.result past both c.due-due.ensures.value (c.live-live.ensures.stands past both.betting) in
          c.in_err-apply_cards.ensures.illegal b.rules b.setup past now (sym (c.settled-settled.ensures.stands past both.betting));
      legal = λ past both. tt;
      stands = λ past both. tt;
      added = λ past both. tt;
      same = record { hand = record { setup = refl; rules = refl }; seats = c.apply_cards.ensures.hand.seats };
    })

pub returns-in_err-apply_cards-clause-unchanged : goal.returns-in_err-apply_cards-clause-unchanged
returns-in_err-apply_cards-clause-unchanged g c =
    let p = err_from_is_err_and c.from_residual.result c.from_residual.ensures.1 in
    let betting = c.args.self.now.betting in
    rw p.1 (same_whole (λ cards. betting.setup.stacks.seats ≡ cards.seats) (λ cards seats. record { betting = betting; cards = cards; seats = seats })
    (λ cards. one_number _ _) c.apply_cards.new.cards c.args.self.now.cards _ c.args.self.now.seats c.in_err-apply_cards.ensures.unchanged)
