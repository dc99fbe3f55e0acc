-- By the scores the shown seats compare as in the game.
use Rattle.std.proofs.Common.{◌≡◌, ℕ, true, IsTrue, ◌↔◌, sym, ◌∙◌, subst}
use Rattle.std.specs.Option.{is_some}
use Rattle.card_set.specs.Row.{cards_of}
use Rattle.card_set.specs.declared.pick.Pick.{Pick}
use Rattle.hand_order.specs.Best.{Beats, IsLess, IsPointsOfHolding}
use Rattle.hand_order.specs.Choices.{CanPick, allowed}
use Rattle.play_event.specs.Games.{game_of}
use Rattle.variant_table.specs.Orders.{award_of, second_of}
use Rattle.variant_table.specs.Shares.{HasHand}
use Rattle.variant_table.specs.TableLaws.{same_held}
use Rattle.showdown_split.specs.Hands.{holding}
use Rattle.showdown_split.specs.Scores.{points_of}
use Rattle.showdown_split.proofs.Judged.{IsJudged, judged_beats, judged_hand, judged_low}
use Rattle.showdown_split.proofs.scoring.seat_scores.Goals as goal

pub returns : goal.returns
returns g c contending inside =
    let v = g.V.Variant in
    let award = g.V.Award.HandOrder in
    let second = g.V.Second.HandOrder in
    let laws = g.met.V.Variant in
    let hands = c.args.hands.now in
    let board = cards_of c.args.board.now in
    let high = points_of c.scores_of-high.result in
    let low = points_of c.low_scores-low.result in
    let pick_is : v.PICK ≡ (game_of v.CODE).pick = laws.values.pick_is in
    let held_same : second.HELD ≡ award.HELD = laws.second.held_is ∙ same_held v.CODE ∙ sym laws.award.held_is in
    let first : (n : ℕ) → contending n ≡ true → IsJudged award.HELD award.is_hand award.is_weaker award.points v.PICK (holding hands n) board (high n) =
    λ n contends. let range = inside n contends in record {
      usable = c.requires.usable n range.0 range.1 range.2;
      different = c.requires.different n range.0 range.1 range.2;
      points_are =
          subst (λ (pick : Pick). IsPointsOfHolding award.is_hand award.is_weaker award.points (allowed pick (holding hands n) board) (high n)) c.PICK.ensures
          (c.scores_of-high.ensures n range.0 range.1 range.2);
    } in
    let later : v.SPLIT ≡ true → (n : ℕ) → contending n ≡ true → IsJudged second.HELD second.is_hand second.is_weaker second.points v.PICK (holding hands n) board (low n) =
    λ two n contends. let range = inside n contends in record {
      usable = subst (λ (held : ℕ). CanPick held v.PICK (holding hands n) board) (sym held_same) (c.requires.usable n range.0 range.1 range.2);
      different = c.requires.different n range.0 range.1 range.2;
      points_are = c.low_scores-low.ensures.two two n range.0 range.1 range.2;
    } in
    record {
      beats = λ m n of_m of_n.
          subst (λ (pick : Pick). IsLess (high n) (high m) ↔ Beats (award_of v.CODE).is_hand (award_of v.CODE).is_weaker (allowed pick (holding hands m) board) (allowed pick (holding hands n) board)) pick_is
          (judged_beats award.HELD award.is_hand award.is_weaker award.points (award_of v.CODE) v.PICK (holding hands m) (holding hands n) board (high m) (high n) g.met.V.Award.HandOrder.lawful laws.award (first m of_m) (first n of_n));
      beats_low = λ shown m n of_m of_n.
          let two = laws.values.split_is ∙ shown.2.0 in
          subst (λ (pick : Pick). IsLess (low n) (low m) ↔ Beats (second_of v.CODE).is_hand (second_of v.CODE).is_weaker (allowed pick (holding hands m) board) (allowed pick (holding hands n) board)) pick_is
          (judged_beats second.HELD second.is_hand second.is_weaker second.points (second_of v.CODE) v.PICK (holding hands m) (holding hands n) board (low m) (low n) g.met.V.Second.HandOrder.lawful laws.second (later two m of_m) (later two n of_n));
      has_low = λ n of_n.
          subst (λ (pick : Pick). IsTrue (is_some (low n)) ↔ (IsTrue (game_of v.CODE).split × HasHand (second_of v.CODE) (allowed pick (holding hands n) board))) pick_is
          (judged_low v.SPLIT (game_of v.CODE).split (second_of v.CODE) (allowed v.PICK (holding hands n) board) (low n) laws.values.split_is
          (λ one. c.low_scores-low.ensures.one one n)
          (λ two. judged_hand second.is_hand second.is_weaker second.points (second_of v.CODE) (allowed v.PICK (holding hands n) board) (low n) laws.second.hand_is (later two n of_n).points_are));
    }
