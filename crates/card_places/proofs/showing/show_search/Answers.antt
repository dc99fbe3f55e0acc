-- It applies to all cards, or to those face down.
use Rattle.std.proofs.Common.{Bool, ◌||◌, filter, ap, ◌∙◌}
use Rattle.card_set.specs.Row.{cards_of}
use Rattle.play_event.specs.CardReasons.{has_no_place, is_show_of_others}
use Rattle.play_event.specs.NameMatching.{after_matching, can_be_named, unmatched_names}
use Rattle.card_places.specs.Placed.{placed}
use Rattle.card_places.specs.Searches.{has_left_out_card}
use Rattle.card_places.proofs.showing.show_search.Goals as goal

pub returns : goal.returns
returns c =
    let code = c.args.table.now.code in
    let seat = c.args.seat.number in
    let ps = placed c.args.places.now in
    let names = cards_of c.args.cards.now in
    let held = filter (can_be_named code seat c.is_show_of_all-all.result) ps in
    record {
      after = c.named_cards.ensures.after
          ∙ ap (λ (all : Bool). after_matching (can_be_named code seat all) (λ place. place) names (unmatched_names (filter (can_be_named code seat all) ps) names) 0 ps) c.is_show_of_all-all.ensures;
      others = ap (λ b. b || has_left_out_card code c.named_cards.result ps) c.named_cards.ensures.lacking
          ∙ ap (λ b. has_no_place held names 0 || b) c.named_cards.ensures.left_out
          ∙ ap (λ (all : Bool). is_show_of_others (filter (can_be_named code seat all) ps) names) c.is_show_of_all-all.ensures;
    }
