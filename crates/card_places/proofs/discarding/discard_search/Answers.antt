-- A discard applies to all cards of its seat.
use Rattle.std.proofs.Common.{◌≡◌, ℕ, Bool, List, filter, length, ap, ◌∙◌}
use Rattle.card_set.specs.declared.card.Card.{Card}
use Rattle.card_set.specs.Row.{cards_of, slots_of}
use Rattle.card_set.specs.Known.{known_among}
use Rattle.play_event.specs.CardReasons.{has_no_place}
use Rattle.play_event.specs.NameMatching.{after_matching, blanks_in, discarded_now, unmatched_names}
use Rattle.play_event.specs.Places.{Place, is_held_by}
use Rattle.card_places.specs.Placed.{placed}
use Rattle.card_places.proofs.AllCovered.{all_covered}
use Rattle.card_places.proofs.discarding.discard_search.Goals as goal

pub returns : goal.returns
returns c =
    let seat = c.args.seat.number in
    let ps = placed c.args.places.now in
    let cards = slots_of c.args.cards.now in
    let names = cards_of c.known_cards-names.result in
    let all = all_covered c.args.table.now.code seat in
    let mark = discarded_now c.args.on (length ps) in
    let blanks : c.blanks-blanks.result ≡ blanks_in cards = c.blanks-blanks.ensures.blanks ∙ ap blanks_in c.as_slice.ensures in
    record {
      after = c.named_cards.ensures.after
          ∙ ap (λ (p : Place → Bool). after_matching p mark names (unmatched_names (filter p ps) names) c.blanks-blanks.result ps) all
          ∙ ap (λ (cs : List Card). after_matching (is_held_by seat) mark cs (unmatched_names (filter (is_held_by seat) ps) cs) c.blanks-blanks.result ps) c.known_cards-names.ensures
          ∙ ap (λ (n : ℕ). after_matching (is_held_by seat) mark (known_among cards) (unmatched_names (filter (is_held_by seat) ps) (known_among cards)) n ps) blanks;
      lacking = c.named_cards.ensures.lacking
          ∙ ap (λ (p : Place → Bool). has_no_place (filter p ps) names c.blanks-blanks.result) all
          ∙ ap (λ (cs : List Card). has_no_place (filter (is_held_by seat) ps) cs c.blanks-blanks.result) c.known_cards-names.ensures
          ∙ ap (λ (n : ℕ). has_no_place (filter (is_held_by seat) ps) (known_among cards) n) blanks;
    }
