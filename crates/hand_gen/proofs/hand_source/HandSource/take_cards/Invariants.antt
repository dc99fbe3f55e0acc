-- The cards so far are the first of all, and those that are left are the others.
use Rattle.std.proofs.Common.{◌≡◌, ◌++◌, ◌-◌}
use Rattle.card_set.specs.Row.{cards_of}
use Rattle.hand_gen.specs.HandSource.{after_cards, next_cards}
use Rattle.hand_gen.proofs.hand_source.HandSource.take_cards.Given as goal

abbrev pub invariant-loop : goal.invariant-loop
invariant-loop l =
    (l.cards.len ≡ l.counter)
    × (cards_of l.cards ++ next_cards (l.count - l.counter) l.self ≡ next_cards l.count l.initial.self)
    × (after_cards (l.count - l.counter) l.self ≡ after_cards l.count l.initial.self)
