-- Before the first name nothing is left over.
use Rattle.std.proofs.Common.{◌++◌, List, length, ap, ◌∙◌, arith}
use Rattle.std.proofs.lemmas.List.{length-take}
use Rattle.card_set.specs.declared.card.Card.{Card}
use Rattle.card_set.specs.declared.card.Slot.TheVariants.{Known}
use Rattle.play_event.specs.NameMatching as naming
use Rattle.card_places.proofs.names.without_card.Goals as goal

pub loop-name-init : goal.loop-name-init
loop-name-init c = (
  ap (λ (xs : List Card). xs ++ naming.without_name (Known c.args.card) c.as_slice-name-items.result.now) c.new-left.ensures
      ∙ ap (naming.without_name (Known c.args.card)) c.as_slice-name-items.ensures,
  omega (arith, length-take c.new-left.result.len c.new-left.result.cards, ap (length {A = Card}) c.new-left.ensures),
)
