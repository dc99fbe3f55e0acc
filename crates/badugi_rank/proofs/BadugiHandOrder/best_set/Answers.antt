use Rattle.std.proofs.Common.{arith, sym, ◌∙◌}
use Rattle.card_set.proofs.Listing.{count_of-listing}
use Rattle.hand_order.proofs.SetChoices.{only_choice}
use Rattle.badugi_rank.specs.Badugi.{points}
use Rattle.badugi_rank.proofs.BadugiHandOrder.best_set.Goals as goal

pub returns : goal.returns
returns c = λ listing lists.
    c.best_rainbow.ensures listing lists
    ∙ sym (only_choice points 4 listing (omega (arith, count_of-listing c.args.cards.now listing lists, c.requires)))
