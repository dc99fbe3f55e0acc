-- The next of the other names is read in their row.
use Rattle.std.proofs.Common.{sym, ap, ◌∙◌, refl, arith}
use Rattle.std.proofs.lemmas.List.{get_or-take, length-take}
use Rattle.card_set.specs.declared.card.Card.{Card}
use Rattle.card_set.specs.declared.card.Slot.TheVariants as slots
use Rattle.card_set.specs.Filler.{filler_card}
use Rattle.card_set.specs.Row.{cards_of}
use Rattle.play_event.specs.Places.{Place}
use Rattle.card_places.specs.Plain.{place_of}
use Rattle.card_places.specs.Marks.{mark_by}
use Rattle.card_places.proofs.Findings.{found_next}
use Rattle.card_places.proofs.finding.match_name.Goals as goal

pub returns-then-taken-others : goal.returns-then-taken-others
returns-then-taken-others c =
    let others = c.args.others.now in
    let place : Place = place_of c.args.card in
    let mark = mark_by c.args.street c.args.count in
    found_next mark (cards_of c.args.names.now) (cards_of others) c.args.card.slot c.args.taken c.args.blanks place _ filler_card c.in-Unknown.is
    (omega (arith, length-take others.len others.cards, c.if-taken-others.true, others.fits, others.entries))
    (c.marked-then-taken-others.ensures ∙ ap (λ (card : Card). mark (record place { slot = slots.Known card })) (sym (get_or-take others.len others.cards c.args.taken filler_card c.if-taken-others.true))) refl refl
