use Rattle.std.proofs.Common.{◌≡◌, ◌-◌, ◌∙◌, sym, refl, arith, map, Ok}
use Rattle.serde_json.specs.View.{view}
use Rattle.card_set.specs.Row.{slots_of}
use Rattle.ohh_members.specs.Paths.{card_path}
use Rattle.ohh_members.specs.Values.{slot_said, slots_from, slots_said}
use Rattle.std.proofs.lemmas.List.{length-map}
use Rattle.ohh_rounds.proofs.Lengths.{as_many}
use Rattle.ohh_rounds.proofs.actions.read_dealt.Goals as goal

pub returns-clause-few : goal.returns-clause-few
unfolding slots_said
returns-clause-few c =
    let values = map view c.in_ok-values.values.now in
    let read : slots_from c.path_of-path.result values ≡ Ok (slots_of c.in_ok-cards.cards) = sym (rw c.in_ok-values.ensures.said refl) ∙ c.in_ok-cards.ensures in
    omega (arith, c.cards_dealt-dealt.ensures.dealt, c.if-dealt-values-gt7.false, as_many (λ n. slot_said (card_path c.path_of-path.result (n - 1))) 1 values (slots_of c.in_ok-cards.cards) read, length-map c.in_ok-values.values.now view)
