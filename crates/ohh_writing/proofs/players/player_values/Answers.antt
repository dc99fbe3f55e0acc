use Rattle.std.proofs.Common.{◌+◌, ◌++◌, ◌∷◌, [], ◌∙◌, ap, map, sym}
use Rattle.std.proofs.lemmas.List.{map-append, map_push}
use Rattle.serde_json.specs.Data.{Data}
use Rattle.serde_json.specs.View.{view}
use Rattle.chip_ledger.specs.Seat.{seats_of}
use Rattle.chip_ledger.proofs.Seats.{seats_of_more}
use Rattle.ohh_writing.specs.Tree.{player_tree}
use Rattle.ohh_writing.proofs.players.player_values.Goals as goal

pub loop-index-preserved : goal.loop-index-preserved
loop-index-preserved c =
    let tree = player_tree c.args.stacks.now c.args.notes.now c.args.numbers in
    let seats = seats_of c.loop-index.index in
    ap (map view) c.in_ok-try_push.ensures.items
    ∙ map_push view c.loop-index.values.items c.in_ok-player_value.field-0
    ∙ ap (λ (d : Data). map view c.loop-index.values.items ++ d ∷ []) c.in_ok-player_value.ensures
    ∙ ap (λ l. l ++ tree (c.loop-index.index + 1) ∷ []) c.loop-index.invariant
    ∙ sym (ap (map tree) (seats_of_more c.loop-index.index) ∙ map-append tree seats ((c.loop-index.index + 1) ∷ []))
