use Rattle.std.proofs.Common.{◌+◌, ◌∷◌, ◌++◌, [], ◌∙◌, ap, map, sym}
use Rattle.std.proofs.lemmas.List.{map-append, map_push}
use Rattle.chip_ledger.proofs.Seats.{seats_of_more}
use Rattle.chip_ledger.specs.Seat.{seats_of}
use Rattle.play_event.specs.Said.{numbered}
use Rattle.ohh_rounds.specs.Play.{hole_deal}
use Rattle.ohh_rounds.specs.Steps.{plain_step}
use Rattle.ohh_rounds.proofs.play.hole_deals.Goals as goal

pub loop-index-preserved : goal.loop-index-preserved
loop-index-preserved c =
    let l = c.loop-index in
    let seen = c.args.seen.now in
    let deal = hole_deal seen.setting.hole_cards (map plain_step seen.steps.items) in
    ap (map numbered) c.in_ok-push.ensures.pushed ∙ map_push numbered l.script c.make_hole_deal.result
    ∙ ap (λ front. front ++ numbered c.make_hole_deal.result ∷ []) l.invariant
    ∙ ap (λ event. map deal (seats_of l.index) ++ event ∷ []) c.make_hole_deal.ensures
    ∙ sym (ap (map deal) (seats_of_more l.index) ∙ map-append deal (seats_of l.index) ((l.index + 1) ∷ []))
