-- The betting and the cards that are seen.
use Rattle.std.proofs.Common.{◌≡◌, ℕ, List, OnOk, ◌++◌, map, sym, subst, take}
use Rattle.card_set.proofs.Results.{on_ok}
use Rattle.play_event.specs.declared.played.Move.{Move}
use Rattle.hand_canon.specs.TraceRows.{place_said}
use Rattle.acpc_format.specs.Cards.{cards_text}
use Rattle.acpc_format.specs.Puts.{HaveFewChips}
use Rattle.acpc_view.proofs.Writing.{few_chips, seen_written}
use Rattle.acpc_view.proofs.viewing.push_seen.Goals as goal

pub push_betting-requires : goal.push_betting-requires
push_betting-requires c =
    let trace = c.args.trace.now in
    subst (λ (moves : List Move). HaveFewChips trace.setup (take c.args.count moves)) (sym c.as_slice.ensures) (few_chips trace c.args.count c.requires.few)

pub returns : goal.returns
returns c =
    on_ok c.push_cards.result
    (seen_written c.args.no_limit c.args.trace.now c.args.viewer.number c.args.count c.in_ok-seen.seen.items c.as_slice-2.result.now c.as_slice-3.result.now c.as_slice.result.now
    c.args.out.now.items c.push_betting.new.out.items c.try_extend_from_slice.new.self.items c.push_cards.new.out.items
    c.in_ok-seen.ensures c.as_slice-2.ensures.value c.as_slice-3.ensures.value c.as_slice.ensures c.in_ok-push_betting.ensures c.in_ok-try_extend_from_slice.ensures.items)
    (subst (λ (seats : ℕ). OnOk c.push_cards.result (c.push_cards.new.out.items ≡ c.try_extend_from_slice.new.self.items ++ cards_text (map place_said c.as_slice-3.result.now) seats)) c.players.ensures c.push_cards.ensures)
