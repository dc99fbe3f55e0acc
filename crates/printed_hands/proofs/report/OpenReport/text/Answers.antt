-- The lines of the games and of all hands, and then those of the names.
use Rattle.std.proofs.Common.{◌≤◌, ◌*◌, ◌++◌, ◌∙◌, ap, append_assoc, arith, codes, flat_map, length, map, subst, sym}
use Rattle.std.specs.List.{AllByRecursion}
use Rattle.printed_hands.specs.Games.{sums_line}
use Rattle.printed_hands.specs.Report.{game_codes, game_line, hand_of, hands_line, hands_with, name_line, names_of, net_of}
use Rattle.printed_hands.specs.Tallies.{AreWithin, IsRowWithin, MOST_SEATS, named_tallies, named_tally_line, tally_at}
use Rattle.printed_hands.proofs.Counted.{lines_are}
use Rattle.printed_hands.proofs.Named.{names_text}
use Rattle.printed_hands.proofs.RowLines.{lines_by_name, rows_within}
use Rattle.printed_hands.proofs.Within.{wider}
use Rattle.printed_hands.proofs.report.OpenReport.text.Goals as goal

pub push_names-requires : goal.push_names-requires
push_names-requires c =
    let plays = c.requires.0 in
    let so_far = c.requires.1 in
    let hands = map hand_of plays in
    let few : length plays * 10 ≤ MOST_SEATS = omega (arith, c.requires.2) in
    subst (AllByRecursion IsRowWithin) (sym so_far.rows)
    (rows_within hands (subst (AreWithin MOST_SEATS) so_far.rows
    (λ name. wider (length plays * 10) MOST_SEATS (tally_at (named_tallies c.args.self.now.tallies.entries) name) few (so_far.within name))))

pub returns : goal.returns
returns c = λ plays so_far.
    let hands = map hand_of plays in
    let games = flat_map (game_line hands) game_codes in
    let total = hands_line (codes "total") hands in
    let rows = named_tallies c.args.self.now.tallies.entries in
    c.in_ok-push_names.ensures
    ∙ ap (λ bytes. bytes ++ flat_map named_tally_line rows) (c.in_ok-push_sums.ensures ∙ ap (λ start. start ++ flat_map sums_line c.deref.result.now) c.new-text.ensures.bytes)
    ∙ ap (λ lines. flat_map sums_line lines ++ flat_map named_tally_line rows) (c.deref.ensures.value ∙ so_far.sums)
    ∙ ap (λ lines. lines ++ flat_map named_tally_line rows) (lines_are hands)
    ∙ ap (λ rest. (games ++ total) ++ rest) (ap (flat_map named_tally_line) so_far.rows ∙ lines_by_name hands ∙ names_text hands)
    ∙ append_assoc games total (flat_map (λ name. name_line (net_of hands name) (hands_with hands name) name) (names_of hands))
