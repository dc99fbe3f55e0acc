-- Each row is within the limits of a line, and adds its line.
use Rattle.std.proofs.Common.{◌≡◌, ℕ, ◌+◌, ◌++◌, ◌∙◌, List, Some, ap, append_assoc, drop, flat_map, rules, slice_get, string_bytes, sym}
use Rattle.std.specs.Option.{option_to_list}
use Rattle.card_set.proofs.FlatMaps.{next_part}
use Rattle.printed_hands.specs.Tallies.{named_tallies, named_tally_line}
use Rattle.printed_hands.proofs.RowLines.{line_here, within_here}
use Rattle.printed_hands.proofs.report.push_names.Goals as goal

pub push_name_line-requires : goal.push_name_line-requires
push_name_line-requires c =
    let key = c.unwrap.result.0.now in
    let named = c.unwrap.result.1.now in
    let at : slice_get c.args.tallies.now.entries c.loop-index.index ≡ Some (key, named) = search rules in
    within_here c.args.tallies.now.entries c.loop-index.index key named at c.requires

pub loop-index-preserved : goal.loop-index-preserved
loop-index-preserved c =
    let entries = c.args.tallies.now.entries in
    let rows = named_tallies entries in
    let index = c.loop-index.index in
    let text = string_bytes c.loop-index.text in
    let rest = flat_map named_tally_line (drop (index + 1) rows) in
    let named = c.unwrap.result.1.now in
    let line = line_here entries index c.unwrap.result.0.now named (search rules) in
    ap (λ bytes. bytes ++ rest) (c.in_ok-push_name_line.ensures ∙ ap (λ (name : List ℕ). text ++ named_tally_line (name, named.tally)) c.as_str.ensures ∙ ap (λ more. text ++ more) (sym line))
    ∙ append_assoc text (flat_map named_tally_line (option_to_list (slice_get rows index))) rest
    ∙ ap (λ more. text ++ more) (next_part named_tally_line rows index)
    ∙ c.loop-index.invariant
