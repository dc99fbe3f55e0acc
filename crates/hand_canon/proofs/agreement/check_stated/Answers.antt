-- What is stated first is compared first.
use Rattle.std.proofs.Common.{◌≡◌, ◌++◌, ◌∙◌, List, ap, false, is_some, option_map, sym, true}
use Rattle.hand_canon.specs.Agreement.{Comparison, difference_said, finish_compared, seats_compared, total_compared, value_compared, win_compared}
use Rattle.hand_canon.proofs.Differences.{or_first, or_later}
use Rattle.hand_canon.proofs.agreement.check_stated.Goals as goal

pub returns-in-Some : goal.returns-in-Some
returns-in-Some c =
    let trace = c.args.trace.now in
    let stated = c.args.stated.now in
    let finish : List Comparison = seats_compared trace finish_compared stated.finish in
    let wins : List Comparison = seats_compared trace win_compared stated.wins in
    let total : List Comparison = total_compared trace stated.pot_total in
    let values : List Comparison = seats_compared trace value_compared stated.values in
    let here : is_some c.first_finish.result ≡ true = ap is_some c.in-Some.is in
    ap (option_map difference_said) (sym c.in-Some.is)
    ∙ or_first difference_said finish (wins ++ (total ++ values)) c.first_finish.result c.first_finish.ensures here

pub returns-in-Some-first_win : goal.returns-in-Some-first_win
returns-in-Some-first_win c =
    let trace = c.args.trace.now in
    let stated = c.args.stated.now in
    let finish : List Comparison = seats_compared trace finish_compared stated.finish in
    let wins : List Comparison = seats_compared trace win_compared stated.wins in
    let total : List Comparison = total_compared trace stated.pot_total in
    let values : List Comparison = seats_compared trace value_compared stated.values in
    let first : is_some c.first_finish.result ≡ false = ap is_some c.in_default.is in
    let here : is_some c.first_win.result ≡ true = ap is_some c.in-Some-first_win.is in
    ap (option_map difference_said) (sym c.in-Some-first_win.is)
    ∙ or_first difference_said wins (total ++ values) c.first_win.result c.first_win.ensures here
    ∙ sym (or_later difference_said finish (wins ++ (total ++ values)) c.first_finish.result c.first_finish.ensures first)

pub returns-in-Some-differing_total : goal.returns-in-Some-differing_total
returns-in-Some-differing_total c =
    let trace = c.args.trace.now in
    let stated = c.args.stated.now in
    let finish : List Comparison = seats_compared trace finish_compared stated.finish in
    let wins : List Comparison = seats_compared trace win_compared stated.wins in
    let total : List Comparison = total_compared trace stated.pot_total in
    let values : List Comparison = seats_compared trace value_compared stated.values in
    let first : is_some c.first_finish.result ≡ false = ap is_some c.in_default.is in
    let second : is_some c.first_win.result ≡ false = ap is_some c.in_default-first_win.is in
    let here : is_some c.differing_total.result ≡ true = ap is_some c.in-Some-differing_total.is in
    ap (option_map difference_said) (sym c.in-Some-differing_total.is)
    ∙ or_first difference_said total values c.differing_total.result c.differing_total.ensures here
    ∙ sym (or_later difference_said wins (total ++ values) c.first_win.result c.first_win.ensures second)
    ∙ sym (or_later difference_said finish (wins ++ (total ++ values)) c.first_finish.result c.first_finish.ensures first)

pub returns-in-Some-first_value : goal.returns-in-Some-first_value
returns-in-Some-first_value c =
    let trace = c.args.trace.now in
    let stated = c.args.stated.now in
    let finish : List Comparison = seats_compared trace finish_compared stated.finish in
    let wins : List Comparison = seats_compared trace win_compared stated.wins in
    let total : List Comparison = total_compared trace stated.pot_total in
    let values : List Comparison = seats_compared trace value_compared stated.values in
    let first : is_some c.first_finish.result ≡ false = ap is_some c.in_default.is in
    let second : is_some c.first_win.result ≡ false = ap is_some c.in_default-first_win.is in
    let third : is_some c.differing_total.result ≡ false = ap is_some c.in_default-differing_total.is in
    ap (option_map difference_said) (sym c.in-Some-first_value.is) ∙ c.first_value.ensures
    ∙ sym (or_later difference_said total values c.differing_total.result c.differing_total.ensures third)
    ∙ sym (or_later difference_said wins (total ++ values) c.first_win.result c.first_win.ensures second)
    ∙ sym (or_later difference_said finish (wins ++ (total ++ values)) c.first_finish.result c.first_finish.ensures first)

pub returns-in-None : goal.returns-in-None
returns-in-None c =
    let trace = c.args.trace.now in
    let stated = c.args.stated.now in
    let finish : List Comparison = seats_compared trace finish_compared stated.finish in
    let wins : List Comparison = seats_compared trace win_compared stated.wins in
    let total : List Comparison = total_compared trace stated.pot_total in
    let values : List Comparison = seats_compared trace value_compared stated.values in
    let first : is_some c.first_finish.result ≡ false = ap is_some c.in_default.is in
    let second : is_some c.first_win.result ≡ false = ap is_some c.in_default-first_win.is in
    let third : is_some c.differing_total.result ≡ false = ap is_some c.in_default-differing_total.is in
    ap (option_map difference_said) (sym c.in-None.is) ∙ c.first_value.ensures
    ∙ sym (or_later difference_said total values c.differing_total.result c.differing_total.ensures third)
    ∙ sym (or_later difference_said wins (total ++ values) c.first_win.result c.first_win.ensures second)
    ∙ sym (or_later difference_said finish (wins ++ (total ++ values)) c.first_finish.result c.first_finish.ensures first)
