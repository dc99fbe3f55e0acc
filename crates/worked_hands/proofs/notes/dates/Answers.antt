-- Each clause is computed, or breaks one condition.
use Rattle.std.specs.Prelude.{◌≤◌, None, Some}
use Rattle.std.proofs.Common.{arith, lit≤}
use Rattle.worked_hands.proofs.BlankNotes.{allowed_with}
use Rattle.worked_hands.proofs.notes.dates.Goals as goal

pub returns-clause-leap_day_of_2024 : goal.returns-clause-leap_day_of_2024
returns-clause-leap_day_of_2024 c = allowed_with None None None (Some 2024) (Some 2) (Some 29) None tt tt tt (lit≤ tt, lit≤ tt) (lit≤ tt, lit≤ tt) (lit≤ tt, lit≤ tt) (lit≤ tt) tt

pub returns-clause-leap_day_of_2000 : goal.returns-clause-leap_day_of_2000
returns-clause-leap_day_of_2000 c = allowed_with None None None (Some 2000) (Some 2) (Some 29) None tt tt tt (lit≤ tt, lit≤ tt) (lit≤ tt, lit≤ tt) (lit≤ tt, lit≤ tt) (lit≤ tt) tt

pub returns-clause-no_leap_day_in_2023 : goal.returns-clause-no_leap_day_in_2023
returns-clause-no_leap_day_in_2023 c = λ allowed. let within : 29 ≤ 28 = allowed.date in omega (arith, within)

pub returns-clause-no_leap_day_in_1900 : goal.returns-clause-no_leap_day_in_1900
returns-clause-no_leap_day_in_1900 c = λ allowed. let within : 29 ≤ 28 = allowed.date in omega (arith, within)

pub returns-clause-no_31_of_april : goal.returns-clause-no_31_of_april
returns-clause-no_31_of_april c = λ allowed. let within : 31 ≤ 30 = allowed.date in omega (arith, within)

pub returns-clause-without_a_year : goal.returns-clause-without_a_year
returns-clause-without_a_year c = allowed_with None None None None (Some 4) (Some 31) None tt tt tt tt (lit≤ tt, lit≤ tt) (lit≤ tt, lit≤ tt) tt tt

pub returns-clause-no_month_13 : goal.returns-clause-no_month_13
returns-clause-no_month_13 c = λ allowed. let within : 13 ≤ 12 = allowed.month.1 in omega (arith, within)

pub returns-clause-no_day_32 : goal.returns-clause-no_day_32
returns-clause-no_day_32 c = λ allowed. let within : 32 ≤ 31 = allowed.day.1 in omega (arith, within)

pub returns-clause-no_year_0 : goal.returns-clause-no_year_0
returns-clause-no_year_0 c = λ allowed. let within : 1 ≤ 0 = allowed.year.0 in omega (arith, within)

pub returns-clause-no_year_10000 : goal.returns-clause-no_year_10000
returns-clause-no_year_10000 c = λ allowed. let within : 10000 ≤ 9999 = allowed.year.1 in omega (arith, within)
