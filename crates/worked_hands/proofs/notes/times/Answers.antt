-- Each clause is computed, or breaks one condition.
use Rattle.std.specs.Prelude.{◌≤◌, None, Some}
use Rattle.std.proofs.Common.{arith, lit≤}
use Rattle.worked_hands.proofs.BlankNotes.{allowed_with}
use Rattle.worked_hands.proofs.notes.times.Goals as goal

pub returns-clause-the_last_moment : goal.returns-clause-the_last_moment
returns-clause-the_last_moment c = allowed_with None None None None None None (Some (record { hour = 23; minute = 59; second = 59; nano = 999999999 })) tt tt tt tt tt tt tt (record { hour = lit≤ tt; minute = lit≤ tt; second = lit≤ tt; nano = lit≤ tt })

pub returns-clause-no_hour_24 : goal.returns-clause-no_hour_24
returns-clause-no_hour_24 c = λ allowed. let within : 24 ≤ 23 = allowed.time.hour in omega (arith, within)

pub returns-clause-no_minute_60 : goal.returns-clause-no_minute_60
returns-clause-no_minute_60 c = λ allowed. let within : 60 ≤ 59 = allowed.time.minute in omega (arith, within)

pub returns-clause-no_leap_second : goal.returns-clause-no_leap_second
returns-clause-no_leap_second c = λ allowed. let within : 60 ≤ 59 = allowed.time.second in omega (arith, within)

pub returns-clause-no_whole_second_of_nanoseconds : goal.returns-clause-no_whole_second_of_nanoseconds
returns-clause-no_whole_second_of_nanoseconds c = λ allowed. let within : 1000000000 ≤ 999999999 = allowed.time.nano in omega (arith, within)
