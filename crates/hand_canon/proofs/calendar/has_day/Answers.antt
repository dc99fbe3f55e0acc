use Rattle.hand_canon.proofs.Dates.{in_calendar}
use Rattle.hand_canon.proofs.calendar.has_day.Goals as goal

pub returns : goal.returns
returns c = in_calendar c.args.year c.args.month c.args.day c.is_date.result c.is_date.ensures c.requires.year.1 c.requires.month.0 c.requires.month.1 c.requires.day.0
