-- Hands of hand histories are played under the rules of hand histories.
-- This is a proof: no reader needs it.
use Rattle.std.specs.Prelude.{List, [], ◌∷◌}
use Rattle.std.specs.List.{AllByRecursion}
use Rattle.convert_core.specs.Records.{IsUnder}
use Rattle.hand_canon.specs.Histories.{IsHistory}
use Rattle.hand_canon.specs.declared.record.Record.{Record}
use Rattle.play_event.specs.HistoryRules.{history_rules}

-- each hand that bytes say is played under the rules of its notation
pub each_under : (records : List Record) → AllByRecursion IsHistory records
    → AllByRecursion (IsUnder history_rules) records
each_under [] each = tt
each_under (hand ∷ hands) each =
    (record { sound = each.0.sound; rules_are = each.0.rules }, each_under hands each.1)
