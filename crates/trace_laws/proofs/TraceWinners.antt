-- The winners of the pots of a whole trace are unbeaten.
use Rattle.std.proofs.Common.{ℕ, List, [], ◌∷◌}
use Rattle.chip_ledger.specs.Pots.{PlainPot}
use Rattle.chip_ledger.specs.PotRow.{plain_shares}
use Rattle.chip_ledger.specs.Rakes.{nets_of}
use Rattle.play_event.specs.declared.code.Code.{Code}
use Rattle.play_event.specs.declared.setup.Setup.{Setup}
use Rattle.play_event.specs.Past.{Past}
use Rattle.variant_table.specs.Shares.{AllShared, Showdown}
use Rattle.showdown_split.proofs.ShareLaws.{goes_to_best}
use Rattle.hand_canon.specs.declared.trace.Trace.{Trace}
use Rattle.hand_canon.specs.LegalHand.{showdown_in}
use Rattle.play_event.specs.TraceCore.{core_of}
use Rattle.hand_canon.specs.WholeTrace.{IsTraceOf}
use Rattle.trace_laws.specs.Winners.{AllGoToBest}

-- pot by pot
all_go_to_best : (code : Code) (showdown : Showdown) (pots : List PlainPot) (shares : List (ℕ → ℕ)) → AllShared code showdown pots shares → AllGoToBest code showdown pots shares
all_go_to_best code showdown [] [] all = tt
all_go_to_best code showdown [] (share ∷ shares) all = absurd all
all_go_to_best code showdown (pot ∷ pots) [] all = absurd all
all_go_to_best code showdown (pot ∷ pots) (share ∷ shares) all = (goes_to_best code showdown pot share all.0, all_go_to_best code showdown pots shares all.1)

pub winners : (setup : Setup) (past : Past) (trace : Trace) → IsTraceOf setup past trace → AllGoToBest setup.code (showdown_in setup (core_of setup past)) (nets_of setup.rakes (core_of setup past).pots) (plain_shares trace.shares)
winners setup past trace is =
    all_go_to_best setup.code (showdown_in setup (core_of setup past)) (nets_of setup.rakes (core_of setup past).pots) (plain_shares trace.shares) is.shares.shared
