-- A made hand makes progress: every next event is legal, the hand ends, and when nothing comes next
-- it is legal and complete.
use Rattle.std.specs.Prelude.{◌≡◌, ℕ, ◌+◌, ◌≤◌, ◌<◌, List, length, reverse, None, IfSome}
use Rattle.play_event.specs.PlayedScript.{IsWithinLimits}
use Rattle.play_event.specs.declared.hand_limits.TheConstants.{MOST_MOVES, MOST_OTHER_EVENTS}
use Rattle.chip_ledger.specs.RakeRow.{rake_of}
use Rattle.chip_ledger.specs.SeatRow.{amount_of}
use Rattle.hand_canon.specs.LegalHand.{IsLegalHand}
use Rattle.play_event.specs.declared.setup.Setup.{Setup}
use Rattle.play_event.specs.HistoryRules.{history_rules}
use Rattle.play_event.specs.Laws.{AreLegal}
use Rattle.play_event.specs.Reasons.{why}
use Rattle.play_event.specs.Said.{Said}
use Rattle.play_event.specs.Scripts.{past_of}
use Rattle.play_event.specs.Streets.{deck_of}
use Rattle.play_event.specs.Table.{places_of}
use Rattle.play_event.specs.ValidSetup.{IsValid}
use Rattle.hand_gen.specs.Made.{HaveCome, next_event, source_behind}
use Rattle.hand_gen.specs.HandSource.{HandSource}

-- a valid setup with few seats, few chips each, and no rakes
pub record IsSmall (setup : Setup) : Type 0 where
  pub valid : IsValid setup
  pub few_seats : setup.stacks.seats ≤ 4
  pub few_chips : (seat : ℕ) → amount_of setup.stacks seat ≤ 500
  pub no_rakes : (pot : ℕ) → rake_of setup.rakes pot ≡ 0

-- A script whose events have come one after another from a stock: each of them is legal; they are
-- within the limits of a hand, and fewer than these limits together; the cards that were dealt and
-- those that are left are together as many as the deck has; the next event is legal; and if there
-- is none, the script is that of a legal hand.
pub record MakesProgress (setup : Setup) (start : HandSource) (script : List Said) : Type 0 where
  pub legal : AreLegal setup history_rules (reverse script)
  pub within : IsWithinLimits script
  pub few : length script < MOST_MOVES + MOST_OTHER_EVENTS
  pub cards : length (places_of setup.code (past_of setup (reverse script)))
      + length (source_behind setup history_rules start (reverse script)).deck
      ≡ deck_of setup.code
  pub next_legal : IfSome (next_event setup history_rules start (reverse script))
      (λ event. why setup history_rules (past_of setup (reverse script)) event ≡ None)
  pub whole : next_event setup history_rules start (reverse script) ≡ None
      → IsLegalHand setup history_rules script

-- a hand ends: there is a script whose events have come from the stock, and after which nothing
-- comes
pub record HasEnd (setup : Setup) (start : HandSource) : Type 0 where
  pub script : List Said
  pub come : HaveCome setup history_rules start (reverse script)
  pub ended : next_event setup history_rules start (reverse script) ≡ None
