-- The numbers of an event fit their types, as they do in every event of a script.
use Rattle.std.specs.Prelude.{◌<◌, ◌^◌, List, IfSome}
use Rattle.std.specs.List.{AllByRecursion}
use Rattle.play_event.specs.declared.event.Event.{Event}
use Rattle.play_event.specs.declared.event.Kind.{Kind}
use Rattle.play_event.specs.declared.event.Kind.TheVariants as kinds
use Rattle.play_event.specs.declared.event.Spelled.{Spelled}
use Rattle.play_event.specs.declared.event.Spelled.TheVariants as spelled

-- the chips of a raise fit 64 bits
abbrev pub AmountFits : Spelled → Type 0
AmountFits (spelled.To chips) = chips < 2 ^ 64
AmountFits (spelled.Added chips) = chips < 2 ^ 64
AmountFits (spelled.HandTotal chips) = chips < 2 ^ 64
AmountFits spelled.Unit = Unit {0}

-- the chips that an event of this kind states fit 64 bits
abbrev pub ChipsFit : Kind → Type 0
ChipsFit (kinds.Hole seat cards) = Unit {0}
ChipsFit (kinds.Board cards) = Unit {0}
ChipsFit (kinds.Fold actor) = Unit {0}
ChipsFit (kinds.Call actor stated) = IfSome stated (λ chips. chips < 2 ^ 64)
ChipsFit (kinds.Raise actor amount) = AmountFits amount
ChipsFit (kinds.BringIn actor) = Unit {0}
ChipsFit (kinds.Discard seat cards) = Unit {0}
ChipsFit (kinds.Show seat cards) = Unit {0}
ChipsFit (kinds.Muck seat) = Unit {0}

-- the number of its action fits 32 bits
pub record IsEvent (event : Event) : Type 0 where
  pub at : event.at < 2 ^ 32
  pub chips : ChipsFit event.kind

-- the numbers of each event fit
abbrev pub AreEvents : List Event → Type 0
AreEvents events = AllByRecursion IsEvent events
