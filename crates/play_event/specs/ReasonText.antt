-- Why an event is illegal, as text.
use Rattle.std.specs.Prelude.{ℕ, List, ◌++◌, codes}
use Rattle.std.specs.Fmt.{decimal}
use Rattle.play_event.specs.declared.reason.Illegal.{Illegal}
use Rattle.play_event.specs.declared.reason.Illegal.TheVariants as reasons

-- the name of a reason
abbrev pub reason_text : Illegal → List ℕ
reason_text reasons.HandOver = codes "HandOver"
reason_text reasons.WrongKind = codes "WrongKind"
reason_text reasons.WrongSeat = codes "WrongSeat"
reason_text reasons.WrongCount = codes "WrongCount"
reason_text reasons.CardTaken = codes "CardTaken"
reason_text reasons.NotHeld = codes "NotHeld"
reason_text reasons.UpCardUnknown = codes "UpCardUnknown"
reason_text reasons.NothingToCall = codes "NothingToCall"
reason_text reasons.RaiseClosed = codes "RaiseClosed"
reason_text reasons.RaiseTooSmall = codes "RaiseTooSmall"
reason_text reasons.RaiseTooBig = codes "RaiseTooBig"
reason_text (reasons.AmountDiffers stated due) =
    codes "AmountDiffers stated " ++ (decimal stated ++ (codes ", due " ++ decimal due))
