-- The fault of bytes in Open Hand History as text, with its hand and the path of its member.
use Rattle.std.specs.Prelude.{ℕ, List, ◌++◌, codes, Option, Some, None}
use Rattle.std.specs.Fmt.{decimal}
use Rattle.ohh_members.specs.declared.fault.MemberFaultKind.{MemberFaultKind}
use Rattle.ohh_members.specs.declared.fault.MemberFaultKind.TheVariants as whats
use Rattle.ohh_reading.specs.declared.fault.OhhFault.{OhhFault}
use Rattle.ohh_reading.specs.Reading.{InHand, NoText, Wrong, wrong_of}

-- the name of what is wrong at a member
abbrev pub what_name : MemberFaultKind → List ℕ
what_name whats.MissingMember = codes "MissingMember"
what_name whats.WrongType = codes "WrongType"
what_name whats.AmountNotWhole = codes "AmountNotWhole"
what_name whats.AmountLimit = codes "AmountLimit"
what_name whats.UnsupportedGame = codes "UnsupportedGame"
what_name whats.BadPlayer = codes "BadPlayer"
what_name whats.UnsupportedAction = codes "UnsupportedAction"
what_name whats.BadStreet = codes "BadStreet"
what_name whats.BadPost = codes "BadPost"
what_name whats.RakePlace = codes "RakePlace"
what_name (whats.TooMany quantity) = codes "TooMany"

-- the name of what is wrong, or that memory ran out
abbrev pub name_of : Option Wrong → List ℕ
name_of None = codes "Memory"
name_of (Some (NoText hand)) = codes "Text"
name_of (Some (InHand hand path what)) = what_name what

-- what is wrong as text: the hand, the path and the name; or that memory ran out
abbrev pub wrong_text : Option Wrong → List ℕ
wrong_text None = codes "out of memory"
wrong_text (Some (NoText hand)) = codes "hand " ++ (decimal hand ++ codes ": Text")
wrong_text (Some (InHand hand path what)) =
    codes "hand " ++ (decimal hand ++ (codes ", " ++ (path ++ (codes ": " ++ what_name what))))

-- the text of a fault
abbrev pub fault_text : OhhFault → List ℕ
fault_text fault = wrong_text (wrong_of fault)
