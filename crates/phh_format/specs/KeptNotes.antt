-- Which notes the format keeps: all of them.
use Rattle.hand_canon.specs.SaidNotes.{SaidNotes}

-- the notes that the format can write
abbrev pub kept_in_phh : SaidNotes → SaidNotes
kept_in_phh notes = notes
