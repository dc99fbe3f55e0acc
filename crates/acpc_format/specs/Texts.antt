-- Player names that are texts.
use Rattle.std.specs.Prelude.{ℕ, ◌-◌, ◌≤◌, None, IfSome, IsUtf8, slice_index_or}
use Rattle.hand_canon.specs.declared.notes.Notes.{Notes}
use Rattle.hand_canon.specs.declared.trace.Play.{Play}

-- the names of `count` players are texts
abbrev pub AreTexts : ℕ → Notes → Type 0
AreTexts count notes =
    (seat : ℕ) → 1 ≤ seat → seat ≤ count
    → IfSome (slice_index_or notes.names (seat - 1) None) IsUtf8

-- the names of the players of a play are texts
abbrev pub HasTexts : Play → Type 0
HasTexts play = AreTexts play.trace.setup.stacks.seats play.hand.notes
