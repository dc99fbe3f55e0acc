-- What a command prints for the hands in records.
use Rattle.std.specs.Prelude.{◌≡◌, ℕ, List}
use Rattle.convert_core.specs.Judged.{ArePlaysOf}
use Rattle.hand_canon.specs.declared.record.Record.{Record}
use Rattle.hand_canon.specs.declared.trace.Play.{Play}

-- All records have plays, and this is the text that is printed for them.
pub record IsTextOf (printed : List Play → List ℕ) (records : List Record) (text : List ℕ) : Type 0
  where
    pub plays : List Play
    pub are : ArePlaysOf records plays
    pub said : text ≡ printed plays
