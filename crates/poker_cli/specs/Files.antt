-- The files on a shelf, and those that a request needs.
use Rattle.std.specs.Prelude.{ℕ, List, Option}

-- The files on a shelf by their names; `None` if there is no file of this name.
abbrev pub FilesByName : Type 0
FilesByName = List ℕ → Option (List ℕ)

-- The files of a request: the game file, and the other file of a comparison; `None` for one that is
-- not there or is not named.
pub record Files : Type 0 where
  pub game : Option (List ℕ)
  pub other : Option (List ℕ)
