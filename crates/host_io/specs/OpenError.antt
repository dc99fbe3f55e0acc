-- Why a path could not be opened.
use Rattle.std.specs.Prelude.{◌≡◌, ◌⊎◌}
use Rattle.std.specs.IoError.{error_kind}
use Rattle.std.specs.declared.io.Error.{Error}
use Rattle.std.specs.declared.io.ErrorKind.TheVariants.{NotFound, NotADirectory}

-- the path leads nowhere: nothing has the name, or what comes before a slash is not a folder
abbrev pub IsMissing : Error → Type 0
IsMissing error = (error_kind error ≡ NotFound) ⊎ (error_kind error ≡ NotADirectory)
