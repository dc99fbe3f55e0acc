-- Why there is no other file to compare with.
use Rattle.std.specs.Prelude.{◌≡◌, ℕ, ◌<◌, List, length, Option, Some, None}
use Rattle.host_io.specs.declared.shelf.ShelfFault.{ShelfFault}
use Rattle.host_io.specs.declared.shelf.ShelfFault.TheVariants as shelf_faults
use Rattle.poker_cli.specs.AnswerParts.{most_input}
use Rattle.poker_cli.specs.declared.other_file.NoFileError.{NoFileError}
use Rattle.poker_cli.specs.declared.other_file.NoFileError.TheVariants as no_files

-- a file cannot be compared with for this reason; nothing is known of it if it could not be read or
-- memory ran out
abbrev pub HasNoFile : Option (List ℕ) → NoFileError → Type 0
HasNoFile file no_files.Missing = file ≡ None
HasNoFile file no_files.TooLong =
    (text : List ℕ) × ((file ≡ Some text) × (most_input < length text))
HasNoFile file no_files.ShelfFault = Unit {0}
HasNoFile file (no_files.Memory memory) = Unit {0}

-- why there is no other file if the shelf gives no answer
abbrev pub no_file_from : ShelfFault → NoFileError
no_file_from shelf_faults.Failed = no_files.ShelfFault
no_file_from (shelf_faults.Memory memory) = no_files.Memory memory
