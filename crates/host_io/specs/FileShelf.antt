-- What the contract of a shelf over files speaks of.
use Rattle.std.specs.Prelude.{ℕ}
use Rattle.host_io.specs.declared.file_shelf.FileShelf.{FileShelf}

-- how often it failed: once for each path that leads somewhere and could not be opened, or read to
-- its end
abbrev pub fault_count : {R File Folder : Type 0} → FileShelf R File Folder → ℕ
fault_count shelf = shelf.faults
