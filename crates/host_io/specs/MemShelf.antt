-- What a shelf in memory has under a name.
use Rattle.std.specs.Prelude.{ℕ, List, Option, Vec, String, string_bytes, find}
use Rattle.std.specs.Option.{option_map}
use Rattle.std.specs.Str.{bytes_eq}
use Rattle.std.specs.declared.alloc.Global.{Global}
use Rattle.host_io.specs.declared.fault_plan.FaultPlan.{FaultPlan}
use Rattle.host_io.specs.declared.mem_shelf.MemShelf.{MemShelf}

-- the bytes of the first file with the name
abbrev pub file_named : List (String Global × Vec ℕ Global) → List ℕ → Option (List ℕ)
file_named files name =
    option_map (λ file. file.1.items) (find (λ file. bytes_eq (string_bytes file.0) name) files)

-- the bytes under each name
abbrev pub shelf_files : MemShelf → List ℕ → Option (List ℕ)
shelf_files shelf = file_named shelf.files.items

-- which of its calls fail
abbrev pub shelf_plan : MemShelf → FaultPlan
shelf_plan shelf = shelf.plan
