-- What holds of the files that a request asks for, whether the shelf shows them or not.
use Rattle.std.proofs.Common.{ℕ, ◌<◌, suc, List, length, Option, Some, None, IfSome, refl, arith}
use Rattle.std.proofs.Math.ListN.{replicate}
use Rattle.std.proofs.lemmas.List.{length-replicate}
use Rattle.host_io.specs.Shelf.{IsAnswer, IsWithin}
use Rattle.host_io.specs.declared.shelf.Fetched.{Fetched}
use Rattle.host_io.specs.declared.shelf.Fetched.TheVariants.{Bytes, Absent, TooLong}
use Rattle.poker_cli.specs.Files.{Files, FilesByName}
use Rattle.poker_cli.specs.Run.{OfFile, OfNamed}

-- what follows for a file
pub of_file : (shown : Option FilesByName) (name : List ℕ) (P Q : Option (List ℕ) → Type 0) → ((file : Option (List ℕ)) → P file → Q file)
    → OfFile shown name P → OfFile shown name Q
of_file (Some files) name P Q more is = more (files name) is
of_file None name P Q more is = (is.0, more is.0 is.1)

-- what holds of all files
pub any_file : (shown : Option FilesByName) (name : List ℕ) (P : Option (List ℕ) → Type 0) → ((file : Option (List ℕ)) → P file) → OfFile shown name P
any_file (Some files) name P each = each (files name)
any_file None name P each = (None, each None)

-- the same of a file that may be named
pub of_named : (shown : Option FilesByName) (name : Option (List ℕ)) (P Q : Option (List ℕ) → Type 0) → ((file : Option (List ℕ)) → P file → Q file)
    → OfNamed shown name P → OfNamed shown name Q
of_named shown None P Q more is = more None is
of_named shown (Some name) P Q more is = of_file shown name P Q more is

pub any_named : (shown : Option FilesByName) (name : Option (List ℕ)) (P : Option (List ℕ) → Type 0) → ((file : Option (List ℕ)) → P file) → OfNamed shown name P
any_named shown None P each = each None
any_named shown (Some name) P each = any_file shown name P each

-- two files
abbrev pub two_files : (game other : Option (List ℕ)) → Files
two_files game other = record { game = game; other = other }

-- what a shelf answers for a name is the answer to a file
pub answered : (shown : Option FilesByName) (name : List ℕ) (max : ℕ) (fetched : Fetched)
    → IfSome shown (λ files. IsAnswer (files name) max fetched) → IsWithin max fetched → OfFile shown name (λ file. IsAnswer file max fetched)
answered (Some files) name max fetched is within = is
answered None name max (Bytes fetched) is within = (Some fetched.items, (refl, within))
answered None name max Absent is within = (None, refl)
answered None name max TooLong is within =
    let long : List ℕ = replicate (suc max) 0 in
    let more : max < length long = omega (arith, length-replicate {A = ℕ} (suc max) 0) in
    (Some long, more)

-- what follows for a file from the answer of a shelf to its name
pub by_answer : (shown : Option FilesByName) (name : List ℕ) (max : ℕ) (fetched : Fetched) (P : Option (List ℕ) → Type 0)
    → IfSome shown (λ files. IsAnswer (files name) max fetched) → IsWithin max fetched
    → ((file : Option (List ℕ)) → IsAnswer file max fetched → P file) → OfFile shown name P
by_answer shown name max fetched P is within more =
    of_file shown name (λ file. IsAnswer file max fetched) P more (answered shown name max fetched is within)
