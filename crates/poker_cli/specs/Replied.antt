-- Why a request has no answer, and what a reply does to the source and the devices.
use Rattle.std.specs.Prelude.{◌≡◌, ◌⊎◌, ℕ, true, List, Option, IsSome, Result, Ok, Err}
use Rattle.command_words.specs.Words.{Request}
use Rattle.host_io.specs.Faults.{Rose}
use Rattle.poker_cli.specs.Files.{FilesByName}
use Rattle.poker_cli.specs.Run.{AsksForFile, IsOwn, IsWithout, MissesFile, MissesGame, Needs, ReadsNothing, WhereNeeded, needs_of}
use Rattle.poker_cli.specs.declared.answer.Answer as made
use Rattle.poker_cli.specs.declared.no_answer.NoAnswerError.{NoAnswerError}
use Rattle.poker_cli.specs.declared.no_answer.NoAnswerError.TheVariants as whys

-- There is no answer for this reason, by what is needed, the bytes that a source has left and the
-- files on a shelf: the input was to be read and no file was missing, or the shelf failed, or a
-- file that is needed is not there. Nothing is known of them if memory ran out.
abbrev pub HasNoReply : Needs → (left : Option (List ℕ)) → (shown : Option FilesByName)
    → NoAnswerError → Type 0
HasNoReply needs left shown whys.ReadFault =
    WhereNeeded needs left shown (λ files bytes.
    (needs.input ≡ true) × (IsWithout needs files → ⊥))
HasNoReply needs left shown whys.ShelfFault = IsSome needs.game ⊎ IsSome needs.other
HasNoReply needs left shown whys.GameMissing =
    WhereNeeded needs left shown (λ files bytes. MissesGame needs files)
HasNoReply needs left shown whys.FileMissing =
    WhereNeeded needs left shown (λ files bytes. MissesFile needs files)
HasNoReply needs left shown (whys.Memory memory) = Unit {0}

-- a request has no answer for this reason
abbrev pub HasNoAnswer : Request → (left : Option (List ℕ)) → (shown : Option FilesByName)
    → NoAnswerError → Type 0
HasNoAnswer request left shown whys.ShelfFault = AsksForFile request
HasNoAnswer request left shown why = HasNoReply (needs_of request) left shown why

-- What holds after a reply, whether it is an answer or a reason why there is none: the status of an
-- answer is one that an answer can have, a device fault is reported only if its count of faults
-- rose, and if the reply comes before the input is read, the source stays as it was. `reads` and
-- `asks` are the fault counts of the source and of the shelf.
abbrev pub Keeps : {S : Type 0} → (input read : S) → (reads asks : ℕ × ℕ)
    → Result made.Answer NoAnswerError → Type 0
Keeps input read reads asks (Ok answer) =
    IsOwn answer.status × (ReadsNothing answer.status → read ≡ input)
Keeps input read reads asks (Err whys.ReadFault) = Rose reads.0 reads.1
Keeps input read reads asks (Err whys.ShelfFault) = Rose asks.0 asks.1 × (read ≡ input)
Keeps input read reads asks (Err whys.GameMissing) = read ≡ input
Keeps input read reads asks (Err whys.FileMissing) = read ≡ input
Keeps input read reads asks (Err (whys.Memory memory)) = Unit {0}

-- this reason for having no answer comes before the input is read
abbrev pub ComesFirst : NoAnswerError → Type 0
ComesFirst whys.GameMissing = Unit {0}
ComesFirst whys.FileMissing = Unit {0}
ComesFirst whys.ShelfFault = Unit {0}
ComesFirst whys.ReadFault = ⊥
ComesFirst (whys.Memory memory) = ⊥
