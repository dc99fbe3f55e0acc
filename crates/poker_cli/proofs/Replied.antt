-- What holds after a reply follows from what is read for it.
use Rattle.std.proofs.Common.{ℕ, ◌≤◌, IfErr, IfOk, IsErrOf, Result, Ok, Err, refl, arith}
use Rattle.host_io.specs.Faults.{Rose}
use Rattle.poker_cli.specs.Replied.{ComesFirst, Keeps}
use Rattle.poker_cli.specs.Run.{IsOfInput}
use Rattle.poker_cli.specs.declared.answer.Answer as made
use Rattle.poker_cli.specs.declared.no_answer.NoAnswerError.{NoAnswerError}
use Rattle.poker_cli.specs.declared.no_answer.NoAnswerError.TheVariants as whys
use Rattle.poker_cli.proofs.OwnStatus.{own_of_input, read_of_input}

-- if nothing but the input is read
pub keeps_read : {S : Type 0} (input read : S) (reads asks : ℕ × ℕ) (result : Result made.Answer NoAnswerError)
    → IfOk result (λ answer. IsOfInput answer.status) → (IsErrOf result whys.ReadFault → Rose reads.0 reads.1)
    → IfErr result (λ why. ComesFirst why → ⊥) → Keeps input read reads asks result
keeps_read input read reads asks (Ok answer) of rose alone =
    (own_of_input answer.status of, λ nothing. absurd (read_of_input answer.status of nothing))
keeps_read input read reads asks (Err whys.ReadFault) of rose alone = rose refl
keeps_read input read reads asks (Err (whys.Memory memory)) of rose alone = tt
keeps_read input read reads asks (Err whys.ShelfFault) of rose alone = absurd (alone tt)
keeps_read input read reads asks (Err whys.GameMissing) of rose alone = absurd (alone tt)
keeps_read input read reads asks (Err whys.FileMissing) of rose alone = absurd (alone tt)

-- if the shelf was asked before
pub keeps_later : {S : Type 0} (input read : S) (reads : ℕ × ℕ) (before between now : ℕ) (result : Result made.Answer NoAnswerError)
    → before ≤ between → Keeps input read reads (between, now) result → Keeps input read reads (before, now) result
keeps_later input read reads before between now (Err whys.ShelfFault) later kept =
    let rose : Rose between now = kept.0 in (omega (arith, later, rose), kept.1)
keeps_later input read reads before between now (Err why) later kept = kept
keeps_later input read reads before between now (Ok answer) later kept = kept
