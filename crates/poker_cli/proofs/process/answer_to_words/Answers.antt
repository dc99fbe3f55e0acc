-- The words that are run are those after the name of the process.
use Rattle.std.proofs.Common.{◌≡◌, ◌≢◌, ℕ, List, [], drop, map, string_bytes, IfErr, IfOk, Result, Ok, Err, Option, None, ap, refl, sym, subst, inl, inr, ◌∙◌}
use Rattle.std.specs.IoError.{error_kind}
use Rattle.std.specs.Vec.Iter.{into_iter_items}
use Rattle.std.specs.declared.alloc.Global.{Global}
use Rattle.std.specs.declared.io.Error.{Error}
use Rattle.std.specs.declared.io.ErrorKind.TheVariants.{OutOfMemory}
use Rattle.std.specs.declared.string.String.{String}
use Rattle.std.specs.declared.vec.IntoIter.{IntoIter}
use Rattle.command_words.specs.Words.{request_said}
use Rattle.poker_cli.specs.Files.{FilesByName}
use Rattle.poker_cli.specs.Run.{Sinks}
use Rattle.poker_cli.specs.Process.{RunKeeps, words_given}
use Rattle.poker_cli.specs.declared.status.Status.{Status}
use Rattle.poker_cli.specs.declared.status.Status.TheVariants as statuses
use Rattle.poker_cli.proofs.process.answer_to_words.Goals as goal

-- the words that are run are those that the process is given
words_are : {E : Type 0} (all : Result (IntoIter (String Global) Global) E) (items : List (String Global))
    → IfOk all (λ args. items ≡ drop 1 (into_iter_items args)) → IfErr all (λ error. items ≡ []) → map string_bytes items ≡ words_given all
words_are (Ok args) items is none = ap (map string_bytes) is
words_are (Err error) items is none = ap (map string_bytes) none

-- words that are not text are no command
no_command : (all : Result (IntoIter (String Global) Global) Error) (items : List (String Global)) (status : Status) → IfErr all (λ error. items ≡ [])
    → (request_said (map string_bytes items) ≡ None → status ≡ statuses.Usage)
    → IfErr all (λ error. error_kind error ≢ OutOfMemory → status ≡ statuses.Usage)
no_command (Ok args) items status none usage = tt
no_command (Err error) items status none usage =
    λ kind. usage (subst (λ (words : List (String Global)). request_said (map string_bytes words) ≡ None) (sym none) refl)

-- what is promised for some words is promised for the same words
moved : {S H K D : Type 0} {words given : List (List ℕ)} {left : Option (List ℕ)} {shown : Option FilesByName} {Asked : H → H → List ℕ → Type 0} {reads asks : ℕ × ℕ}
    {out diag : Sinks} {status : Status} {input read : S} {shelf seen : H} {sink written : K} {lines heard : D}
    → words ≡ given → RunKeeps words left shown Asked reads asks out diag status input read shelf seen sink written lines heard
    → RunKeeps given left shown Asked reads asks out diag status input read shelf seen sink written lines heard
moved {left = left} {shown = shown} {Asked = Asked} {reads = reads} {asks = asks} {out = out} {diag = diag} {status = status} {input = input} {read = read}
    {shelf = shelf} {seen = seen} {sink = sink} {written = written} {lines = lines} {heard = heard} same keeps =
    subst (λ (w : List (List ℕ)). RunKeeps w left shown Asked reads asks out diag status input read shelf seen sink written lines heard) same keeps

pub returns-in-Ok-clause-run : goal.returns-in-Ok-clause-run
returns-in-Ok-clause-run g c =
    let run = c.run.ensures in
    let given = ap (map string_bytes) c.deref.ensures.value ∙ words_are c.args.all c.in-Ok.words.items c.in-Ok.ensures.words c.in-Ok.ensures.no_words in
    inr (moved given
    (record {
      memory = run.memory;
      usage = run.usage;
      ends = run.ends;
      tells = run.tells;
      leaves = run.leaves;
      in_turn = run.asks;
      without_file = run.without_file;
      without_input = run.without_input;
    }))

pub returns-in-Ok-clause-no_text : goal.returns-in-Ok-clause-no_text
returns-in-Ok-clause-no_text g c =
    no_command c.args.all c.in-Ok.words.items c.run.result c.in-Ok.ensures.no_words
    (λ none. c.run.ensures.usage.1 (ap request_said (ap (map string_bytes) c.deref.ensures.value) ∙ none))

pub returns-in-Err-clause-run : goal.returns-in-Err-clause-run
returns-in-Err-clause-run g c =
    inl (record { memory = refl; refused = c.in-Err.memory.refused; shown = c.print_line.ensures; unread = refl; unasked = refl; unwritten = refl })
