-- A file that is too long.
use Rattle.std.proofs.Common.{ℕ, List, Option, Some, None, refl, subst}
use Rattle.host_io.specs.Shelf.{IsAnswer}
use Rattle.host_io.specs.declared.shelf.Fetched.{Fetched}
use Rattle.host_io.specs.declared.shelf.Fetched.TheVariants as fetched_is
use Rattle.poker_cli.specs.AnswerParts.{most_input}
use Rattle.poker_cli.specs.OtherFile.{HasNoFile}
use Rattle.poker_cli.specs.declared.other_file.NoFileError.TheVariants as no_files
use Rattle.poker_cli.proofs.FilesTold.{by_answer}
use Rattle.poker_cli.proofs.other_file.fetch_file.Goals as goal

too_long : (file : Option (List ℕ)) → IsAnswer file most_input fetched_is.TooLong → HasNoFile file no_files.TooLong
too_long (Some text) more = (text, (refl, more))
too_long None more = absurd more

pub returns-in-TooLong-clause-none : goal.returns-in-TooLong-clause-none
returns-in-TooLong-clause-none g c =
    by_answer (g.H.Shelf.files c.args.shelf.now) c.args.name.now most_input _ (λ file. HasNoFile file no_files.TooLong) c.in_ok-file.ensures.answer
    c.in_ok-file.ensures.within
    (λ file is. too_long file (subst (λ (fetched : Fetched). IsAnswer file most_input fetched) c.in-TooLong.is is))
