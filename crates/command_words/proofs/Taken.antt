-- The parser takes all words that ask for something.
use Rattle.std.proofs.Common.{◌≡◌, List, [], ◌∷◌, true, is_some}
use Rattle.clap.specs.Walk.{Text}
use Rattle.command_words.specs.Parser.{are_taken}
use Rattle.command_words.specs.Words.{request_said}
use Rattle.command_words.proofs.Asked.{is_asked}
use Rattle.command_words.proofs.Parses.{takes_words}

pub all_taken : (words : List Text) → is_some (request_said words) ≡ true → are_taken words ≡ true
all_taken [] some = cc
all_taken (word ∷ words) some =
    let asked = is_asked word words some in
    takes_words word words asked.options asked.plain asked.said
