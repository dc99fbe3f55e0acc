-- One more option, whose value is in its word or in the next, or the flag.
use Rattle.std.proofs.Common.{rules, ◌≡◌, true, false, ◌∷◌, map, string_bytes, option_map, ap, sym, ◌∙◌, Some, None}
use Rattle.std.proofs.lemmas.List.{nil_from_length}
use Rattle.clap.specs.Lexer.{long_of}
use Rattle.command_words.specs.Requests.{options_in}
use Rattle.command_words.specs.GivenOptions.{flags, names_flag, options_said, with_given, with_one_flag}
use Rattle.command_words.proofs.Steps.{behind_apart, behind_flag, behind_joined, none_joined, nothing_behind}
use Rattle.command_words.proofs.given_options.read_options.Goals as goal

pub loop-word-preserved-in_default-Some : goal.loop-word-preserved-in_default-Some
loop-word-preserved-in_default-Some c =
    let stood = options_in c.loop-word.options in
    let more = options_in c.in_ok-options-in_default-Some.options in
    let word = c.in-Some.word.now in
    let behind = c.in-Some.behind.now in
    let name = c.in_ok-name.field-0.0.now in
    let value = c.in_default-Some.value.now in
    let first : c.loop-word.rest.now ≡ word ∷ behind = search rules in
    let is : long_of (string_bytes word) ≡ Some (name, Some value) = search rules in
    let with : with_given stood name value ≡ Some more = search rules in
    let step = behind_joined stood more (string_bytes word) name value (map string_bytes behind) is with in
    record { left = sym step ∙ sym (ap (λ words. options_said stood (map string_bytes words)) first) ∙ c.loop-word.invariant.left }

pub returns-in_err-options-in_default-Some : goal.returns-in_err-options-in_default-Some
returns-in_err-options-in_default-Some c =
    let stood = options_in c.loop-word.options in
    let word = c.in-Some.word.now in
    let behind = c.in-Some.behind.now in
    let name = c.in_ok-name.field-0.0.now in
    let value = c.in_default-Some.value.now in
    let first : c.loop-word.rest.now ≡ word ∷ behind = search rules in
    let is : long_of (string_bytes word) ≡ Some (name, Some value) = search rules in
    let with : with_given stood name value ≡ None = search rules in
    let none : c.from_residual-in_err-options-in_default-Some.result ≡ None = search rules in
    ap (option_map options_in) none ∙ sym (none_joined stood (string_bytes word) name value (map string_bytes behind) is with)
    ∙ sym (ap (λ words. options_said stood (map string_bytes words)) first) ∙ c.loop-word.invariant.left

pub loop-word-preserved-then-takes_no_value : goal.loop-word-preserved-then-takes_no_value
loop-word-preserved-then-takes_no_value c =
    let stood = options_in c.loop-word.options in
    let more = options_in c.in_ok-options-in_default-None.options in
    let word = c.in-Some.word.now in
    let behind = c.in-Some.behind.now in
    let name = c.in_ok-name.field-0.0.now in
    let first : c.loop-word.rest.now ≡ word ∷ behind = search rules in
    let is : long_of (string_bytes word) ≡ Some (name, None) = search rules in
    let flag : names_flag name ≡ true = search rules in
    let with : with_one_flag flags stood name ≡ Some more = search rules in
    let step = behind_flag stood more (string_bytes word) name (map string_bytes behind) is flag with in
    record { left = sym step ∙ sym (ap (λ words. options_said stood (map string_bytes words)) first) ∙ c.loop-word.invariant.left }

pub returns-in_err-value-in_default-None-2 : goal.returns-in_err-value-in_default-None-2
returns-in_err-value-in_default-None-2 c =
    let stood = options_in c.loop-word.options in
    let word = c.in-Some.word.now in
    let name = c.in_ok-name.field-0.0.now in
    let behind = nil_from_length c.in-Some.behind.now (search rules) in
    let first : c.loop-word.rest.now ≡ word ∷ c.in-Some.behind.now = search rules in
    let is : long_of (string_bytes word) ≡ Some (name, None) = search rules in
    let plain : names_flag name ≡ false = search rules in
    let none : c.from_residual-in_err-value-in_default-None-2.result ≡ None = search rules in
    ap (option_map options_in) none ∙ sym (nothing_behind stood (string_bytes word) name is plain)
    ∙ sym (ap (λ words. options_said stood (map string_bytes words)) (first ∙ ap (λ rest. word ∷ rest) behind)) ∙ c.loop-word.invariant.left

pub loop-word-preserved : goal.loop-word-preserved
loop-word-preserved c =
    let stood = options_in c.loop-word.options in
    let more = options_in c.in_ok-options-in_default-None-2.options in
    let word = c.in-Some.word.now in
    let value = c.in_ok-value-in_default-None-2.value.now in
    let behind = c.in_ok-value-in_default-None-2.behind.now in
    let first : c.loop-word.rest.now ≡ word ∷ c.in-Some.behind.now = search rules in
    let second : c.in-Some.behind.now ≡ value ∷ behind = search rules in
    let name = c.in_ok-name.field-0.0.now in
    let is : long_of (string_bytes word) ≡ Some (name, None) = search rules in
    let plain : names_flag name ≡ false = search rules in
    let with : with_given stood name (string_bytes value) ≡ Some more = search rules in
    let step = behind_apart stood more (string_bytes word) name (string_bytes value) (map string_bytes behind) is plain with in
    record { left = sym step ∙ sym (ap (λ words. options_said stood (map string_bytes words)) (first ∙ ap (λ rest. word ∷ rest) second)) ∙ c.loop-word.invariant.left }
