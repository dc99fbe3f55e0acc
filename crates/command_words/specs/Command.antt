-- A command, by the notations and the file that it names.
use Rattle.std.specs.Prelude.{◌||◌, ℕ, Bool, true, false, List, Option, Some, None, is_some, option_map}
use Rattle.chip_ledger.specs.declared.numbers.Seat.{Seat}
use Rattle.command_words.specs.declared.command.Command as made
use Rattle.command_words.specs.declared.command.Command.TheVariants as cases
use Rattle.command_words.specs.declared.command.EachQuestion.{EachQuestion}
use Rattle.command_words.specs.declared.notation.NotationName.{NotationName}
use Rattle.command_words.specs.declared.notation.NotationName.TheVariants as names
use Rattle.command_words.specs.declared.notation.PlainNotation.{PlainNotation}
use Rattle.hand_canon.specs.declared.writing.Keep.{Keep}

-- What is asked, with one case for each command. `N` names a notation, and `from` is that of the
-- input. The other file of a comparison is its name, or its bytes.
pub data Command (N : Type 0) : Type 0 where
  Check : (from : N) → Command N
  Replay : (from : N) → Command N
  Report : (from : N) → Command N
  Session : (from : N) → Command N
  Game : (from : N) → Command N
  Options : (from : N) → (hand events : ℕ) → Command N
  Equity : (from : N) → (hand street : ℕ) → Command N
  Judge : (from : N) → (lines : Bool) → Command N
  Views : (from : N) → Seat → Command N
  Each : (from : N) → EachQuestion → Command N
  Convert : (from to : N) → Keep → Command N
  Compare : (from other : N) → (file : List ℕ) → (notes : Bool) → Command N
  Load : (seed hands : ℕ) → Command N

-- a command of the code, with this other file
abbrev pub command_in : {N : Type 0} → (file : List ℕ) → made.Command N → Command N
command_in file (cases.Check from) = Check from
command_in file (cases.Replay from) = Replay from
command_in file (cases.Report from) = Report from
command_in file (cases.Session from) = Session from
command_in file (cases.Game from) = Game from
command_in file (cases.Options from hand events) = Options from hand events
command_in file (cases.Equity from hand street) = Equity from hand street
command_in file (cases.Judge from lines) = Judge from lines
command_in file (cases.Views from seat) = Views from seat
command_in file (cases.Each from question) = Each from question
command_in file (cases.Convert from to keep) = Convert from to keep
command_in file (cases.Compare from other notes) = Compare from other file notes
command_in file (cases.Load seed hands) = Load seed hands.number

-- a command, where each name of a notation means this
abbrev pub with_notations : {N M : Type 0} → (meaning : N → M) → Command N → Command M
with_notations meaning (Check from) = Check (meaning from)
with_notations meaning (Replay from) = Replay (meaning from)
with_notations meaning (Report from) = Report (meaning from)
with_notations meaning (Session from) = Session (meaning from)
with_notations meaning (Game from) = Game (meaning from)
with_notations meaning (Options from hand events) = Options (meaning from) hand events
with_notations meaning (Equity from hand street) = Equity (meaning from) hand street
with_notations meaning (Judge from lines) = Judge (meaning from) lines
with_notations meaning (Views from seat) = Views (meaning from) seat
with_notations meaning (Each from question) = Each (meaning from) question
with_notations meaning (Convert from to keep) = Convert (meaning from) (meaning to) keep
with_notations meaning (Compare from other file notes) =
    Compare (meaning from) (meaning other) file notes
with_notations meaning (Load seed hands) = Load seed hands

-- a command, where the other file is this
abbrev pub with_file : {N : Type 0} → (file : List ℕ) → Command N → Command N
with_file file (Compare from other name notes) = Compare from other file notes
with_file file command = command

-- the notation of the input, if the command reads one
abbrev pub input_of : {N : Type 0} → Command N → Option N
input_of (Check from) = Some from
input_of (Replay from) = Some from
input_of (Report from) = Some from
input_of (Session from) = Some from
input_of (Game from) = Some from
input_of (Options from hand events) = Some from
input_of (Equity from hand street) = Some from
input_of (Judge from lines) = Some from
input_of (Views from seat) = Some from
input_of (Each from question) = Some from
input_of (Convert from to keep) = Some from
input_of (Compare from other file notes) = Some from
input_of (Load seed hands) = None

-- the command reads an input
abbrev pub has_input : {N : Type 0} → Command N → Bool
has_input (Load seed hands) = false
has_input command = true

-- the other file that the command reads, if it reads one
abbrev pub file_of : {N : Type 0} → Command N → Option (List ℕ)
file_of (Compare from other file notes) = Some file
file_of command = None

-- the command reads another file
abbrev pub has_other_file : {N : Type 0} → Command N → Bool
has_other_file command = is_some (file_of command)

-- the notation is that of logs
abbrev pub is_of_logs : NotationName → Bool
is_of_logs (names.Plain notation) = false
is_of_logs names.Acpc = true

-- one of the notations of the command is that of logs
abbrev pub is_about_logs : Command NotationName → Bool
is_about_logs (Check from) = is_of_logs from
is_about_logs (Replay from) = is_of_logs from
is_about_logs (Report from) = is_of_logs from
is_about_logs (Session from) = is_of_logs from
is_about_logs (Game from) = is_of_logs from
is_about_logs (Options from hand events) = is_of_logs from
is_about_logs (Equity from hand street) = is_of_logs from
is_about_logs (Judge from lines) = is_of_logs from
is_about_logs (Views from seat) = is_of_logs from
is_about_logs (Each from question) = is_of_logs from
is_about_logs (Convert from to keep) = is_of_logs from || is_of_logs to
is_about_logs (Compare from other file notes) = is_of_logs from || is_of_logs other
is_about_logs (Load seed hands) = false

-- what two values give, if both are given
abbrev pub with_both : {X Y Z : Type 0} → (X → Y → Option Z) → Option X → Option Y → Option Z
with_both give None second = None
with_both give (Some x) None = None
with_both give (Some x) (Some y) = give x y

-- the same notation, if it is not that of logs
abbrev pub plain_of : NotationName → Option PlainNotation
plain_of (names.Plain notation) = Some notation
plain_of names.Acpc = None

-- the same command, if none of its notations is that of logs
abbrev pub plain_command : Command NotationName → Option (Command PlainNotation)
plain_command (Check from) = option_map (λ from. Check from) (plain_of from)
plain_command (Replay from) = option_map (λ from. Replay from) (plain_of from)
plain_command (Report from) = option_map (λ from. Report from) (plain_of from)
plain_command (Session from) = option_map (λ from. Session from) (plain_of from)
plain_command (Game from) = option_map (λ from. Game from) (plain_of from)
plain_command (Options from hand events) =
    option_map (λ from. Options from hand events) (plain_of from)
plain_command (Equity from hand street) =
    option_map (λ from. Equity from hand street) (plain_of from)
plain_command (Judge from lines) =
    option_map (λ from. Judge from lines) (plain_of from)
plain_command (Views from seat) =
    option_map (λ from. Views from seat) (plain_of from)
plain_command (Each from question) =
    option_map (λ from. Each from question) (plain_of from)
plain_command (Convert from to keep) =
    with_both (λ from to. Some (Convert from to keep)) (plain_of from) (plain_of to)
plain_command (Compare from other file notes) =
    with_both (λ from other. Some (Compare from other file notes)) (plain_of from)
    (plain_of other)
plain_command (Load seed hands) = Some (Load seed hands)
