-- Prints options as one line for what is due, and one line for each legal move.
use Rattle.std.specs.Prelude.{◌≤◌, ℕ, Bool, ◌==◌, if◌then◌else◌, List, [], ◌++◌, codes, flat_map, take, Option}
use Rattle.std.specs.Fmt.{decimal}
use Rattle.std.specs.Option.{option_map_or}
use Rattle.chip_ledger.specs.SeatsSaid.{default_name, seat_said}
use Rattle.play_event.specs.declared.reason.Due.{Due}
use Rattle.play_event.specs.declared.reason.Due.TheVariants as dues
use Rattle.hand_options.specs.declared.choices.Options.{Options}
use Rattle.hand_options.specs.declared.choices.RaiseSet.{RaiseSet}
use Rattle.hand_options.specs.declared.choices.RaiseSet.TheVariants as sets

-- the name of the player to act; a question mark if an up-card that decides it is unknown
abbrev pub seat_text : Option ℕ → List ℕ
seat_text seat = option_map_or default_name seat (codes "?")

-- what is due, with the player to act if it is a move or a bring-in
abbrev pub due_text : Due → Option ℕ → List ℕ
due_text dues.Move seat = codes "move " ++ seat_text seat
due_text dues.BringIn seat = codes "bring-in " ++ seat_text seat
due_text (dues.Deal street) seat = codes "deal street " ++ decimal street
due_text (dues.Draw street) seat = codes "draw street " ++ decimal street
due_text dues.Show seat = codes "show"
due_text dues.Over seat = codes "over"

-- the first line: the hand, how many events took place, and what is due after them
abbrev pub head_line : ℕ → ℕ → Options → List ℕ
head_line hand events options =
    codes "hand "
    ++ (decimal hand
    ++ (codes " after "
    ++ (decimal events
    ++ (codes ": "
    ++ (due_text options.due (seat_said options.seat)
    ++ codes "\n")))))

-- the line of a fold
abbrev pub fold_line : Bool → List ℕ
fold_line fold = if fold then codes "fold\n" else []

-- the line of a call: the chips that it adds
abbrev pub call_line : Option ℕ → List ℕ
call_line call = option_map_or (λ chips. codes "call " ++ (decimal chips ++ codes "\n")) call []

-- the line of a bring-in: the chips to which it goes
abbrev pub bring_in_line : Option ℕ → List ℕ
bring_in_line target =
    option_map_or (λ chips. codes "bring-in to " ++ (decimal chips ++ codes "\n")) target []

-- the line of a raise to one target
abbrev pub target_line : ℕ → List ℕ
target_line target = codes "raise to " ++ (decimal target ++ codes "\n")

-- the line of a raise to any of a range, which may be one target
abbrev pub range_line : ℕ → ℕ → List ℕ
range_line least greatest =
    if least == greatest
    then target_line least
    else codes "raise to " ++ (decimal least ++ (codes ".." ++ (decimal greatest ++ codes "\n")))

-- the lines of raises: one of a range, or one for each target that is listed
abbrev pub raise_lines : RaiseSet → List ℕ
raise_lines sets.None = []
raise_lines (sets.Range least greatest) = range_line least greatest
raise_lines (sets.List count to) = flat_map target_line (take count to)

-- the text of the options after this number of events of the hand with this number
abbrev pub options_said : ℕ → ℕ → Options → List ℕ
options_said hand events options =
    head_line hand events options
    ++ (fold_line options.fold
    ++ (call_line options.call
    ++ (bring_in_line options.bring_in
    ++ raise_lines options.raise)))

-- a list has one target or two
abbrev pub HasTargets : RaiseSet → Type 0
HasTargets sets.None = Unit {0}
HasTargets (sets.Range least greatest) = Unit {0}
HasTargets (sets.List count to) = (1 ≤ count) × (count ≤ 2)
