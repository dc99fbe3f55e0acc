-- Entries and line forms of the code, as the definitions see them.
use Rattle.acpc_game.specs.declared.entry.Entry.{Entry}
use Rattle.acpc_game.specs.declared.key_line.KeyLine.{KeyLine}
use Rattle.acpc_game.specs.Forms.{Form}
use Rattle.acpc_game.specs.GameEntries.{EntrySaid}
use Rattle.first_fault.specs.Words.{words_of}

-- what an entry says
abbrev pub entry_said : Entry → EntrySaid
entry_said entry = record { key = entry.key; line = entry.line; numbers = entry.numbers.items }

-- the form of a line
abbrev pub form_said : KeyLine → Form
form_said line = (line.key, words_of line.numbers.now)
