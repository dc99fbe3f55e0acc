-- What a script that is being written says so far.
use Rattle.std.specs.Prelude.{List, map}
use Rattle.play_event.specs.Said.{Said, said_of}
use Rattle.hand_canon.specs.declared.numbered.Numbered.{Numbered}

-- what the events of a script say
abbrev pub words_of : Numbered → List Said
words_of written = map said_of written.script
