use Rattle.play_event.proofs.PackedScripts.{events_are}
use Rattle.play_event.proofs.cursor.Cursor.new.Goals as goal

pub returns : goal.returns
returns c = λ events fit packed. search events_are
