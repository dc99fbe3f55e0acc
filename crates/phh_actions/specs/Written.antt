-- The text of an event: its words, with a space between two. It reads back as that event.
use Rattle.std.specs.Prelude.{ℕ, Bool, nat_lt, List, [], ◌∷◌, length, codes, decimal, Some}
use Rattle.std.specs.List.{join_with_byte}
use Rattle.card_set.specs.Known.{known_slots}
use Rattle.card_set.specs.Spelling.{spelling}
use Rattle.play_event.specs.declared.event.Spelled.TheVariants as spelled
use Rattle.play_event.specs.Said as said
use Rattle.play_event.specs.Said.{Said}
use Rattle.chip_ledger.specs.SeatsSaid.{default_name}

-- The words of an event whose actor is named, and whose raise is given by the amount that it raises
-- to. The chips that a call is stated to add have no word. Other events have no words.
abbrev pub event_words : Said → List (List ℕ)
event_words (said.Hole seat slots) =
    codes "d" ∷ codes "dh" ∷ default_name seat ∷ spelling slots ∷ []
event_words (said.Board cards) = codes "d" ∷ codes "db" ∷ spelling (known_slots cards) ∷ []
event_words (said.Fold (Some seat)) = default_name seat ∷ codes "f" ∷ []
event_words (said.Call (Some seat) stated) = default_name seat ∷ codes "cc" ∷ []
event_words (said.Raise (Some seat) (spelled.To amount)) =
    default_name seat ∷ codes "cbr" ∷ decimal amount ∷ []
event_words (said.BringIn (Some seat)) = default_name seat ∷ codes "pb" ∷ []
event_words (said.Discard seat []) = default_name seat ∷ codes "sd" ∷ []
event_words (said.Discard seat slots) = default_name seat ∷ codes "sd" ∷ spelling slots ∷ []
event_words (said.Show seat cards) =
    default_name seat ∷ codes "sm" ∷ spelling (known_slots cards) ∷ []
event_words (said.Muck seat) = default_name seat ∷ codes "sm" ∷ []
event_words _ = []

-- the format has words for an event
abbrev pub has_words : Said → Bool
has_words event = nat_lt 0 (length (event_words event))

-- the text of an event
unfoldable pub event_text : Said → List ℕ
event_text event = join_with_byte 32 (event_words event)
