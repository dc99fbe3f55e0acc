-- If only the notes that a notation can express are kept, no note is among what it cannot express.
-- This is a proof: no reader needs it.
use Rattle.std.proofs.Common.{◌≡◌, Bool, true, false, if◌then◌else◌, List, [], ◌∷◌, Option, Some, None, IfSome, refl}
use Rattle.std.specs.List.{AllByRecursion, list_any}
use Rattle.acpc_game.specs.declared.game.Game.{Game}
use Rattle.acpc_format.specs.PlayFacts.{play_conditions}
use Rattle.acpc_format.specs.SetupFacts.{setup_conditions}
use Rattle.acpc_format.specs.Spelled.{unspelled as unspelled_in_acpc, unspelled_note}
use Rattle.convert_core.specs.Lawful.{is_note}
use Rattle.first_fault.specs.Conditions.{first_where}
use Rattle.hand_canon.specs.WriteRefusals.{or_behind}
use Rattle.hand_canon.specs.declared.trace.Play.{Play}
use Rattle.hand_canon.specs.declared.writing.Keep.TheVariants as keeps
use Rattle.hand_canon.specs.declared.writing.Unspelled.{Unspelled}
use Rattle.hand_canon.specs.declared.writing.Unspelled.TheVariants as facts
use Rattle.ohh_writing.specs.Spelled.{first_unspelled, trace_facts, unspelled as unspelled_in_ohh}
use Rattle.phh_format.specs.Spelled.{unspelled as unspelled_in_phh}
use Rattle.play_event.specs.declared.played.Move.{Move}

abbrev NoNote : Option Unspelled → Type 0
NoNote found = IfSome found (λ fact. is_note fact ≡ false)

no_note_where : (rows : List (Bool × Unspelled))
    → AllByRecursion (λ row. is_note row.1 ≡ false) rows → NoNote (first_where rows)
no_note_where [] all = tt
no_note_where ((condition, fact) ∷ rest) all = go condition (no_note_where rest all.1)
  where
    go : (b : Bool) → NoNote (first_where rest)
        → NoNote (if b then Some fact else first_where rest)
    go true behind = all.0
    go false behind = behind

no_note_tried : (rows : List (Bool × Unspelled))
    → AllByRecursion (λ row. is_note row.1 ≡ false) rows → NoNote (first_unspelled rows)
no_note_tried [] all = tt
no_note_tried (row ∷ rest) all = go row.0 (no_note_tried rest all.1)
  where
    go : (b : Bool) → NoNote (first_unspelled rest)
        → NoNote (if b then first_unspelled rest else Some row.1)
    go true behind = behind
    go false behind = all.0

no_note_behind : (here behind : Option Unspelled) → NoNote here → NoNote behind
    → NoNote (or_behind here behind)
no_note_behind (Some fact) behind is too = is
no_note_behind None behind is too = too

no_note_if : (closed : Bool) → NoNote (if closed then Some facts.ReopenedShort else None)
no_note_if true = refl
no_note_if false = tt

pub no_note_in_phh : (play : Play) → NoNote (unspelled_in_phh play)
unfolding unspelled_in_phh
no_note_in_phh play = no_note_if (list_any (λ (move : Move). move.closed) play.trace.moves)

pub no_note_in_ohh : (play : Play) → NoNote (unspelled_in_ohh keeps.Spelled play)
unfolding unspelled_in_ohh
no_note_in_ohh play =
    no_note_behind (first_unspelled (trace_facts play.trace)) None
    (no_note_tried (trace_facts play.trace) (refl, (refl, (refl, (refl, (refl, tt)))))) tt

pub no_note_in_acpc : (game : Game) (play : Play)
    → NoNote (unspelled_in_acpc game keeps.Spelled play)
unfolding unspelled_in_acpc unspelled_note
no_note_in_acpc game play =
    let of_play = first_where (play_conditions game play.trace) in
    no_note_behind (first_where (setup_conditions game play.trace.setup)) (or_behind of_play None)
    (no_note_where (setup_conditions game play.trace.setup)
    (refl, (refl, (refl, (refl, (refl, (refl, (refl, tt))))))))
    (no_note_behind of_play None
    (no_note_where (play_conditions game play.trace)
    (refl, (refl, (refl, (refl, (refl, (refl, tt))))))) tt)
