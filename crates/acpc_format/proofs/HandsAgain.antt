-- The hands that are read again of plays are the hands of the plays, one by one.
use Rattle.std.proofs.Common.{◌≡◌, ℕ, ◌+◌, ◌≤◌, List, [], ◌∷◌, map, length, sum_by, Result, Ok, None, sym, ◌∙◌}
use Rattle.std.specs.List.{AllByRecursion}
use Rattle.hand_canon.specs.Sound.{IsSound}
use Rattle.first_fault.specs.declared.limits.TheConstants.{MOST_FILE_MOVES, MOST_HANDS}
use Rattle.hand_canon.specs.declared.record.Record.{Record}
use Rattle.hand_canon.specs.declared.trace.Play.{Play}
use Rattle.hand_canon.specs.declared.writing.Keep.{Keep}
use Rattle.acpc_game.specs.declared.game.Game.{Game}
use Rattle.acpc_format.specs.Line.{log_text}
use Rattle.acpc_format.specs.Spelled.{unspelled}
use Rattle.acpc_format.specs.Texts.{HasTexts}
use Rattle.acpc_reading.specs.Logs.{HandSaid, reading}
use Rattle.acpc_reading.specs.RecordView.{IsOfGame, record_said}
use Rattle.acpc_game.specs.declared.fault.AcpcFault.{AcpcFault}
use Rattle.acpc_format.specs.Again.{hand_again, hands_again}
use Rattle.hand_canon.specs.ReadAgain.{AreAgain}
use Rattle.acpc_format.specs.KeptNotes.{kept_in_acpc}
use Rattle.hand_canon.specs.SaidNotes.{KeepsNotes}
use Rattle.acpc_format.proofs.HandAgain.{hand_is}
use Rattle.acpc_format.proofs.SoundReads.{sound_again}
use Rattle.hand_canon.proofs.Refusals.{none_refused}
use Rattle.hand_canon.specs.WriteRefusals.{refusal_from, first_refusal}
use Rattle.hand_canon.specs.Plays.{moves_written}

all_again : (game : Game) (keep : Keep) (number place : ℕ) (plays : List Play) (records : List Record) → AllByRecursion IsSound plays → refusal_from (unspelled game keep) number plays ≡ None → AllByRecursion (IsOfGame game) records
    → map record_said records ≡ hands_again game.no_limit place plays → AreAgain (KeepsNotes kept_in_acpc) place plays records
unfolding AreAgain
all_again game keep number place [] [] sound none each same = tt
all_again game keep number place [] (hand ∷ hands) sound none each same = absurd (cc)
all_again game keep number place (play ∷ plays) [] sound none each same = absurd (cc)
all_again game keep number place (play ∷ plays) (hand ∷ hands) sound none each same =
    let parts = none_refused number (unspelled game keep play) (refusal_from (unspelled game keep) (number + 1) plays) none in
    let here : record_said hand ≡ hand_again game.no_limit place play = cc in
    let there : map record_said hands ≡ hands_again game.no_limit (place + 1) plays = cc in
    (hand_is game keep place play hand sound.0 parts.0 each.0 here, all_again game keep (number + 1) (place + 1) plays hands sound.1 parts.1 each.1 there)

-- hands that are read
abbrev read : List HandSaid → Result (List HandSaid) AcpcFault
read hands = Ok hands

same_hands : (a b : List HandSaid) → read a ≡ read b → a ≡ b
same_hands a b same = cc

-- plays read back as their hands
pub read_back : (game : Game) (keep : Keep) (plays : List Play) → length plays ≤ MOST_HANDS → AllByRecursion IsSound plays → AllByRecursion HasTexts plays → first_refusal (unspelled game keep) plays ≡ None → sum_by moves_written plays ≤ MOST_FILE_MOVES
    → (records : List Record) → AllByRecursion (IsOfGame game) records → reading game (log_text game.no_limit plays) ≡ Ok (map record_said records) → AreAgain (KeepsNotes kept_in_acpc) 0 plays records
read_back game keep plays few sound texts none moves records each said =
    all_again game keep 1 0 plays records sound none each (same_hands (map record_said records) (hands_again game.no_limit 0 plays) (sym said ∙ sound_again game keep plays few sound texts none moves))
