-- Judged records and their plays, as the loop over the records keeps them.
use Rattle.std.proofs.Common.{◌≡◌, ℕ, ◌+◌, List, [], ◌∷◌, ◌++◌, All, length, append_assoc, length-append, ap, ◌∙◌, arith}
use Rattle.std.proofs.lemmas.List.{map-append}
use Rattle.std.proofs.lemmas.List.Elements.{All-cons, All-head, All-nil, All-same, All-tail}
use Rattle.hand_canon.specs.declared.record.Record.{Record}
use Rattle.hand_canon.specs.declared.trace.Play.{Play}
use Rattle.hand_canon.specs.Sound.{IsSound}
use Rattle.hand_canon.specs.SoundRecord.{IsSoundRecord}
use Rattle.convert_core.specs.declared.refusal.PlaysFault.{PlaysFault}
use Rattle.convert_core.specs.declared.refusal.PlaysFault.TheVariants as plays_faults
use Rattle.hand_canon.specs.LegalPlay.{IsLegalPlay}
use Rattle.convert_core.specs.Judged.{IsFaultAt, IsPlaysFaultOf}
use Rattle.hand_canon.specs.Plays.{hands_of}

-- one more play, whose record is the next one
pub one_more : (plays : List Play) (play : Play) (hand : Record) (left records : List Record)
    → play.hand ≡ hand → hands_of plays ++ hand ∷ left ≡ records
    → hands_of (plays ++ play ∷ []) ++ left ≡ records
one_more plays play hand left records same all =
    ap (λ (xs : List Record). xs ++ left) (map-append (λ (p : Play). p.hand) plays (play ∷ []))
    ∙ append_assoc (hands_of plays) (play.hand ∷ []) left
    ∙ ap (λ (h : Record). hands_of plays ++ h ∷ left) same
    ∙ all

-- and the plays plus the records that are left are as many as before
pub counted_more : (plays : List Play) (play : Play) (hand : Record) (left : List Record) (count : ℕ)
    → length plays + length (hand ∷ left) ≡ count
    → length (plays ++ play ∷ []) + length left ≡ count
counted_more plays play hand left count before = omega (arith, length-append plays (play ∷ []), before)

-- a judged play of a sound record is sound
pub judged_sound : (play : Play) → IsSoundRecord play.hand → IsLegalPlay play → IsSound play
judged_sound play sound judged =
    record {
      valid = sound.valid;
      within = sound.within;
      legal = judged.traced.legal;
      trace = judged.traced.whole;
      notes = sound.notes;
    }

-- and so are all judged plays of sound records
pub plays_sound : (plays : List Play) → All IsSoundRecord (hands_of plays) → All IsLegalPlay plays → All IsSound plays
plays_sound [] sound judged = All-nil IsSound
plays_sound (play ∷ plays) sound judged =
    All-cons IsSound play plays
    (judged_sound play (All-head IsSoundRecord play.hand (hands_of plays) sound) (All-head IsLegalPlay play plays judged))
    (plays_sound plays (All-tail IsSoundRecord play.hand (hands_of plays) sound) (All-tail IsLegalPlay play plays judged))

-- what holds for all of a list holds for those at its front
all_front : (P : Record → Type 0) (xs ys : List Record) → All P (xs ++ ys) → All P xs
all_front P [] ys all = All-nil P
all_front P (x ∷ xs) ys all = All-cons P x xs (All-head P x (xs ++ ys) all) (all_front P xs ys (All-tail P x (xs ++ ys) all))

-- so the plays of the records so far are sound
pub front_sound : (plays : List Play) (left records : List Record)
    → hands_of plays ++ left ≡ records → All IsSoundRecord records → All IsLegalPlay plays → All IsSound plays
front_sound plays left records same sound judged =
    plays_sound plays (all_front IsSoundRecord (hands_of plays) left (All-same IsSoundRecord (hands_of plays ++ left) records same sound)) judged

-- a hand without a play, after judged ones, is the first refused one
pub first_refused : (plays : List Play) (hand : Record) (left records : List Record) (number : ℕ) (fault : PlaysFault)
    → All IsLegalPlay plays → hands_of plays ++ hand ∷ left ≡ records → number ≡ length plays + 1
    → IsFaultAt hand number fault → IsPlaysFaultOf records fault
first_refused plays hand left records number (plays_faults.Refused told why) judged stands counted refused =
    record {
      before = plays;
      judged = judged;
      hand = hand;
      behind = left;
      where_it_stands = stands;
      counted = refused.0 ∙ counted;
      refused = refused.1;
    }
first_refused plays hand left records number (plays_faults.Memory memory) judged stands counted refused = tt
