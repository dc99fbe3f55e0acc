-- Records that bytes cannot tell apart have plays that a notation cannot tell apart.
use Rattle.std.proofs.Common.{◌≡◌, ℕ, All, List, [], ◌∷◌, sym, subst}
use Rattle.std.proofs.lemmas.List.Elements.{All-head, All-tail}
use Rattle.hand_canon.specs.LegalPlay.{IsLegalPlay}
use Rattle.hand_canon.specs.declared.record.Record.{Record}
use Rattle.hand_canon.specs.declared.trace.Play.{Play}
use Rattle.play_event.specs.declared.setup.Setup.{Setup}
use Rattle.convert_core.specs.Conversion.{ReadAsPlays, ReadAsRefused}
use Rattle.convert_core.specs.Judged.{ArePlaysOf}
use Rattle.convert_core.specs.SameRecords.{AllAlike, ArePlayedAlike, NoteTheSame}
use Rattle.convert_core.specs.declared.refusal.Refusal.{Refusal}
use Rattle.convert_core.proofs.OneOutcome.{AllTheSame, AllTraced, no_plays, same_refused, same_traces}
use Rattle.hand_canon.specs.Plays.{hands_of}

pub all_same : (records others : List Record) → AllAlike records others → AllTheSame records others
unfolding AllAlike AllTheSame
all_same [] [] alike = tt
all_same [] (b ∷ others) alike = alike
all_same (a ∷ rest) [] alike = alike
all_same (a ∷ rest) (b ∷ others) alike = (alike.0.same, all_same rest others alike.1)

-- plays are alike, one by one
unfoldable pub AllPlayedAlike : List Play → List Play → Type 0
AllPlayedAlike [] [] = Unit {0}
AllPlayedAlike [] (q ∷ qs) = ⊥
AllPlayedAlike (p ∷ ps) [] = ⊥
AllPlayedAlike (p ∷ ps) (q ∷ qs) = ArePlayedAlike p q × AllPlayedAlike ps qs

pub played_alike : (plays others : List Play) → All IsLegalPlay plays → AllTraced plays others → AllAlike (hands_of plays) (hands_of others) → AllPlayedAlike plays others
unfolding AllTraced AllAlike AllPlayedAlike
played_alike [] [] judged traced alike = tt
played_alike [] (q ∷ qs) judged traced alike = traced
played_alike (p ∷ ps) [] judged traced alike = traced
played_alike (p ∷ ps) (q ∷ qs) judged traced alike = (
  record {
    trace = traced.0.0;
    same = traced.0.1;
    notes =
        subst (λ (setup : Setup). NoteTheSame setup.stacks.seats p.hand.notes q.hand.notes)
        (sym (All-head IsLegalPlay p ps judged).traced.whole.same_setup) alike.0.notes;
  },
  played_alike ps qs (All-tail IsLegalPlay p ps judged) traced.1 alike.1,
)

-- plays of records that are alike
pub plays_alike : (records others : List Record) (plays too : List Play) → AllAlike records others → ArePlaysOf records plays → ArePlaysOf others too → AllPlayedAlike plays too
plays_alike records others plays too alike are is =
    played_alike plays too are.judged (same_traces records others plays too (all_same records others alike) are is)
    (subst (λ (rs : List Record). AllAlike rs (hands_of too)) (sym are.same) (subst (AllAlike records) (sym is.same) alike))

-- what bytes say is read in only one way
abbrev pub IsReadAlike : (List Record → Type 0) → Type 0
IsReadAlike Say = (records others : List Record) → Say records → Say others → AllAlike records others

pub refused_or_played : (Say : List Record → Type 0) → IsReadAlike Say → (number : ℕ) (why : Refusal) (plays : List Play) → ReadAsRefused Say number why → ReadAsPlays Say plays → ⊥
refused_or_played Say one number why plays refused played =
    no_plays refused.records played.records number why plays
    (all_same refused.records played.records (one refused.records played.records refused.say played.say)) refused.first played.are

pub one_refused_hand : (Say : List Record → Type 0) → IsReadAlike Say → (number other : ℕ) (why reason : Refusal) → ReadAsRefused Say number why → ReadAsRefused Say other reason → (number ≡ other) × (why ≡ reason)
one_refused_hand Say one number other why reason is it =
    same_refused is.records it.records number other why reason
    (all_same is.records it.records (one is.records it.records is.say it.say)) is.first it.first
