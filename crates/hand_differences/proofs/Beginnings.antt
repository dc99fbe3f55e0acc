-- For two sound plays, neither list of moves or dealt cards is the beginning of the other.
use Rattle.std.proofs.Common.{◌≡◌, ℕ, ◌≤◌, List, [], ◌∷◌, ◌++◌, drop, length, map, reverse, Some, refl, sym, ap, subst, ◌∙◌, inl, inr}
use Rattle.std.proofs.lemmas.Bool.{cases_lt}
use Rattle.std.proofs.lemmas.List.{map-append}
use Rattle.play_event.specs.PlayedScript.{IsPlayed}
use Rattle.play_event.specs.TraceCore.{TraceCore}
use Rattle.hand_canon.specs.Sound.{IsSound}
use Rattle.hand_canon.specs.WholeTrace.{IsTraceOf}
use Rattle.hand_canon.specs.SoundRecord.{script_said}
use Rattle.hand_canon.specs.TraceRows.{place_said}
use Rattle.hand_canon.specs.declared.trace.Play.{Play}
use Rattle.hand_canon.specs.declared.trace.Trace.{Trace}
use Rattle.play_event.proofs.ScriptLaws.{at_end}
use Rattle.play_event.specs.Due.{is_unfinished, turn}
use Rattle.play_event.specs.Played.{move_said}
use Rattle.play_event.specs.Said.{Said}
use Rattle.play_event.specs.Scripts.{past_at_end}
use Rattle.play_event.specs.declared.played.Move.{Move}
use Rattle.play_event.specs.declared.played.Place.{Place}
use Rattle.play_event.specs.declared.setup.Rules.{Rules}
use Rattle.play_event.specs.declared.setup.Setup.{Setup}
use Rattle.hand_differences.proofs.ExactTests.{exact_moves, exact_places}
use Rattle.hand_differences.proofs.FirstDiffering.{begins, differ_first, more_behind, turned}
use Rattle.hand_differences.proofs.NoFurtherMoves.{HasEnded, no_more_moves}
use Rattle.hand_differences.proofs.NoFurtherPlaces.{no_more_places}
use Rattle.hand_differences.proofs.SameCores.{moves_alike, setups_played}
use Rattle.hand_differences.specs.FirstNumbers.{first_other_number}
use Rattle.hand_differences.specs.SameParts.{is_same_move, is_same_place}

-- a script that is played to its end, and its trace
record IsEnded (setup : Setup) (rules : Rules) (script : List Said) (trace : Trace) : Type 0 where
  played : IsPlayed setup rules script
  traced : IsTraceOf setup (past_at_end setup script) trace

ended : (setup : Setup) (rules : Rules) (script : List Said) → IsPlayed setup rules script → HasEnded setup rules (reverse script)
ended setup rules script played = record { legal = played.legal; finished = sym (ap (λ p. is_unfinished (turn setup p).1) (at_end setup script)) ∙ played.complete }

sound_end : (play : Play) → IsSound play → IsEnded play.hand.setup play.hand.rules (script_said play.hand) play.trace
sound_end play sound = record { played = sound.legal.played; traced = sound.trace }

-- under the setup of another play that is the same
other_end : (play other : Play) → IsSound play → IsSound other → play.trace.setup ≡ other.trace.setup → IsEnded play.hand.setup other.hand.rules (script_said other.hand) other.trace
other_end play other sound too same =
    subst (λ (setup : Setup). IsEnded setup other.hand.rules (script_said other.hand) other.trace) (sym (setups_played play other sound too same)) (sound_end other too)

-- rows that say nothing are empty
no_rows : {A B : Type 0} (f : A → B) (rows : List A) → map f rows ≡ [] → rows ≡ []
no_rows f [] none = refl
no_rows f (row ∷ rest) none = absurd (cc)

-- moves
pub no_further_moves : (play other : Play) → IsSound play → IsSound other → play.trace.setup ≡ other.trace.setup → (rest : List Move) → other.trace.moves ≡ play.trace.moves ++ rest → rest ≡ []
no_further_moves play other sound too same rest is =
    let one = sound_end play sound in
    let two = other_end play other sound too same in
    let setup : Setup = play.hand.setup in
    no_rows move_said rest (no_more_moves setup play.hand.rules other.hand.rules (reverse (script_said play.hand)) (reverse (script_said other.hand)) (map move_said rest)
    (ended setup play.hand.rules (script_said play.hand) one.played) two.played.legal
    (sym (ap (λ (core : TraceCore). core.moves) two.traced.core)
    ∙ ap (map move_said) is
    ∙ map-append move_said play.trace.moves rest
    ∙ ap (λ l. l ++ map move_said rest) (ap (λ (core : TraceCore). core.moves) one.traced.core)))

-- dealt cards
pub no_further_places : (play other : Play) → IsSound play → IsSound other → play.trace.setup ≡ other.trace.setup → play.trace.moves ≡ other.trace.moves → (rest : List Place) → other.trace.places ≡ play.trace.places ++ rest → rest ≡ []
no_further_places play other sound too same moves rest is =
    let one = sound_end play sound in
    let two = other_end play other sound too same in
    let setup : Setup = play.hand.setup in
    no_rows place_said rest (no_more_places setup play.hand.rules other.hand.rules (reverse (script_said play.hand)) (reverse (script_said other.hand)) (map place_said rest)
    (ended setup play.hand.rules (script_said play.hand) one.played) (ended setup other.hand.rules (script_said other.hand) two.played)
    (moves_alike setup (past_at_end setup (script_said play.hand)) (past_at_end setup (script_said other.hand)) play.trace other.trace one.traced two.traced moves)
    (sym (ap (λ (core : TraceCore). core.places) two.traced.core)
    ∙ ap (map place_said) is
    ∙ map-append place_said play.trace.places rest
    ∙ ap (λ l. l ++ map place_said rest) (ap (λ (core : TraceCore). core.places) one.traced.core)))

-- so both have the move that is reported to differ
pub both_moved : (play other : Play) (number : ℕ) → IsSound play → IsSound other → play.trace.setup ≡ other.trace.setup → first_other_number is_same_move play.trace.moves other.trace.moves ≡ Some number
    → (number ≤ length play.trace.moves) × (number ≤ length other.trace.moves)
both_moved play other number sound too same is =
    let it = differ_first is_same_move exact_moves play.trace.moves other.trace.moves number is in
    let back = turned play.trace.moves other.trace.moves number it in (
      elim (cases_lt (length play.trace.moves) number) [
        | inr inside ↦ inside
        | inl beyond ↦ absurd (more_behind is_same_move exact_moves play.trace.moves other.trace.moves number it beyond (no_further_moves play other sound too same (drop (length play.trace.moves) other.trace.moves) (begins is_same_move exact_moves play.trace.moves other.trace.moves number it beyond)))
      ],
      elim (cases_lt (length other.trace.moves) number) [
        | inr inside ↦ inside
        | inl beyond ↦ absurd (more_behind is_same_move exact_moves other.trace.moves play.trace.moves number back beyond (no_further_moves other play too sound (sym same) (drop (length other.trace.moves) play.trace.moves) (begins is_same_move exact_moves other.trace.moves play.trace.moves number back beyond)))
      ],
    )

-- and the dealt card
pub both_dealt : (play other : Play) (number : ℕ) → IsSound play → IsSound other → play.trace.setup ≡ other.trace.setup → play.trace.moves ≡ other.trace.moves → first_other_number is_same_place play.trace.places other.trace.places ≡ Some number
    → (number ≤ length play.trace.places) × (number ≤ length other.trace.places)
both_dealt play other number sound too same moves is =
    let it = differ_first is_same_place exact_places play.trace.places other.trace.places number is in
    let back = turned play.trace.places other.trace.places number it in (
      elim (cases_lt (length play.trace.places) number) [
        | inr inside ↦ inside
        | inl beyond ↦ absurd (more_behind is_same_place exact_places play.trace.places other.trace.places number it beyond (no_further_places play other sound too same moves (drop (length play.trace.places) other.trace.places) (begins is_same_place exact_places play.trace.places other.trace.places number it beyond)))
      ],
      elim (cases_lt (length other.trace.places) number) [
        | inr inside ↦ inside
        | inl beyond ↦ absurd (more_behind is_same_place exact_places other.trace.places play.trace.places number back beyond (no_further_places other play too sound (sym same) (sym moves) (drop (length other.trace.places) play.trace.places) (begins is_same_place exact_places other.trace.places play.trace.places number back beyond)))
      ],
    )
