-- Sound plays have all that a reader needs, so what was written for them reads back.
use Rattle.std.proofs.Common.{◌≡◌, ℕ, ◌-◌, ◌≤◌, ◌<◌, List, [], ◌∷◌, length, count_by, sum_by, Ok, refl, sym, ap, subst, ◌∙◌, arith}
use Rattle.std.specs.List.{AllByRecursion}
use Rattle.std.proofs.lemmas.List.{length-map, length-take-le}
use Rattle.std.proofs.lemmas.List.Sums.{sum_by-cons}
use Rattle.chip_ledger.specs.PotRow.{plain, plain_pots, pots_in}
use Rattle.chip_ledger.specs.RakeRow.{rake_of}
use Rattle.chip_ledger.specs.Rakes.{chips_in}
use Rattle.chip_ledger.specs.declared.pots.PotRow.{PotRow}
use Rattle.play_event.specs.Said.{Said}
use Rattle.play_event.specs.Scripts.{past_at_end}
use Rattle.play_event.specs.ValidSetup.{IsValid}
use Rattle.play_event.specs.declared.setup.Setup.{Setup}
use Rattle.play_event.specs.CanonScript.{canon_of, canonical_script}
use Rattle.play_event.specs.PlayedScript.{IsWithinLimits, is_move_event}
use Rattle.canon_laws.proofs.EventRanges.{events_in_range}
use Rattle.canon_laws.proofs.SameMoves.{canon_within, same_moves}
use Rattle.hand_canon.specs.AllowedNotes.{AreAllowed}
use Rattle.hand_canon.specs.Sound.{IsSound}
use Rattle.hand_canon.specs.SoundRecord.{script_said}
use Rattle.hand_canon.specs.TraceRows.{core_said}
use Rattle.first_fault.specs.declared.limits.TheConstants.{MOST_FILE_MOVES, MOST_HANDS}
use Rattle.hand_canon.specs.declared.trace.Play.{Play}
use Rattle.trace_laws.proofs.ShareBounds.{shares_and_rakes}
use Rattle.phh_reading.specs.Reading.{reading}
use Rattle.phh_format.specs.Document.{Spells}
use Rattle.phh_format.specs.HandFields.{script_of}
use Rattle.phh_format.specs.Again.{hands_again}
use Rattle.phh_format.proofs.FileAgain.{plays_again}
use Rattle.phh_format.proofs.Readable.{IsReadable, moves_written}
use Rattle.hand_canon.specs.Moves.{moves_played}
use Rattle.play_event.specs.Ranges.{IsInRange}
use Rattle.chip_ledger.proofs.PlainPots.{no_chips_past}

none_past : (row : PotRow) (pot : ℕ) → row.count < pot → chips_in (plain_pots row) pot ≡ 0
none_past row pot late =
    no_chips_past (plain_pots row) (pot - 1) (omega (
      arith,
      late,
      row.most,
      row.full,
      length-map (pots_in row) plain,
      length-take-le row.count row.pots (omega (arith, row.most, row.full)),
    ))

module _ (play : Play) (sound : IsSound play) where
  abbrev setup : Setup
  setup = play.hand.setup

  abbrev script : List Said
  script = script_said play.hand

  same_setup : setup ≡ play.trace.setup
  same_setup = sym sound.trace.same_setup

  -- what is written is the canonical script of what was played
  pub same_script : canon_of setup script ≡ script_of play.trace
  same_script =
      sym (ap (λ (of : Setup). canonical_script of (core_said play.trace)) sound.trace.same_setup
      ∙ ap (canonical_script setup) sound.trace.core)

  -- the same number of moves is written as was played
  pub same_count : moves_written play ≡ moves_played play
  same_count =
      ap (count_by is_move_event) (sym same_script) ∙ same_moves setup play.hand.rules script sound.legal.played

  events : AllByRecursion (IsInRange play.trace.setup.stacks.seats) (script_of play.trace)
  events =
      subst (λ (of : Setup). AllByRecursion (IsInRange of.stacks.seats) (script_of play.trace)) same_setup
      (subst (AllByRecursion (IsInRange setup.stacks.seats)) same_script
      (events_in_range setup play.hand.rules script sound.valid sound.legal.played))

  no_more_rakes : (pot : ℕ) → play.trace.pots.count < pot → rake_of play.trace.setup.rakes pot ≡ 0
  no_more_rakes pot late =
      omega (
        arith,
        shares_and_rakes setup (past_at_end setup script) play.trace sound.legal.shareable sound.trace pot,
        none_past play.trace.pots pot late,
        ap (λ (of : Setup). rake_of of.rakes pot) same_setup,
      )

  -- a sound play has all that a reader needs
  pub sound_readable : IsReadable play
  sound_readable =
      record {
        valid = subst IsValid same_setup sound.valid;
        events = events;
        within = subst IsWithinLimits same_script (canon_within setup play.hand.rules script sound.legal.played sound.within.moves);
        finish = sound.trace.seats.finish ∙ ap (λ (of : Setup). of.stacks.seats) same_setup;
        no_more_rakes = no_more_rakes;
        notes = subst (λ (of : Setup). AreAllowed of.stacks.seats play.hand.notes) same_setup sound.notes;
      }

all_readable : (plays : List Play) → AllByRecursion IsSound plays → AllByRecursion IsReadable plays
all_readable [] each = tt
all_readable (play ∷ rest) each = (sound_readable play each.0, all_readable rest each.1)

all_counted : (plays : List Play) → AllByRecursion IsSound plays → sum_by moves_written plays ≡ sum_by moves_played plays
all_counted [] each = refl
all_counted (play ∷ rest) each =
    omega (arith, sum_by-cons moves_written play rest, sum_by-cons moves_played play rest, same_count play each.0, all_counted rest each.1)

-- bytes that spell sound plays read as the hands of these plays
pub sound_again : (plays : List Play) (bytes : List ℕ) → length plays ≤ MOST_HANDS → AllByRecursion IsSound plays → sum_by moves_played plays ≤ MOST_FILE_MOVES → Spells plays bytes
    → reading bytes ≡ Ok (hands_again 0 plays)
sound_again plays bytes few each moves spells =
    plays_again plays bytes few (all_readable plays each) (omega (arith, moves, all_counted plays each)) spells
