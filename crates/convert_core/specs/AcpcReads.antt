-- Bytes read as hands of a log under a game, or they have one fault, and not both.
-- This is a proof: no reader needs it.
use Rattle.std.proofs.Common.{◌≡◌, ℕ, suc, ◌+◌, Bool, false, List, [], ◌∷◌, length, map, Ok, Err, refl, ap}
use Rattle.std.proofs.lemmas.List.{length-map}
use Rattle.convert_core.specs.AcpcFaultLines.{reading_line}
use Rattle.acpc_format.specs.Again.{hands_again}
use Rattle.acpc_game.specs.declared.game.Game.{Game}
use Rattle.acpc_reading.specs.Logs.{HandSaid, reading}
use Rattle.acpc_reading.specs.RecordView.{record_said}
use Rattle.acpc_game.specs.declared.fault.AcpcFault.{AcpcFault}
use Rattle.hand_canon.specs.declared.record.Record.{Record}
use Rattle.hand_canon.specs.declared.trace.Play.{Play}
use Rattle.convert_core.specs.Acpc.{HaveFault, ReadAsHands, Say}
use Rattle.convert_core.specs.Faults.{is_out_of_memory_in_acpc}
use Rattle.convert_core.specs.OneReading.{HasFaultsOf}
use Rattle.convert_core.specs.OneReading as readings
use Rattle.convert_core.specs.ReadOrFail.{ReadOrFail}
use Rattle.convert_core.specs.declared.format_fault.FormatFault.{FormatFault}
use Rattle.convert_core.specs.declared.format_fault.FormatFault.TheVariants as formats

-- bytes say as many records as hands that they read as
pub say_as_many : (game : Game) (bytes : List ℕ) (records : List Record) → Say game bytes records
    → ReadAsHands game bytes (length records)
say_as_many game bytes records say =
    record {
      hands = map record_said records;
      reads = say.reads;
      counted = length-map records record_said;
    }

-- as many hands are read again as there are plays
again_counted : (no_limit : Bool) (place : ℕ) (plays : List Play)
    → length (hands_again no_limit place plays) ≡ length plays
again_counted no_limit place [] = refl
again_counted no_limit place (play ∷ rest) = ap suc (again_counted no_limit (place + 1) rest)

pub read_again : (game : Game) (bytes : List ℕ) (plays : List Play)
    → reading game bytes ≡ Ok (hands_again game.no_limit 0 plays)
    → ReadAsHands game bytes (length plays)
read_again game bytes plays read =
    record {
      hands = hands_again game.no_limit 0 plays;
      reads = read;
      counted = again_counted game.no_limit 0 plays;
    }

-- a fault that is another one is not that memory ran out
not_out_of_memory : (fault : AcpcFault) → is_out_of_memory_in_acpc fault ≡ false
    → is_out_of_memory_in_acpc fault ≡ false
not_out_of_memory fault told = told

module _ (game : Game) (bytes : List ℕ) where
  -- a fault of bytes is the one that is read
  one_fault : (fault : FormatFault) → HaveFault game bytes fault
      → (first : AcpcFault) × ((reading game bytes ≡ Err first) × (fault ≡ formats.Acpc first))
  one_fault (formats.Acpc fault) have = (fault, (have.reads, refl))
  one_fault _ have = absurd have

  faults_of : HasFaultsOf (reading game bytes) formats.Acpc (HaveFault game bytes)
  faults_of =
      record {
        told = λ fault read. not_out_of_memory fault (reading_line game bytes fault read);
        have = λ fault read. record { told = reading_line game bytes fault read; reads = read };
        one = one_fault;
      }

  -- what is read has no fault
  pub none_of_read : (hands : List HandSaid) (fault : FormatFault) → reading game bytes ≡ Ok hands
      → HaveFault game bytes fault → ⊥
  none_of_read = readings.none_of_read (reading game bytes) _ (HaveFault game bytes) faults_of

  pub read_or_fail : ReadOrFail (ReadAsHands game bytes) (HaveFault game bytes)
  read_or_fail = readings.read_or_fail (reading game bytes) _ (HaveFault game bytes) faults_of
