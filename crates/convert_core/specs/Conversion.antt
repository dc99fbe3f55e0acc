-- The result of converting bytes: the plays in the other notation, the first refused hand, or the
-- first fact that cannot be expressed.
use Rattle.std.specs.Prelude.{◌≡◌, ℕ, List, Option, Some, None, Result, Ok, Err}
use Rattle.hand_canon.specs.declared.record.Record.{Record}
use Rattle.hand_canon.specs.declared.trace.Play.{Play}
use Rattle.hand_canon.specs.declared.writing.Unspelled.{Unspelled}
use Rattle.hand_canon.specs.declared.writing.WriteRefusal.TheVariants as refusals
use Rattle.convert_core.specs.Judged.{ArePlaysOf, IsFirstRefused}
use Rattle.convert_core.specs.declared.convert_fault.ConvertFault.{ConvertFault}
use Rattle.convert_core.specs.declared.convert_fault.ConvertFault.TheVariants as faults
use Rattle.convert_core.specs.declared.refusal.PlaysFault.{PlaysFault}
use Rattle.convert_core.specs.declared.refusal.PlaysFault.TheVariants as whys
use Rattle.convert_core.specs.declared.refusal.Refusal.{Refusal}
use Rattle.convert_core.specs.declared.format_fault.FormatFault.{FormatFault}
use Rattle.hand_canon.specs.WriteRefusals.{first_refusal}

-- The bytes read as hands that are all legal and agree with what is stated of them; these are their
-- plays. `Say` is what the bytes say in their notation.
pub record ReadAsPlays (Say : List Record → Type 0) (plays : List Play) : Type 0 where
  pub records : List Record
  pub say : Say records
  pub are : ArePlaysOf records plays

-- the bytes read as hands, and the hand with this number, from 1, is the first refused one, for
-- this reason
pub record ReadAsRefused (Say : List Record → Type 0) (number : ℕ) (why : Refusal) : Type 0 where
  pub records : List Record
  pub say : Say records
  pub first : IsFirstRefused records number why

-- all hands are legal and agree, and the hand with this number is the first with a fact to be kept
-- that the target cannot express; this is its first such fact
pub record HasUnspelled (Say : List Record → Type 0) (unspelled : Play → Option Unspelled)
    (number : ℕ) (fact : Unspelled) : Type 0 where
  pub plays : List Play
  pub read : ReadAsPlays Say plays
  pub first : first_refusal unspelled plays ≡ Some (refusals.Unspelled number fact)

-- all hands are legal and agree, the target can express each fact to be kept, and this is what it
-- writes for them, which reads back as them
pub record IsConverted (Say : List Record → Type 0) (unspelled : Play → Option Unspelled)
    (Spell : List Play → List ℕ → Type 0) (ReadBack : List Play → List ℕ → Type 0) (output : List ℕ)
    : Type 0 where
  pub plays : List Play
  pub read : ReadAsPlays Say plays
  pub spelled : first_refusal unspelled plays ≡ None
  pub spell : Spell plays output
  pub back : ReadBack plays output

-- why hands have no plays, as why they are not converted
abbrev pub of_plays : PlaysFault → ConvertFault
of_plays (whys.Refused number why) = faults.Refused number why
of_plays (whys.Memory memory) = faults.Memory memory

-- why bytes cannot be read; out of memory says nothing about them
abbrev pub IsReadFault : (FormatFault → Type 0) → ConvertFault → Type 0
IsReadFault HaveFault (faults.Format fault) = HaveFault fault
IsReadFault HaveFault (faults.Memory memory) = Unit {0}
IsReadFault HaveFault fault = ⊥

-- why bytes have no plays; out of memory says nothing about them
abbrev pub IsPlaysRefusal : (List Record → Type 0) → (FormatFault → Type 0) → ConvertFault → Type 0
IsPlaysRefusal Say HaveFault (faults.Format fault) = HaveFault fault
IsPlaysRefusal Say HaveFault (faults.Refused number why) = ReadAsRefused Say number why
IsPlaysRefusal Say HaveFault (faults.Unspelled number fact) = ⊥
IsPlaysRefusal Say HaveFault (faults.Memory memory) = Unit {0}

-- Bytes that read as hands are converted if and only if every hand is legal, every stated fact
-- agrees with its hand, and the target can express every fact to be kept; the output then reads
-- back as hands with the same traces and the kept notes. Otherwise nothing is written, and the
-- first fault is reported: the first fault of the bytes; or else the first refused hand with its
-- first illegal action or other cause; or else the first hand with a fact to be kept that the
-- target cannot express. Instead of any of these, memory may run out.
abbrev pub IsConversion : (List Record → Type 0) → (FormatFault → Type 0)
    → (Play → Option Unspelled) → (List Play → List ℕ → Type 0) → (List Play → List ℕ → Type 0)
    → {X : Type 0} → (X → List ℕ) → Result X ConvertFault → Type 0
IsConversion Say HaveFault unspelled Spell ReadBack view (Ok output) =
    IsConverted Say unspelled Spell ReadBack (view output)
IsConversion Say HaveFault unspelled Spell ReadBack view (Err (faults.Format fault)) =
    HaveFault fault
IsConversion Say HaveFault unspelled Spell ReadBack view (Err (faults.Refused number why)) =
    ReadAsRefused Say number why
IsConversion Say HaveFault unspelled Spell ReadBack view (Err (faults.Unspelled number fact)) =
    HasUnspelled Say unspelled number fact
IsConversion Say HaveFault unspelled Spell ReadBack view (Err (faults.Memory memory)) = Unit {0}

-- an answer refuses nothing: there is an output, or memory ran out
abbrev pub RefusesNothing : {X : Type 0} → Result X ConvertFault → Type 0
RefusesNothing (Ok output) = Unit {0}
RefusesNothing (Err (faults.Memory memory)) = Unit {0}
RefusesNothing (Err fault) = ⊥
