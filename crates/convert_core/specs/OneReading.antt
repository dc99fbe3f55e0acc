-- A reading gives hands, or it has one fault, and not both.
-- This is a proof: no reader needs it.
use Rattle.std.proofs.Common.{◌≡◌, false, List, length, Result, Ok, Err, inl, inr, refl, sym, ap, ◌∙◌}
use Rattle.convert_core.specs.Faults.{is_out_of_memory}
use Rattle.convert_core.specs.ReadOrFail.{ReadOrFail}
use Rattle.convert_core.specs.Readings.{GivesHands}
use Rattle.convert_core.specs.declared.format_fault.FormatFault.{FormatFault}

-- The faults of a reading are the ones for the mistake that it finds, and none of them is that
-- memory ran out.
pub record HasFaultsOf {Hand Wrong : Type 0} (found : Result (List Hand) Wrong)
    (fault_of : Wrong → FormatFault) (HaveFault : FormatFault → Type 0) : Type 0 where
  pub told : (wrong : Wrong) → found ≡ Err wrong → is_out_of_memory (fault_of wrong) ≡ false
  pub have : (wrong : Wrong) → found ≡ Err wrong → HaveFault (fault_of wrong)
  pub one : (fault : FormatFault) → HaveFault fault
      → (wrong : Wrong) × ((found ≡ Err wrong) × (fault ≡ fault_of wrong))

module _ {Hand Wrong : Type 0} (found : Result (List Hand) Wrong) (fault_of : Wrong → FormatFault)
    (HaveFault : FormatFault → Type 0) (faults : HasFaultsOf found fault_of HaveFault) where
  -- what is read has no fault
  pub none_of_read : (hands : List Hand) (fault : FormatFault) → found ≡ Ok hands
      → HaveFault fault → ⊥
  none_of_read hands fault read have = let failed = (faults.one fault have).1.0 in cc (read, failed)

  -- and what cannot be read has one
  one_fault : (wrong : Wrong) (fault : FormatFault) → found ≡ Err wrong → HaveFault fault
      → fault ≡ fault_of wrong
  one_fault wrong fault read have =
      let of = faults.one fault have in
      let same : Err of.0 ≡ Err wrong = sym of.1.0 ∙ read in
      of.1.1 ∙ ap fault_of (cc (same))

  pub read_or_fail : ReadOrFail (GivesHands found) HaveFault
  read_or_fail = by_reading found refl
    where
      by_reading : (other : Result (List Hand) Wrong) → found ≡ other
          → ReadOrFail (GivesHands found) HaveFault
      by_reading (Ok hands) read =
          inl (record {
            count = length hands;
            read = record { hands = hands; reads = read; counted = refl };
            one = λ other is.
                (let same : Ok is.hands ≡ Ok hands = sym is.reads ∙ read in
                sym is.counted ∙ ap (λ (l : List Hand). length l) (cc (same)));
            no_fault = λ fault have. none_of_read hands fault read have;
          })
      by_reading (Err wrong) read =
          inr (record {
            fault = fault_of wrong;
            told = faults.told wrong read;
            have = faults.have wrong read;
            one = λ other have. one_fault wrong other read have;
            unread = λ count is. (let reads = is.reads in cc);
          })
