-- For bytes exactly one of two holds: they read as one number of hands, or they have one fault.
use Rattle.std.specs.Prelude.{◌≡◌, ◌⊎◌, ℕ, false}
use Rattle.convert_core.specs.Faults.{is_out_of_memory}
use Rattle.convert_core.specs.declared.format_fault.FormatFault.{FormatFault}

-- bytes read as this number of hands and as no other, and have no fault
pub record OnlyRead (ReadAsHands : ℕ → Type 0) (HaveFault : FormatFault → Type 0) : Type 0 where
  pub count : ℕ
  pub read : ReadAsHands count
  pub one : (other : ℕ) → ReadAsHands other → other ≡ count
  pub no_fault : (fault : FormatFault) → HaveFault fault → ⊥

-- bytes have this first fault and no other, it is not that memory ran out, and they do not read as
-- hands
pub record OnlyFail (ReadAsHands : ℕ → Type 0) (HaveFault : FormatFault → Type 0) : Type 0 where
  pub fault : FormatFault
  pub told : is_out_of_memory fault ≡ false
  pub have : HaveFault fault
  pub one : (other : FormatFault) → HaveFault other → other ≡ fault
  pub unread : (count : ℕ) → ReadAsHands count → ⊥

-- one of the two
abbrev pub ReadOrFail : (ReadAsHands : ℕ → Type 0) → (HaveFault : FormatFault → Type 0) → Type 0
ReadOrFail ReadAsHands HaveFault =
    OnlyRead ReadAsHands HaveFault ⊎ OnlyFail ReadAsHands HaveFault
