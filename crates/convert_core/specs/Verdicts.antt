-- The verdict on a hand: legal, and in agreement with what it states, or refused, and why.
use Rattle.std.specs.Prelude.{◌≡◌, ℕ, ◌+◌, Bool, false, List, [], ◌∷◌, ◌++◌, length, map, All}
use Rattle.hand_canon.specs.LegalPlay.{IsLegalPlay}
use Rattle.hand_canon.specs.declared.record.Record.{Record}
use Rattle.hand_canon.specs.declared.trace.Play.{Play}
use Rattle.convert_core.specs.Judged.{IsRefusedFor}
use Rattle.convert_core.specs.declared.refusal.Refusal.{Refusal}

-- A verdict: the play of a legal hand, or a refused hand and its first fault.
pub data Verdict : Type 0 where
  Legal : Play → Verdict
  Refused : Record → Refusal → Verdict

-- the hand that the verdict is on
abbrev pub hand_in : Verdict → Record
hand_in (Legal play) = play.hand
hand_in (Refused hand why) = hand

-- the verdict is right
abbrev pub IsRight : Verdict → Type 0
IsRight (Legal play) = IsLegalPlay play
IsRight (Refused hand why) = IsRefusedFor hand why

-- the plays of the legal hands among them, in their order
unfoldable pub legal_plays : List Verdict → List Play
legal_plays [] = []
legal_plays (Legal play ∷ rest) = play ∷ legal_plays rest
legal_plays (Refused hand why ∷ rest) = legal_plays rest

-- all verdicts are on legal hands, unless the visitor continues after refused ones
abbrev pub AreLegalUnless : Bool → List Verdict → Type 0
AreLegalUnless continues verdicts = continues ≡ false → verdicts ≡ map Legal (legal_plays verdicts)

-- these are the verdicts on the records: the same number, in their order, and each is right
pub record AreVerdictsOn (records : List Record) (verdicts : List Verdict) : Type 0 where
  pub same : map hand_in verdicts ≡ records
  pub right : All IsRight verdicts

-- the verdict with this number, from 1, is the first on a refused hand, and this is the reason
pub record IsFirstNotLegal (verdicts : List Verdict) (number : ℕ) (why : Refusal) : Type 0 where
  pub before : List Play
  pub hand : Record
  pub behind : List Verdict
  pub stands : map Legal before ++ Refused hand why ∷ behind ≡ verdicts
  pub counted : number ≡ length before + 1
