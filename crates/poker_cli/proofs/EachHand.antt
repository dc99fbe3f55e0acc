-- Records by their numbers, and the lines of one hand after those before it.
use Rattle.std.proofs.Common.{◌≡◌, ℕ, suc, ◌+◌, ◌-◌, ◌<◌, ◌≤◌, List, [], ◌∷◌, ◌++◌, length, take, Some, None, refl, sym, subst, ap, ◌∙◌, append_assoc, arith}
use Rattle.std.proofs.lemmas.List.{append-nil, length-take-le, take_more}
use Rattle.std.proofs.lemmas.Option.{get_or_from_slice_get, slice_get_past, slice_get_within}
use Rattle.std.specs.List.{slice_get}
use Rattle.hand_canon.specs.declared.record.Record.{Record}
use Rattle.poker_cli.specs.Each.{Adds, AreReplayedAlone, IsReplayedAlone, record_numbered}

pub numbered : (records : List Record) (number index : ℕ) (hand : Record) → index ≡ number - 1 → slice_get records index ≡ Some hand → record_numbered records number ≡ Some hand
numbered records number index hand is here = subst (λ (n : ℕ). slice_get records n ≡ Some hand) is here

pub not_numbered : (records : List Record) (number index : ℕ) → index ≡ number - 1 → length records ≤ index → record_numbered records number ≡ None
not_numbered records number index is beyond = subst (λ (n : ℕ). slice_get records n ≡ None) is (slice_get_past records index beyond)

-- no hands have no text
pub none_replayed : (text : List ℕ) → text ≡ [] → AreReplayedAlone 1 [] text
unfolding AreReplayedAlone
none_replayed text none = none

-- one hand after others
one_behind : (number : ℕ) (records : List Record) (hand : Record) (text added : List ℕ) → AreReplayedAlone number records text → IsReplayedAlone (number + length records) hand added
    → AreReplayedAlone number (records ++ hand ∷ []) (text ++ added)
unfolding AreReplayedAlone
one_behind number [] hand text added are is =
    let alone : number + 0 ≡ number = omega arith in
    record {
      first = added;
      are = subst (λ (n : ℕ). IsReplayedAlone n hand added) alone is;
      rest = [];
      behind = refl;
      said = ap (λ (before : List ℕ). before ++ added) are ∙ sym (append-nil added);
    }
one_behind number (other ∷ records) hand text added are is =
    let later : number + suc (length records) ≡ number + 1 + length records = omega arith in
    record {
      first = are.first;
      are = are.are;
      rest = are.rest ++ added;
      behind = one_behind (number + 1) records hand are.rest added are.behind (subst (λ (n : ℕ). IsReplayedAlone n hand added) later is);
      said = ap (λ (before : List ℕ). before ++ added) are.said ∙ append_assoc are.first are.rest added;
    }

-- the hands up to a place, and one more
pub one_more : (records : List Record) (place : ℕ) (hand : Record) (before text : List ℕ) → slice_get records place ≡ Some hand
    → AreReplayedAlone 1 (take place records) before → Adds (IsReplayedAlone (place + 1) hand) before text
    → AreReplayedAlone 1 (take (place + 1) records) text
one_more records place hand before text here are adds =
    let within : place < length records = slice_get_within records place hand here in
    let longer : take (place + 1) records ≡ take place records ++ hand ∷ [] =
    take_more records place hand within ∙ ap (λ (one : Record). take place records ++ one ∷ []) (get_or_from_slice_get records place hand hand here) in
    let counted : 1 + length (take place records) ≡ place + 1 = omega (arith, length-take-le place records (omega (arith, within))) in
    subst (λ (hands : List Record). AreReplayedAlone 1 hands text) (sym longer)
    (subst (λ (t : List ℕ). AreReplayedAlone 1 (take place records ++ hand ∷ []) t) (sym adds.said)
    (one_behind 1 (take place records) hand before adds.added are (subst (λ (n : ℕ). IsReplayedAlone n hand adds.added) (sym counted) adds.are)))
