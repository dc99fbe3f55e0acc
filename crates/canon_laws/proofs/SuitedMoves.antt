-- A play that suits rules has moves that suit them, and so it is legal under them.
use Rattle.std.proofs.Common.{◌≡◌, ℕ, ◌+◌, ◌-◌, ◌≤◌, Bool, true, false, ◌&&◌, ◌==◌, inl, inr, Option, Some, None, IfSome, List, [], ◌∷◌, nat_le, nat_lt, cond, count_by, reverse, slice_index, refl, sym, ◌∙◌, ap, subst, arith, if◌then◌else◌}
use Rattle.std.specs.List.{list_any}
use Rattle.std.proofs.lemmas.Bool.{cases_lt, eq-eqb, lt-ltb, or_left, or_parts, or_right}
use Rattle.card_set.proofs.Counting.{count_by-cons}
use Rattle.card_set.proofs.Finding.{list_any-push}
use Rattle.play_event.specs.Past.{Move, is_raising, moves_of, moves_on}
use Rattle.play_event.specs.CurrentBet.{current_bet}
use Rattle.play_event.specs.Raising.{is_closed, is_within_cap, raises_on}
use Rattle.play_event.specs.Said.{Said}
use Rattle.play_event.specs.Scripts.{past_at_end}
use Rattle.play_event.specs.Trace.{TracedMove, traced_move, traced_moves}
use Rattle.play_event.specs.ValidSetup.{IsValid}
use Rattle.play_event.specs.declared.setup.Reopen.TheVariants as reopens
use Rattle.play_event.specs.declared.setup.Rules.{Rules}
use Rattle.play_event.specs.declared.setup.Setup.{Setup}
use Rattle.play_event.specs.TraceCore.{core_after}
use Rattle.play_laws.proofs.OtherRules.{AreSuited, legal_by}
use Rattle.play_event.specs.PlayedScript.{IsPlayed}
use Rattle.canon_laws.specs.OtherRules.{SuitsRules, is_free_fold}
use Rattle.canon_laws.proofs.SameCore.{plain_again}

-- the raises of the first four streets are within their caps
abbrev pub AreWithin : Option (List ℕ) → List Move → Type 0
AreWithin caps moves = IfSome caps (λ caps. (street : ℕ) → street ≤ 4 → raises_on moves street ≤ slice_index caps (street - 1))

-- the number of raises with one more move
pub one_more : (move : Move) (older : List Move) (street : ℕ) (b : Bool) → (move.street == street) ≡ b → raises_on (move ∷ older) street ≡ cond (b && is_raising move.act) 1 0 + raises_on older street
one_more move older street true here =
    ap (λ c. count_by (λ m. is_raising m.act) (if c then (move ∷ moves_on street older) else moves_on street older)) here
    ∙ count_by-cons (λ m. is_raising m.act) move (moves_on street older)
one_more move older street false here =
    let none : raises_on older street ≡ 0 + raises_on older street = omega arith in
    ap (λ c. count_by (λ m. is_raising m.act) (if c then (move ∷ moves_on street older) else moves_on street older)) here ∙ none

-- with fewer moves they still are
within_older : (caps : Option (List ℕ)) (move : Move) (older : List Move) → AreWithin caps (move ∷ older) → AreWithin caps older
within_older None move older within = tt
within_older (Some caps) move older within = λ street first. omega (arith, within street first, one_more move older street (move.street == street) refl)

-- and a raise is one more than those before it, which are below the cap
within_raise : (caps : Option (List ℕ)) (move : Move) (older : List Move) → is_raising move.act ≡ true → AreWithin caps (move ∷ older) → is_within_cap caps older move.street ≡ true
within_raise None move older raises within = refl
within_raise (Some caps) move older raises within = elim (cases_lt 4 move.street) [
  | inl late ↦ or_left (nat_lt 4 move.street) (nat_lt (raises_on older move.street) (slice_index caps (move.street - 1))) (lt-ltb 4 move.street late)
  | inr early ↦
      let count = one_more move older move.street true (eq-eqb move.street move.street refl) in
      let one : ◌≡◌ {A = ℕ} (cond (is_raising move.act) 1 0) 1 = ap {B = ℕ} (λ b. cond b 1 0) raises in
      or_right (nat_lt 4 move.street) (nat_lt (raises_on older move.street) (slice_index caps (move.street - 1)))
      (lt-ltb (raises_on older move.street) (slice_index caps (move.street - 1)) (omega (arith, within move.street (omega (arith, early)), count, one)))
]

-- if no traced move passes a test, the newest does not, and none before it does
newest_not : (p : TracedMove → Bool) (setup : Setup) (move : Move) (older : List Move) → list_any p (traced_moves setup (move ∷ older)) ≡ false → (list_any p (traced_moves setup older) ≡ false) × (p (traced_move setup move older) ≡ false)
newest_not p setup move older none =
    or_parts (list_any p (traced_moves setup older)) (p (traced_move setup move older)) (sym (list_any-push p (traced_moves setup older) (traced_move setup move older)) ∙ none)

-- the moves of a play that suits rules
suited : (others : Rules) (setup : Setup) (moves : List Move)
    → (others.reopen ≡ reopens.Full → list_any (λ move. move.closed) (traced_moves setup moves) ≡ false)
    → (others.free_fold ≡ false → list_any is_free_fold (traced_moves setup moves) ≡ false)
    → AreWithin others.caps moves → AreSuited others setup moves
suited others setup [] unclosed pays within = tt
suited others setup (move ∷ older) unclosed pays within = (
  record {
    folds = λ is free. sym (ap (λ b. b && nat_le (current_bet setup older move.street) move.from) is) ∙ (newest_not is_free_fold setup move older (pays free)).1;
    caps = λ is. within_raise others.caps move older is within;
    reopens = λ is full. sym (ap (λ b. b && is_closed setup older move.street move.seat move.to) is) ∙ (newest_not (λ m. m.closed) setup move older (unclosed full)).1;
  },
  suited others setup older (λ full. (newest_not (λ m. m.closed) setup move older (unclosed full)).0) (λ free. (newest_not is_free_fold setup move older (pays free)).0)
      (within_older others.caps move older within),
)

-- a play that suits rules is legal under them
pub played_by : (setup : Setup) (rules others : Rules) (script : List Said) → IsValid setup → IsPlayed setup rules script → SuitsRules others (core_after setup script) → IsPlayed setup others script
played_by setup rules others script valid played suits =
    let moves = moves_of (past_at_end setup script) in
    let P : List Move → Type 0 = λ list. AreWithin others.caps list in
    record {
      legal = legal_by setup rules others (reverse script) valid played.legal
          (suited others setup moves suits.no_closed_raise suits.no_free_fold (subst P (plain_again setup moves) suits.within_caps));
      complete = played.complete;
    }
