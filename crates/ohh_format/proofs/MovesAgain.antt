-- The moves of a street, as they are written and as they are read.
use Rattle.std.proofs.Common.{◌≡◌, ℕ, zero, suc, ◌+◌, ◌-◌, ◌≤◌, ◌==◌, Bool, true, false, ◌&&◌, cond, if◌then◌else◌, List, [], ◌∷◌, ◌++◌, length, pos, Some, refl, sym, ap, ap₂, ◌∙◌, arith}
use Rattle.std.specs.List.{AllByRecursion}
use Rattle.std.proofs.lemmas.Bool.{eqb-true, ne_eqb}
use Rattle.std.proofs.lemmas.List.{length-append}
use Rattle.chip_ledger.specs.declared.numbers.TheConstants.{MOST_CHIPS}
use Rattle.play_event.specs.CanonScript.{plain_move}
use Rattle.play_event.specs.Chips.{chips_left}
use Rattle.play_event.specs.Past.{Act, BroughtIn, Called, Folded, Move, Raised, is_folding}
use Rattle.play_event.specs.Said as said
use Rattle.play_event.specs.Said.{Numbered, Said}
use Rattle.play_event.specs.Trace.{TracedMove}
use Rattle.play_event.specs.declared.event.Spelled.{Spelled}
use Rattle.play_event.specs.declared.event.Spelled.TheVariants as spelled
use Rattle.play_event.specs.declared.setup.Setup.{Setup}
use Rattle.ohh_members.specs.Values.{seat_of}
use Rattle.ohh_members.specs.declared.dialect.Dialect.{Dialect}
use Rattle.ohh_members.specs.declared.dialect.Dialect.TheVariants as dialects
use Rattle.ohh_writing.specs.Actions.{raise_amount}
use Rattle.ohh_rounds.specs.Actions.{raise_by}
use Rattle.ohh_rounds.specs.HandContext.{PlainHandContext}
use Rattle.ohh_format.specs.Again.{has_action, move_again, move_on, moves_again, numbered_from, raise_again, raise_by_dialect}
use Rattle.ohh_format.proofs.Effects.{ActionEffect, Bets, Calls, Checks, Folds, Raises, act_effect, call_effect, move_effect, move_effects, raise_effect}
use Rattle.ohh_format.proofs.EventsAgain.{IsNoDeal, IsNoFold, IsNoPost, at_number, event_of, numbered_both, numbered_effects}
use Rattle.ohh_format.proofs.ToldEffects.{IsGoodMove}
use Rattle.first_fault.specs.Numbers.{saturated}

-- a move whose seat is known, to chips within the limit of stated amounts; a call goes no further
-- than the current bet
pub record CanBeWritten (setting : PlainHandContext) (move : TracedMove) : Type 0 where
  pub player : seat_of setting.ids (pos move.seat) ≡ Some move.seat
  pub to : move.to ≤ MOST_CHIPS
  pub called : move.act ≡ Called → move.to ≤ move.price

-- how many events have an action
abbrev pub told_in : List Said → ℕ
told_in [] = 0
told_in (event ∷ rest) = cond (has_action event) 1 0 + told_in rest

pub told_both : (some more : List Said) → told_in (some ++ more) ≡ told_in some + told_in more
told_both [] more = omega arith
told_both (event ∷ some) more = omega (arith, told_both some more)

pub numbered_behind : (n : ℕ) (some more : List Said) → numbered_from n (some ++ more) ≡ numbered_from n some ++ numbered_from (n + told_in some) more
numbered_behind n [] more = ap (λ k. numbered_from k more) (omega arith)
numbered_behind n (event ∷ some) more = by_told (has_action event) (numbered_behind (n + 1) some more) (numbered_behind n some more)
  where
    by_told : (told : Bool) → numbered_from (n + 1) (some ++ more) ≡ numbered_from (n + 1) some ++ numbered_from (n + 1 + told_in some) more → numbered_from n (some ++ more) ≡ numbered_from n some ++ numbered_from (n + told_in some) more
        → (if told then (saturated n, event) ∷ numbered_from (n + 1) (some ++ more) else (0, event) ∷ numbered_from n (some ++ more))
        ≡ (if told then (saturated n, event) ∷ numbered_from (n + 1) some else (0, event) ∷ numbered_from n some) ++ numbered_from (n + (cond told 1 0 + told_in some)) more
    by_told true next same =
        ap (λ (l : List Numbered). (saturated n, event) ∷ l) (next ∙ ap (λ k. numbered_from (n + 1) some ++ numbered_from k more) (omega arith))
    by_told false next same = ap (λ (l : List Numbered). (0, event) ∷ l) (same ∙ ap (λ k. numbered_from n some ++ numbered_from k more) (omega arith))

-- ---- one move

raise_event : (dialect : Dialect) (move : TracedMove) → raise_by dialect (raise_amount dialect move) ≡ raise_by_dialect dialect move
raise_event dialects.Added move = refl
raise_event dialects.To move = refl

-- one move, as it is done and as its event
record IsSame (dialect : Dialect) (effects : List ActionEffect) (events : List Said) : Type 0 where
  events_are : (n : ℕ) → numbered_effects dialect n effects ≡ numbered_from n events
  count : length effects ≡ told_in events
  few : length effects ≤ 1

one_same : (dialect : Dialect) (effect : ActionEffect) (event : Said) → event_of dialect effect ≡ event ∷ [] → has_action event ≡ true → IsSame dialect (effect ∷ []) (event ∷ [])
one_same dialect effect event is told =
    record {
      events_are = λ n. ap (λ (l : List Said). at_number n l ++ []) is ∙ sym (ap (λ (b : Bool). if b then (saturated n, event) ∷ [] else (0, event) ∷ []) told);
      count = sym (ap {B = ℕ} (λ b. cond b 1 0 + 0) told);
      few = omega arith;
    }

none_same : (dialect : Dialect) → IsSame dialect [] []
none_same dialect = record { events_are = λ n. refl; count = refl; few = omega arith }

call_event : (dialect : Dialect) (move : TracedMove) (left : ℕ) → move.to ≤ move.price → (same : Bool) → (move.price == move.from) ≡ same
    → event_of dialect (if same then Checks move.seat else Calls move.seat (move.to - move.from) left) ≡ said.Call (Some move.seat) (Some (move.to - move.from)) ∷ []
call_event dialect move left within true e =
    let nothing : 0 ≡ move.to - move.from = omega (arith, within, eqb-true move.price move.from e) in
    ap (λ (n : ℕ). said.Call (Some move.seat) (Some n) ∷ []) nothing
call_event dialect move left within false e = refl

raise_events : (dialect : Dialect) (move : TracedMove) (left : ℕ) (none : Bool)
    → event_of dialect (if none then Bets move.seat (move.to - move.from) left else Raises move.seat (raise_amount dialect move) left)
    ≡ said.Raise (Some move.seat) (if none then spelled.Added (move.to - move.from) else raise_by_dialect dialect move) ∷ []
raise_events dialect move left true = refl
raise_events dialect move left false = ap (λ (s : Spelled). said.Raise (Some move.seat) s ∷ []) (raise_event dialect move)

act_same : (dialect : Dialect) (act : Act) (move : TracedMove) (left : ℕ) → (act ≡ Called → move.to ≤ move.price) → IsSame dialect (act_effect dialect act move left) (move_again dialect act move)
act_same dialect Folded move left called = one_same dialect (Folds move.seat) (said.Fold (Some move.seat)) refl refl
act_same dialect Called move left called =
    one_same dialect (call_effect move left) (said.Call (Some move.seat) (Some (move.to - move.from))) (call_event dialect move left (called refl) (move.price == move.from) refl) refl
act_same dialect Raised move left called = one_same dialect (raise_effect dialect move left) (said.Raise (Some move.seat) (raise_again dialect move)) (raise_events dialect move left (move.price == 0)) refl
act_same dialect BroughtIn move left called = none_same dialect

-- ---- all moves

both_same : (dialect : Dialect) (some more : List ActionEffect) (xs ys : List Said) → IsSame dialect some xs → ((n : ℕ) → numbered_effects dialect n more ≡ numbered_from n ys) → (n : ℕ) → numbered_effects dialect n (some ++ more) ≡ numbered_from n (xs ++ ys)
both_same dialect some more xs ys one other n =
    numbered_both dialect n some more
    ∙ ap₂ (λ (a b : List Numbered). a ++ b) (one.events_are n) (other (n + length some) ∙ ap (λ (k : ℕ). numbered_from (n + k) ys) one.count)
    ∙ sym (numbered_behind n xs ys)

module _ (setting : PlainHandContext) (setup : Setup) where
  abbrev dialect : Dialect
  dialect = setting.dialect

  one_move : (street : ℕ) (before : List Move) (move : TracedMove) → CanBeWritten setting move → IsSame dialect (if move.street == street then move_effect dialect setup before move else []) (move_on dialect street move)
  one_move street before move can = by_street (move.street == street)
    where
      by_street : (on : Bool) → IsSame dialect (if on then move_effect dialect setup before move else []) (if on then move_again dialect move.act move else [])
      by_street true = act_same dialect move.act move (chips_left setup (plain_move move ∷ before) move.seat) can.called
      by_street false = none_same dialect

  pub moves_events : (street : ℕ) (before : List Move) (moves : List TracedMove) → AllByRecursion (CanBeWritten setting) moves → (n : ℕ)
      → numbered_effects dialect n (move_effects dialect setup street before moves) ≡ numbered_from n (moves_again dialect moves street)
  moves_events street before [] all n = refl
  moves_events street before (move ∷ rest) all n =
      both_same dialect (if move.street == street then move_effect dialect setup before move else []) (move_effects dialect setup street (plain_move move ∷ before) rest) (move_on dialect street move) (moves_again dialect rest street)
      (one_move street before move all.0) (moves_events street (plain_move move ∷ before) rest all.1) n

  pub moves_count : (street : ℕ) (before : List Move) (moves : List TracedMove) → AllByRecursion (CanBeWritten setting) moves → length (move_effects dialect setup street before moves) ≡ told_in (moves_again dialect moves street)
  moves_count street before [] all = refl
  moves_count street before (move ∷ rest) all =
      let effects : List ActionEffect = if move.street == street then move_effect dialect setup before move else [] in
      omega (
        arith,
        length-append effects (move_effects dialect setup street (plain_move move ∷ before) rest),
        told_both (move_on dialect street move) (moves_again dialect rest street),
        (one_move street before move all.0).count,
        moves_count street (plain_move move ∷ before) rest all.1,
      )

  -- a move is on one street
  one_street : (street : ℕ) (before : List Move) (move : TracedMove) → CanBeWritten setting move → length (if move.street == street then move_effect dialect setup before move else []) ≤ cond (move.street == street) 1 0
  one_street street before move can = by_street (move.street == street)
    where
      by_street : (on : Bool) → length (if on then move_effect dialect setup before move else []) ≤ cond on 1 0
      by_street true = (act_same dialect move.act move (chips_left setup (plain_move move ∷ before) move.seat) can.called).few
      by_street false = omega arith

  four : (s : ℕ) → cond (s == 1) 1 0 + cond (s == 2) 1 0 + cond (s == 3) 1 0 + cond (s == 4) 1 0 ≤ 1
  four zero = omega arith
  four (suc zero) = omega arith
  four (suc (suc zero)) = omega arith
  four (suc (suc (suc zero))) = omega arith
  four (suc (suc (suc (suc zero)))) = omega arith
  four (suc (suc (suc (suc (suc s))))) = by_tests (suc (suc (suc (suc (suc s))))) (omega arith)
    where
      by_tests : (n : ℕ) → 5 ≤ n → cond (n == 1) 1 0 + cond (n == 2) 1 0 + cond (n == 3) 1 0 + cond (n == 4) 1 0 ≤ 1
      by_tests n past =
          rw (
            ne_eqb n 1 (λ same. omega (arith, same, past)),
            ne_eqb n 2 (λ same. omega (arith, same, past)),
            ne_eqb n 3 (λ same. omega (arith, same, past)),
            ne_eqb n 4 (λ same. omega (arith, same, past)),
          ) (omega arith)

  abbrev count_on : ℕ → List Move → List TracedMove → ℕ
  count_on street before moves = length (move_effects dialect setup street before moves)

  -- the moves of the four streets are no more than the moves
  pub moves_few : (before : List Move) (moves : List TracedMove) → AllByRecursion (CanBeWritten setting) moves → count_on 1 before moves + count_on 2 before moves + count_on 3 before moves + count_on 4 before moves ≤ length moves
  moves_few before [] all = omega arith
  moves_few before (move ∷ rest) all =
      let next : List Move = plain_move move ∷ before in
      let on : ℕ → List ActionEffect = λ street. if move.street == street then move_effect dialect setup before move else [] in
      omega (
        arith,
        length-append (on 1) (move_effects dialect setup 1 next rest),
        length-append (on 2) (move_effects dialect setup 2 next rest),
        length-append (on 3) (move_effects dialect setup 3 next rest),
        length-append (on 4) (move_effects dialect setup 4 next rest),
        one_street 1 before move all.0,
        one_street 2 before move all.0,
        one_street 3 before move all.0,
        one_street 4 before move all.0,
        four move.street,
        moves_few next rest all.1,
      )

  -- ---- what holds of each

  all_both : (P : ActionEffect → Type 0) (some more : List ActionEffect) → AllByRecursion P some → AllByRecursion P more → AllByRecursion P (some ++ more)
  all_both P [] more one other = other
  all_both P (effect ∷ some) more one other = (one.0, all_both P some more one.1 other)

  each_move : (P : ActionEffect → Type 0) → ((move : TracedMove) (left : ℕ) → CanBeWritten setting move → AllByRecursion P (act_effect dialect move.act move left)) → (street : ℕ) (before : List Move) (moves : List TracedMove) → AllByRecursion (CanBeWritten setting) moves
      → AllByRecursion P (move_effects dialect setup street before moves)
  each_move P one street before [] all = tt
  each_move P one street before (move ∷ rest) all =
      all_both P (if move.street == street then move_effect dialect setup before move else []) (move_effects dialect setup street (plain_move move ∷ before) rest)
      (by_street (move.street == street)) (each_move P one street (plain_move move ∷ before) rest all.1)
    where
      by_street : (on : Bool) → AllByRecursion P (if on then move_effect dialect setup before move else [])
      by_street true = one move (chips_left setup (plain_move move ∷ before) move.seat) all.0
      by_street false = tt

  -- a property of deeds that all moves have
  record OfMoves (P : ActionEffect → Type 0) (move : TracedMove) (left : ℕ) : Type 0 where
    folds : P (Folds move.seat)
    checks : P (Checks move.seat)
    calls : P (Calls move.seat (move.to - move.from) left)
    bets : P (Bets move.seat (move.to - move.from) left)
    raises : P (Raises move.seat (raise_amount dialect move) left)

  by_act : (P : ActionEffect → Type 0) (act : Act) (move : TracedMove) (left : ℕ) → OfMoves P move left → AllByRecursion P (act_effect dialect act move left)
  by_act P Folded move left has = (has.folds, tt)
  by_act P Called move left has = (by_current_bet (move.price == move.from), tt)
    where
      by_current_bet : (same : Bool) → P (if same then Checks move.seat else Calls move.seat (move.to - move.from) left)
      by_current_bet true = has.checks
      by_current_bet false = has.calls
  by_act P Raised move left has = (by_current_bet (move.price == 0), tt)
    where
      by_current_bet : (none : Bool) → P (if none then Bets move.seat (move.to - move.from) left else Raises move.seat (raise_amount dialect move) left)
      by_current_bet true = has.bets
      by_current_bet false = has.raises
  by_act P BroughtIn move left has = tt

  amount_few : (d : Dialect) (move : TracedMove) → move.to ≤ MOST_CHIPS → raise_amount d move ≤ MOST_CHIPS
  amount_few dialects.Added move few = omega (arith, few)
  amount_few dialects.To move few = few

  pub moves_good : (round street : ℕ) (before : List Move) (moves : List TracedMove) → AllByRecursion (CanBeWritten setting) moves → AllByRecursion (IsGoodMove setting round) (move_effects dialect setup street before moves)
  moves_good round street before moves all =
      each_move (IsGoodMove setting round) (λ move left can. by_act (IsGoodMove setting round) move.act move left (record {
        folds = can.player;
        checks = can.player;
        calls = (can.player, omega (arith, can.to));
        bets = (can.player, omega (arith, can.to));
        raises = (can.player, amount_few dialect move can.to);
      })) street before moves all

  pub moves_no_posts : (street : ℕ) (before : List Move) (moves : List TracedMove) → AllByRecursion (CanBeWritten setting) moves → AllByRecursion IsNoPost (move_effects dialect setup street before moves)
  moves_no_posts street before moves all = each_move IsNoPost (λ move left can. by_act IsNoPost move.act move left (record { folds = tt; checks = tt; calls = tt; bets = tt; raises = tt })) street before moves all

  pub moves_no_deals : (street : ℕ) (before : List Move) (moves : List TracedMove) → AllByRecursion (CanBeWritten setting) moves → AllByRecursion IsNoDeal (move_effects dialect setup street before moves)
  moves_no_deals street before moves all = each_move IsNoDeal (λ move left can. by_act IsNoDeal move.act move left (record { folds = tt; checks = tt; calls = tt; bets = tt; raises = tt })) street before moves all

  -- a seat that is live folds in no move
  abbrev pub HasNotFolded : ℕ → TracedMove → Type 0
  HasNotFolded seat move = (is_folding move.act && (move.seat == seat)) ≡ false

  live_act : (seat : ℕ) (act : Act) (move : TracedMove) (left : ℕ) → (is_folding act && (move.seat == seat)) ≡ false → AllByRecursion (IsNoFold seat) (act_effect dialect act move left)
  live_act seat Folded move left is = (is, tt)
  live_act seat Called move left is = (by_current_bet (move.price == move.from), tt)
    where
      by_current_bet : (same : Bool) → IsNoFold seat (if same then Checks move.seat else Calls move.seat (move.to - move.from) left)
      by_current_bet true = tt
      by_current_bet false = tt
  live_act seat Raised move left is = (by_current_bet (move.price == 0), tt)
    where
      by_current_bet : (none : Bool) → IsNoFold seat (if none then Bets move.seat (move.to - move.from) left else Raises move.seat (raise_amount dialect move) left)
      by_current_bet true = tt
      by_current_bet false = tt
  live_act seat BroughtIn move left is = tt

  pub moves_no_folds : (seat street : ℕ) (before : List Move) (moves : List TracedMove) → AllByRecursion (HasNotFolded seat) moves → AllByRecursion (IsNoFold seat) (move_effects dialect setup street before moves)
  moves_no_folds seat street before [] all = tt
  moves_no_folds seat street before (move ∷ rest) all =
      all_both (IsNoFold seat) (if move.street == street then move_effect dialect setup before move else []) (move_effects dialect setup street (plain_move move ∷ before) rest)
      (by_street (move.street == street)) (moves_no_folds seat street (plain_move move ∷ before) rest all.1)
    where
      by_street : (on : Bool) → AllByRecursion (IsNoFold seat) (if on then move_effect dialect setup before move else [])
      by_street true = live_act seat move.act move (chips_left setup (plain_move move ∷ before) move.seat) all.0
      by_street false = tt

  -- no move is on a street
  abbrev pub IsElsewhere : ℕ → TracedMove → Type 0
  IsElsewhere street move = (move.street == street) ≡ false

  pub no_moves : (street : ℕ) (before : List Move) (moves : List TracedMove) → AllByRecursion (IsElsewhere street) moves → (move_effects dialect setup street before moves ≡ []) × (moves_again dialect moves street ≡ [])
  no_moves street before [] all = (refl, refl)
  no_moves street before (move ∷ rest) all =
      let behind = no_moves street (plain_move move ∷ before) rest all.1 in (
        ap₂ (λ (b : Bool) (l : List ActionEffect). (if b then move_effect dialect setup before move else []) ++ l) all.0 behind.0,
        ap₂ (λ (b : Bool) (l : List Said). (if b then move_again dialect move.act move else []) ++ l) all.0 behind.1,
      )
