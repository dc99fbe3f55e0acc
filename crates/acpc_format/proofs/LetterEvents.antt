-- Events in the letters of a log are as legal as those of the canonical script, and leave the same
-- past: a letter names no seat, and a raise is written as the seat's chips in the whole hand, or by
-- the unit.
use Rattle.std.proofs.Common.{◌≡◌, ℕ, ◌≤◌, Bool, true, false, if◌then◌else◌, List, [], ◌∷◌, ◌++◌, Some, None, refl, sym, ap, subst, ◌∙◌, true≢false}
use Rattle.play_event.specs.CanonScript.{act_named, move_named}
use Rattle.play_event.specs.PlayedScript.{is_move_event}
use Rattle.play_event.proofs.SpellingLaws as spelling_laws
use Rattle.play_event.specs.Amounts.{raise_target, unit_target}
use Rattle.play_event.specs.Chips.{street_chips}
use Rattle.play_event.specs.Due.{turn}
use Rattle.play_event.specs.Laws.{AreLegal}
use Rattle.play_event.specs.Past.{Act, BroughtIn, Called, Folded, Move, Past, Raised, is_bringing_in, is_raising, moves_of}
use Rattle.play_event.specs.Reasons.{why}
use Rattle.play_event.specs.Said as said
use Rattle.play_event.specs.Said.{Said}
use Rattle.play_event.specs.Scripts.{past_of, with_event}
use Rattle.play_event.specs.ValidSetup.{IsValid}
use Rattle.play_event.specs.declared.event.Spelled.{Spelled}
use Rattle.play_event.specs.declared.event.Spelled.TheVariants as spelled
use Rattle.play_event.specs.declared.setup.Rules.{Rules}
use Rattle.play_event.specs.declared.setup.Setup.{Setup}
use Rattle.play_laws.proofs.MoveKinds.{call_said, fold_said, raise_said}
use Rattle.play_laws.proofs.OneSpelling.{same_past, same_reason}
use Rattle.acpc_format.specs.Betting.{hand_total}
use Rattle.acpc_format.specs.Again.{move_again}
use Rattle.canon_laws.proofs.RaiseUp.{named_in_turn, raise_up}
use Rattle.canon_laws.proofs.SameEvents.{AreSame, IsNewest, IsSame, newest, one_more, same_moves}
use Rattle.acpc_format.proofs.RaiseTotals.{same_target}

-- The events of a canonical script (newest first) with its moves, and the same events in letters:
-- an event that is no move is unchanged, and a move has its letter, after the moves before it.
pub data InLetters (no_limit : Bool) (setup : Setup) : List Said → List Move → List Said → Type 0 where
  nothing : InLetters no_limit setup [] [] []
  stays : (event : Said) (events : List Said) (moves : List Move) (words : List Said) → is_move_event event ≡ false → InLetters no_limit setup events moves words → InLetters no_limit setup (event ∷ events) moves (event ∷ words)
  letter : (move : Move) (events : List Said) (moves : List Move) (words : List Said) → InLetters no_limit setup events moves words
      → InLetters no_limit setup (move_named move ∷ events) (move ∷ moves) (move_again no_limit move.act (hand_total setup move moves) ++ words)

-- a move that a letter can say after the moves before it: no bring-in, and in a limit game each
-- raise is by the unit
pub record HasLetter (no_limit : Bool) (setup : Setup) (older : List Move) (move : Move) : Type 0 where
  pub no_bring_in : is_bringing_in move.act ≡ false
  pub by_unit : no_limit ≡ false → is_raising move.act ≡ true → unit_target setup older move.street move.seat ≡ move.to

-- and so are all moves
abbrev pub HaveLetters : Bool → Setup → List Move → Type 0
HaveLetters no_limit setup [] = Unit {0}
HaveLetters no_limit setup (move ∷ older) = HasLetter no_limit setup older move × HaveLetters no_limit setup older

fold_same : (setup : Setup) (rules : Rules) (past : Past) (seat : ℕ) → why setup rules past (said.Fold (Some seat)) ≡ None → IsSame setup rules past (said.Fold (Some seat)) (said.Fold None)
fold_same setup rules past seat legal =
    let turned = named_in_turn setup rules past (said.Fold (Some seat)) seat (fold_said (Some seat)) refl legal in
    record {
      legal = sym (same_reason setup rules past seat (said.Fold None) turned) ∙ legal;
      past = sym (same_past setup past seat (said.Fold None) turned);
    }

call_same : (setup : Setup) (rules : Rules) (past : Past) (seat : ℕ) → why setup rules past (said.Call (Some seat) None) ≡ None → IsSame setup rules past (said.Call (Some seat) None) (said.Call None None)
call_same setup rules past seat legal =
    let turned = named_in_turn setup rules past (said.Call (Some seat) None) seat (call_said (Some seat) None) refl legal in
    record {
      legal = sym (same_reason setup rules past seat (said.Call None None) turned) ∙ legal;
      past = sym (same_past setup past seat (said.Call None None) turned);
    }

raise_same : (setup : Setup) (rules : Rules) (past : Past) (seat target : ℕ) (amount : Spelled) → raise_target setup (moves_of past) (turn setup past).0 seat amount ≡ target
    → why setup rules past (said.Raise (Some seat) (spelled.To target)) ≡ None → IsSame setup rules past (said.Raise (Some seat) (spelled.To target)) (said.Raise None amount)
raise_same setup rules past seat target amount goes legal =
    let turned = named_in_turn setup rules past (said.Raise (Some seat) (spelled.To target)) seat (raise_said (Some seat) (spelled.To target)) refl legal in
    record {
      legal = spelling_laws.same_reason setup rules past seat amount turned ∙ ap (λ n. why setup rules past (said.Raise (Some seat) (spelled.To n))) goes ∙ legal;
      past = spelling_laws.same_past setup past seat amount turned ∙ ap (λ n. with_event setup (said.Raise (Some seat) (spelled.To n)) past) goes;
    }

-- the target of a raise, as its letter says it
raise_goes : (no_limit : Bool) (setup : Setup) (rules : Rules) (events : List Said) (move : Move) → IsValid setup → AreLegal setup rules events
    → why setup rules (past_of setup events) (said.Raise (Some move.seat) (spelled.To move.to)) ≡ None → HasLetter no_limit setup (moves_of (past_of setup events)) move → is_raising move.act ≡ true
    → move.street ≡ (turn setup (past_of setup events)).0 → move.from ≡ street_chips setup (moves_of (past_of setup events)) (turn setup (past_of setup events)).0 move.seat
    → raise_target setup (moves_of (past_of setup events)) (turn setup (past_of setup events)).0 move.seat (if no_limit then spelled.HandTotal (hand_total setup move (moves_of (past_of setup events))) else spelled.Unit) ≡ move.to
raise_goes true setup rules events move valid before legal has raises street from =
    same_target setup (moves_of (past_of setup events)) move (turn setup (past_of setup events)).0 from
    (subst (λ n. n ≤ move.to) (sym from) (raise_up setup rules events move.seat move.to valid before legal))
raise_goes false setup rules events move valid before legal has raises street from =
    ap (λ s. unit_target setup (moves_of (past_of setup events)) s move.seat) (sym street) ∙ has.by_unit refl raises

-- the letter of a move
letter_more : (no_limit : Bool) (setup : Setup) (rules : Rules) (events words : List Said) (move : Move) → IsValid setup → AreLegal setup rules events
    → AreSame setup rules events words → HasLetter no_limit setup (moves_of (past_of setup events)) move → IsNewest setup (past_of setup events) move (moves_of (past_of setup events))
    → (act : Act) → move.act ≡ act → why setup rules (past_of setup events) (act_named act move.seat move.to) ≡ None
    → AreSame setup rules (act_named act move.seat move.to ∷ events) (move_again no_limit act (hand_total setup move (moves_of (past_of setup events))) ++ words)
letter_more no_limit setup rules events words move valid before same has placed Folded is legal =
    one_more setup rules events words (said.Fold (Some move.seat)) (said.Fold None) same (fold_same setup rules (past_of setup events) move.seat legal)
letter_more no_limit setup rules events words move valid before same has placed Called is legal =
    one_more setup rules events words (said.Call (Some move.seat) None) (said.Call None None) same (call_same setup rules (past_of setup events) move.seat legal)
letter_more no_limit setup rules events words move valid before same has placed Raised is legal =
    let amount = if no_limit then spelled.HandTotal (hand_total setup move (moves_of (past_of setup events))) else spelled.Unit in
    one_more setup rules events words (said.Raise (Some move.seat) (spelled.To move.to)) (said.Raise None amount) same
    (raise_same setup rules (past_of setup events) move.seat move.to amount
    (raise_goes no_limit setup rules events move valid before legal has (ap is_raising is) placed.street placed.from) legal)
letter_more no_limit setup rules events words move valid before same has placed BroughtIn is legal =
    absurd (true≢false (sym (ap is_bringing_in is) ∙ has.no_bring_in))

-- events in letters are legal, and leave the past
pub letters_same : (no_limit : Bool) (setup : Setup) (rules : Rules) (events : List Said) (moves : List Move) (words : List Said) → IsValid setup
    → InLetters no_limit setup events moves words → AreLegal setup rules events → moves_of (past_of setup events) ≡ moves → HaveLetters no_limit setup moves → AreSame setup rules events words
letters_same no_limit setup rules _ _ _ valid nothing legal same have = record { legal = tt; past = refl }
letters_same no_limit setup rules _ _ _ valid (stays event events moves words still rest) legal same have =
    one_more setup rules events words event event
    (letters_same no_limit setup rules events moves words valid rest legal.1 (sym (same_moves setup (past_of setup events) event still) ∙ same) have)
    (record { legal = legal.0; past = refl })
letters_same no_limit setup rules _ _ _ valid (letter move events moves words rest) legal same have =
    let placed = newest setup (past_of setup events) move moves move.act same in
    let older = letters_same no_limit setup rules events moves words valid rest legal.1 placed.moves have.1 in
    let P : List Move → Type 0 = λ (list : List Move). AreSame setup rules (move_named move ∷ events) (move_again no_limit move.act (hand_total setup move list) ++ words) in
    subst P placed.moves
    (letter_more no_limit setup rules events words move valid legal.1 older
    (subst (λ (list : List Move). HasLetter no_limit setup list move) (sym placed.moves) have.0)
    (record { moves = refl; street = placed.street; from = placed.from }) move.act refl legal.0)
