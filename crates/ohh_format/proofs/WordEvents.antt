-- Events in the words of the format are as legal as those of the canonical script, and lead to the
-- same past: a call states the chips that it adds, and a raise is given by these or by the bet on
-- the street that it raises to.
use Rattle.std.proofs.Common.{◌≡◌, ℕ, ◌-◌, ◌≤◌, Bool, true, false, ◌&&◌, ◌||◌, ◌==◌, not, if◌then◌else◌, List, [], ◌∷◌, ◌++◌, Option, Some, None, refl, sym, ap, ◌∙◌, arith, true≢false}
use Rattle.std.specs.List.{AllByRecursion}
use Rattle.std.proofs.lemmas.Bool.{eq-eqb, not_from_true}
use Rattle.play_event.specs.CanonScript.{act_named, move_named, plain_move}
use Rattle.play_event.specs.PlayedScript.{is_move_event}
use Rattle.play_event.specs.Amounts.{call_target, raise_target}
use Rattle.play_event.specs.Chips.{street_chips}
use Rattle.play_event.specs.Due.{turn}
use Rattle.play_event.specs.Laws.{AreLegal}
use Rattle.play_event.specs.MoveReasons.{chips_to_call, is_other_seat, is_undecided}
use Rattle.play_event.specs.Openers.{InTurn}
use Rattle.play_event.specs.Past.{Act, BroughtIn, Called, Folded, Move, Past, Raised, is_bringing_in, moves_of}
use Rattle.play_event.specs.Reasons.{first_reason, is_due_kind, is_over, why}
use Rattle.play_event.specs.Said as said
use Rattle.play_event.specs.Said.{Said}
use Rattle.play_event.specs.Scripts.{past_of, with_event}
use Rattle.play_event.specs.Trace.{TracedMove}
use Rattle.play_event.specs.ValidSetup.{IsValid}
use Rattle.play_event.specs.declared.event.Spelled.{Spelled}
use Rattle.play_event.specs.declared.event.Spelled.TheVariants as spelled
use Rattle.play_event.specs.declared.reason.Due.{Due}
use Rattle.play_event.specs.declared.reason.Illegal.TheVariants as reasons
use Rattle.play_event.specs.declared.reason.Illegal.{Illegal}
use Rattle.play_event.specs.declared.setup.Rules.{Rules}
use Rattle.play_event.specs.declared.setup.Setup.{Setup}
use Rattle.play_laws.specs.Spellings.{in_turn_after}
use Rattle.play_laws.proofs.MoveKinds.{alike_kind, call_said, calls}
use Rattle.play_laws.proofs.NamedMoves.{why_move}
use Rattle.play_laws.proofs.OneSpelling.{equal_past, equal_reason}
use Rattle.ohh_members.specs.declared.dialect.Dialect.{Dialect}
use Rattle.ohh_members.specs.declared.dialect.Dialect.TheVariants as dialects
use Rattle.ohh_format.specs.Again.{move_again, raise_again, raise_by_dialect}
use Rattle.canon_laws.proofs.RaiseUp.{raise_up}
use Rattle.canon_laws.proofs.SameEvents.{AreSame, IsNewest, IsSame, newest, one_more, same_moves}

-- The events of a canonical script, the newest first, with its moves, and the same events in words:
-- an event that is not a move stays, and a move has its word.
pub data InWords (dialect : Dialect) : List Said → List Move → List Said → Type 0 where
  nothing : InWords dialect [] [] []
  stays : (event : Said) (events : List Said) (moves : List Move) (words : List Said) → is_move_event event ≡ false → InWords dialect events moves words → InWords dialect (event ∷ events) moves (event ∷ words)
  word : (move : TracedMove) (events : List Said) (moves : List Move) (words : List Said) → InWords dialect events moves words
      → InWords dialect (move_named (plain_move move) ∷ events) (plain_move move ∷ moves) (move_again dialect move.act move ++ words)

-- a move that has a word: not a bring-in
abbrev pub HasWord : Move → Type 0
HasWord move = is_bringing_in move.act ≡ false

-- why a call is illegal, by whether its kind may come and whether it states other chips than it
-- adds
abbrev call_refused : Setup → Rules → List Move → ℕ × Due → InTurn → ℕ → ℕ → Bool → Bool → Option Illegal
call_refused setup rules moves now in_turn seat stated comes differs =
    first_reason (
    (is_over now.1 && true, reasons.HandOver)
    ∷ (not (comes || false), reasons.WrongKind)
    ∷ (is_other_seat setup moves (Some seat) in_turn, reasons.WrongSeat)
    ∷ (false, reasons.WrongCount)
    ∷ (false, reasons.CardTaken)
    ∷ (false, reasons.NotHeld)
    ∷ (is_undecided in_turn, reasons.UpCardUnknown)
    ∷ (false, reasons.NothingToCall)
    ∷ (false, reasons.RaiseClosed)
    ∷ (false, reasons.RaiseTooSmall)
    ∷ (false, reasons.RaiseTooBig)
    ∷ (differs, reasons.AmountDiffers stated (chips_to_call setup moves now.0 seat))
    ∷ [])

-- a call that states what it adds is as legal as one that states nothing
call_same : (setup : Setup) (rules : Rules) (past : Past) (seat stated : ℕ) → stated ≡ chips_to_call setup (moves_of past) (turn setup past).0 seat
    → why setup rules past (said.Call (Some seat) None) ≡ None → IsSame setup rules past (said.Call (Some seat) None) (said.Call (Some seat) (Some stated))
unfolding with_event
call_same setup rules past seat stated adds legal =
    let moves = moves_of past in
    let now = turn setup past in
    let in_turn = in_turn_after setup past in
    let due = chips_to_call setup moves now.0 seat in
    let equal : not (stated == due) ≡ false = not_from_true (stated == due) (eq-eqb stated due adds) in
    record {
      legal =
          why_move setup rules past (said.Call (Some seat) (Some stated)) (call_said (Some seat) (Some stated))
          ∙ (ap (call_refused setup rules moves now in_turn seat stated (is_due_kind setup.code now.1 (said.Call (Some seat) (Some stated)))) equal
          ∙ (ap (λ comes. call_refused setup rules moves now in_turn seat stated comes false)
          (alike_kind setup.code now.1 (said.Call (Some seat) (Some stated)) (said.Call (Some seat) None) (calls (Some seat) (Some seat) (Some stated) None))
          ∙ (sym (why_move setup rules past (said.Call (Some seat) None) (call_said (Some seat) None)) ∙ legal)));
      past = refl;
    }

-- a raise to the same bet on the street is as legal
raise_same : (setup : Setup) (rules : Rules) (past : Past) (seat target : ℕ) (amount : Spelled) → raise_target setup (moves_of past) (turn setup past).0 seat amount ≡ target
    → why setup rules past (said.Raise (Some seat) (spelled.To target)) ≡ None → IsSame setup rules past (said.Raise (Some seat) (spelled.To target)) (said.Raise (Some seat) amount)
raise_same setup rules past seat target amount goes legal =
    record {
      legal = equal_reason setup rules past (Some seat) amount (spelled.To target) goes ∙ legal;
      past = equal_past setup past (Some seat) amount (spelled.To target) goes;
    }

-- where a call goes
goes_to : (placed move : Move) (before older : List Move) → placed ∷ before ≡ move ∷ older → placed.to ≡ move.to
goes_to placed move before older same =
    let here : placed ≡ move = cc in
    ap (λ (m : Move). m.to) here

call_goes : (setup : Setup) (past : Past) (move : Move) (older : List Move) → moves_of (with_event setup (said.Call (Some move.seat) None) past) ≡ move ∷ older → move.to ≡ call_target setup (moves_of past) (turn setup past).0 move.seat
unfolding with_event
call_goes setup past move older same = sym (goes_to _ move (moves_of past) older same)

-- where a raise goes, as its word gives it
raise_goes : (dialect : Dialect) (setup : Setup) (moves : List Move) (street : ℕ) (move : TracedMove) → move.from ≡ street_chips setup moves street move.seat → move.from ≤ move.to
    → raise_target setup moves street move.seat (raise_again dialect move) ≡ move.to
raise_goes dialect setup moves street move from up = by_current_bet (move.price == 0) dialect
  where
    by_current_bet : (bet : Bool) (dialect : Dialect) → raise_target setup moves street move.seat (if bet then spelled.Added (move.to - move.from) else raise_by_dialect dialect move) ≡ move.to
    by_current_bet true dialect = omega (arith, from, up)
    by_current_bet false dialects.Added = omega (arith, from, up)
    by_current_bet false dialects.To = refl

-- the word of a move
word_more : (dialect : Dialect) (setup : Setup) (rules : Rules) (events words : List Said) (move : TracedMove) (older : List Move) → IsValid setup → AreLegal setup rules events
    → AreSame setup rules events words → HasWord (plain_move move) → IsNewest setup (past_of setup events) (plain_move move) older
    → (act : Act) → move.act ≡ act → moves_of (with_event setup (act_named act move.seat move.to) (past_of setup events)) ≡ plain_move move ∷ older
    → why setup rules (past_of setup events) (act_named act move.seat move.to) ≡ None
    → AreSame setup rules (act_named act move.seat move.to ∷ events) (move_again dialect act move ++ words)
word_more dialect setup rules events words move older valid before same has placed Folded is newest legal =
    one_more setup rules events words (said.Fold (Some move.seat)) (said.Fold (Some move.seat)) same (record { legal = legal; past = refl })
word_more dialect setup rules events words move older valid before same has placed Called is newest legal =
    let past = past_of setup events in
    let to : move.to ≡ call_target setup (moves_of past) (turn setup past).0 move.seat = call_goes setup past (plain_move move) older newest in
    one_more setup rules events words (said.Call (Some move.seat) None) (said.Call (Some move.seat) (Some (move.to - move.from))) same
    (call_same setup rules past move.seat (move.to - move.from) (omega (arith, to, placed.from)) legal)
word_more dialect setup rules events words move older valid before same has placed Raised is newest legal =
    let past = past_of setup events in
    let up : move.from ≤ move.to = omega (arith, placed.from, raise_up setup rules events move.seat move.to valid before legal) in
    one_more setup rules events words (said.Raise (Some move.seat) (spelled.To move.to)) (said.Raise (Some move.seat) (raise_again dialect move)) same
    (raise_same setup rules past move.seat move.to (raise_again dialect move) (raise_goes dialect setup (moves_of past) (turn setup past).0 move placed.from up) legal)
word_more dialect setup rules events words move older valid before same has placed BroughtIn is newest legal =
    absurd (true≢false (sym (ap is_bringing_in is) ∙ has))

-- events in words are legal, and lead to the same past
pub words_same : (dialect : Dialect) (setup : Setup) (rules : Rules) (events : List Said) (moves : List Move) (words : List Said) → IsValid setup
    → InWords dialect events moves words → AreLegal setup rules events → moves_of (past_of setup events) ≡ moves → AllByRecursion HasWord moves → AreSame setup rules events words
words_same dialect setup rules _ _ _ valid nothing legal same have = record { legal = tt; past = refl }
words_same dialect setup rules _ _ _ valid (stays event events moves words still rest) legal same have =
    one_more setup rules events words event event
    (words_same dialect setup rules events moves words valid rest legal.1 (sym (same_moves setup (past_of setup events) event still) ∙ same) have)
    (record { legal = legal.0; past = refl })
words_same dialect setup rules _ _ _ valid (word move events moves words rest) legal same have =
    let placed = newest setup (past_of setup events) (plain_move move) moves move.act same in
    let older = words_same dialect setup rules events moves words valid rest legal.1 placed.moves have.1 in
    word_more dialect setup rules events words move moves valid legal.1 older have.0 placed move.act refl same legal.0
