-- The same events in other words: legal if the events are, and leaving the same past, one event
-- after another.
use Rattle.std.proofs.Common.{◌≡◌, false, List, ◌∷◌, None, refl, sym, ap, ◌∙◌, true≢false}
use Rattle.play_event.specs.CanonScript.{act_named}
use Rattle.play_event.specs.PlayedScript.{is_move_event}
use Rattle.play_event.specs.Chips.{street_chips}
use Rattle.play_event.specs.Due.{turn}
use Rattle.play_event.specs.Laws.{AreLegal}
use Rattle.play_event.specs.Past.{Act, BroughtIn, Called, Folded, Move, Past, Raised, moves_of}
use Rattle.play_event.specs.Reasons.{why}
use Rattle.play_event.specs.Said as said
use Rattle.play_event.specs.Said.{Said}
use Rattle.play_event.specs.Scripts.{past_of, with_event}
use Rattle.play_event.specs.declared.setup.Rules.{Rules}
use Rattle.play_event.specs.declared.setup.Setup.{Setup}

-- an event is legal, and takes place as another one does
pub record IsSame (setup : Setup) (rules : Rules) (before : Past) (event word : Said) : Type 0 where
  pub legal : why setup rules before word ≡ None
  pub past : with_event setup word before ≡ with_event setup event before

-- the words are legal, and leave the past of the events
pub record AreSame (setup : Setup) (rules : Rules) (events words : List Said) : Type 0 where
  pub legal : AreLegal setup rules words
  pub past : past_of setup words ≡ past_of setup events

-- one more event
pub one_more : (setup : Setup) (rules : Rules) (events words : List Said) (event word : Said) → AreSame setup rules events words → IsSame setup rules (past_of setup events) event word → AreSame setup rules (event ∷ events) (word ∷ words)
one_more setup rules events words event word same is =
    record {
      legal = (ap (λ (p : Past). why setup rules p word) same.past ∙ is.legal, same.legal);
      past = ap (with_event setup word) same.past ∙ is.past;
    }

-- an event that is no move does not change the moves
pub same_moves : (setup : Setup) (past : Past) (event : Said) → is_move_event event ≡ false → moves_of (with_event setup event past) ≡ moves_of past
unfolding with_event
same_moves setup past (said.Hole seat cards) still = refl
same_moves setup past (said.Board cards) still = refl
same_moves setup past (said.Discard seat cards) still = refl
same_moves setup past (said.Show seat cards) still = refl
same_moves setup past (said.Muck seat) still = refl
same_moves setup past (said.Fold named) still = absurd (true≢false still)
same_moves setup past (said.Call named stated) still = absurd (true≢false still)
same_moves setup past (said.Raise named amount) still = absurd (true≢false still)
same_moves setup past (said.BringIn named) still = absurd (true≢false still)

-- what the newest of the moves says of the past before it
pub record IsNewest (setup : Setup) (past : Past) (move : Move) (older : List Move) : Type 0 where
  pub moves : moves_of past ≡ older
  pub street : move.street ≡ (turn setup past).0
  pub from : move.from ≡ street_chips setup (moves_of past) (turn setup past).0 move.seat

newest_by : (setup : Setup) (past : Past) (placed move : Move) (older : List Move) → placed ∷ moves_of past ≡ move ∷ older → placed.street ≡ (turn setup past).0 → placed.from ≡ street_chips setup (moves_of past) (turn setup past).0 placed.seat → IsNewest setup past move older
newest_by setup past placed move older same street from =
    let here : placed ≡ move = cc in
    record {
      moves = cc;
      street = sym (ap (λ (m : Move). m.street) here) ∙ street;
      from = sym (ap (λ (m : Move). m.from) here) ∙ from ∙ ap (λ (m : Move). street_chips setup (moves_of past) (turn setup past).0 m.seat) here;
    }

pub newest : (setup : Setup) (past : Past) (move : Move) (older : List Move) (act : Act) → moves_of (with_event setup (act_named act move.seat move.to) past) ≡ move ∷ older → IsNewest setup past move older
unfolding with_event
newest setup past move older Folded same = newest_by setup past _ move older same refl refl
newest setup past move older Called same = newest_by setup past _ move older same refl refl
newest setup past move older Raised same = newest_by setup past _ move older same refl refl
newest setup past move older BroughtIn same = newest_by setup past _ move older same refl refl
