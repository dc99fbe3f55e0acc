-- One more event, and one more hand.
use Rattle.std.proofs.Common.{◌≡◌, ℕ, suc, ◌+◌, List, [], ◌∷◌, ◌++◌, length, map, reverse, Option, Some, None, sym, refl, subst, ap, ◌∙◌, arith, length-append}
use Rattle.std.specs.List.{range_with_len}
use Rattle.std.proofs.lemmas.List.{map-append, reverse-append}
use Rattle.betting_numbers.specs.declared.betting_state.BettingState.{BettingState}
use Rattle.card_places.specs.declared.card_state.CardState.{CardState}
use Rattle.play_event.specs.declared.event.Event.{Event}
use Rattle.play_event.specs.declared.reason.Due.{Due}
use Rattle.play_event.specs.declared.reason.Due.TheVariants as dues
use Rattle.play_event.specs.declared.setup.Rules.{Rules}
use Rattle.play_event.specs.declared.setup.Setup.{Setup}
use Rattle.play_event.specs.Dealing.{next_to_draw}
use Rattle.play_event.specs.Due.{turn}
use Rattle.play_event.specs.HistoryRules.{history_rules}
use Rattle.play_event.specs.Openers.{InTurn, NoSeat, TheSeat, Undecided}
use Rattle.play_event.specs.Past.{Move, Past, moves_of}
use Rattle.play_event.specs.Said.{Said, said_of}
use Rattle.play_event.specs.Scripts.{past_of, with_event}
use Rattle.hand_canon.specs.declared.record.Record.{Record}
use Rattle.card_set.proofs.Ranges.{range_more}
use Rattle.replay_core.specs.Together.{StandTogether}
use Rattle.deal_core.specs.NextDeal.{first_owed}
use Rattle.betting_numbers.specs.TurnSaid.{in_turn_on}
use Rattle.hand_gen.specs.Coming.{Coming, bring_in_comes, coming, comes_at, deal_comes, deal_of, discard_or, held_by, move_comes}
use Rattle.hand_gen.specs.Made.{AreMadeFrom, HaveCome, IsMade, backward, next_event, number_behind, number_behind_all, source_behind}
use Rattle.hand_gen.specs.MadeTo.{IsMadeTo}
use Rattle.hand_gen.specs.HandSource.{HandSource}

-- an event that is appended to a script is the newest
pub backward_more : (script : List Event) (event : Event) → backward (script ++ event ∷ []) ≡ said_of event ∷ backward script
backward_more script event = ap reverse (map-append said_of script (event ∷ [])) ∙ reverse-append (map said_of script) (said_of event ∷ [])

longer_by_one : (script : List Event) (event : Event) → suc (length script) ≡ length (script ++ event ∷ [])
longer_by_one script event = omega (arith, length-append script (event ∷ []))

-- one more event is made
pub one_event_more : (setup : Setup) (start : HandSource) (b next : BettingState) (t after : CardState) (script : List Event) (event : Event) (stock left : HandSource)
    → IsMadeTo setup start b t script stock
    → Some (said_of event) ≡ (coming b.setup b.rules (past_of setup (backward script)) stock).event
    → left ≡ (coming b.setup b.rules (past_of setup (backward script)) stock).left
    → StandTogether next after (with_event b.setup (said_of event) (past_of setup (backward script)))
    → next.setup ≡ b.setup → next.rules ≡ b.rules → event.at ≡ length script + 1
    → IsMadeTo setup start next after (script ++ event ∷ []) left
one_event_more setup start b next t after script event stock left made comes leaves stands same_setup same_rules number =
    let past : Past = past_of setup (backward script) in
    let same : coming b.setup b.rules past stock ≡ coming setup history_rules past (source_behind setup history_rules start (backward script)) =
    ap (λ (s : Setup). coming s b.rules past stock) made.setup_is ∙ ap (λ (r : Rules). coming setup r past stock) made.rules_is ∙ ap (coming setup history_rules past) made.left in
    let has : next_event setup history_rules start (backward script) ≡ Some (said_of event) = sym (comes ∙ ap (λ (x : Coming). x.event) same) in
    let C : List Said → Type 0 = HaveCome setup history_rules start in
    let T : List Said → Type 0 = λ events. StandTogether next after (past_of setup events) in
    let S : Setup → Type 0 = λ s. StandTogether next after (with_event s (said_of event) past) in
    let last : event.at ≡ 1 + length script = omega (arith, number) in
    record {
      come = subst C (sym (backward_more script event)) (has, made.come);
      left = leaves ∙ ap (λ (x : Coming). x.left) same ∙ sym (ap (source_behind setup history_rules start) (backward_more script event));
      stands = subst T (sym (backward_more script event)) (subst S made.setup_is stands);
      numbered = map-append (λ (e : Event). e.at) script (event ∷ [])
          ∙ ap (λ (l : List ℕ). l ++ event.at ∷ []) made.numbered
          ∙ ap (λ (n : ℕ). range_with_len 1 (length script) ++ n ∷ []) last
          ∙ sym (range_more 1 (length script))
          ∙ ap (range_with_len 1) (longer_by_one script event);
      setup_is = same_setup ∙ made.setup_is;
      rules_is = same_rules ∙ made.rules_is;
    }

-- if nothing comes, nothing is taken
deal_some : (found : Option ℕ) (owed : ℕ → ℕ) (board : ℕ) (stock : HandSource) → (deal_of found owed board stock).event ≡ None → (deal_of found owed board stock).left ≡ stock
deal_some None owed board stock is = absurd cc
deal_some (Some seat) owed board stock is = absurd cc

draw_some : (setup : Setup) (past : Past) (on : ℕ) (found : Option ℕ) (stock : HandSource) → (discard_or found (held_by setup past) (deal_comes setup past on stock) stock).event ≡ None → (discard_or found (held_by setup past) (deal_comes setup past on stock) stock).left ≡ stock
draw_some setup past on None stock is = deal_some (first_owed setup past on) _ _ stock is
draw_some setup past on (Some seat) stock is = absurd cc

bring_some : (stock : HandSource) (turn : InTurn) → (bring_in_comes stock turn).event ≡ None → (bring_in_comes stock turn).left ≡ stock
bring_some stock (TheSeat seat) is = absurd cc
bring_some stock NoSeat is = refl
bring_some stock Undecided is = refl

move_some : (setup : Setup) (rules : Rules) (moves : List Move) (street : ℕ) (stock : HandSource) (turn : InTurn) → (move_comes setup rules moves street stock turn).event ≡ None → (move_comes setup rules moves street stock turn).left ≡ stock
move_some setup rules moves street stock (TheSeat seat) is = absurd cc
move_some setup rules moves street stock NoSeat is = refl
move_some setup rules moves street stock Undecided is = refl

some_at : (setup : Setup) (rules : Rules) (past : Past) (stock : HandSource) (street : ℕ) (due : Due) → (comes_at setup rules past stock street due).event ≡ None → (comes_at setup rules past stock street due).left ≡ stock
some_at setup rules past stock street (dues.Deal on) is = deal_some (first_owed setup past on) _ _ stock is
some_at setup rules past stock street (dues.Draw on) is = draw_some setup past on (next_to_draw setup past on) stock is
some_at setup rules past stock street dues.BringIn is = bring_some stock (in_turn_on setup past street) is
some_at setup rules past stock street dues.Move is = move_some setup rules (moves_of past) street stock (in_turn_on setup past street) is
some_at setup rules past stock street dues.Show is = refl
some_at setup rules past stock street dues.Over is = refl

none_taken : (setup : Setup) (rules : Rules) (past : Past) (stock : HandSource) → (coming setup rules past stock).event ≡ None → (coming setup rules past stock).left ≡ stock
unfolding coming
none_taken setup rules past stock is = some_at setup rules past stock (turn setup past).0 (turn setup past).1 is

-- nothing comes after a complete script, and nothing is taken
pub nothing_more : (setup : Setup) (start : HandSource) (b : BettingState) (t : CardState) (script : List Event) (stock left : HandSource)
    → IsMadeTo setup start b t script stock
    → None ≡ (coming b.setup b.rules (past_of setup (backward script)) stock).event
    → left ≡ (coming b.setup b.rules (past_of setup (backward script)) stock).left
    → (next_event setup history_rules start (backward script) ≡ None) × (left ≡ source_behind setup history_rules start (backward script))
nothing_more setup start b t script stock left made comes leaves =
    let past : Past = past_of setup (backward script) in
    let same : coming b.setup b.rules past stock ≡ coming setup history_rules past (source_behind setup history_rules start (backward script)) =
    ap (λ (s : Setup). coming s b.rules past stock) made.setup_is ∙ ap (λ (r : Rules). coming setup r past stock) made.rules_is ∙ ap (coming setup history_rules past) made.left in
    (sym (comes ∙ ap (λ (x : Coming). x.event) same), leaves ∙ none_taken b.setup b.rules past stock (sym comes) ∙ made.left)

-- one more hand is made
pub one_hand_more : (place number : ℕ) (hands : List Record) (hand : Record) → AreMadeFrom place number hands → IsMade (place + length hands) (number_behind_all number hands) hand → AreMadeFrom place number (hands ++ hand ∷ [])
one_hand_more place number [] hand made more = let same : place + 0 ≡ place = omega arith in (subst (λ n. IsMade n number hand) same more, tt)
one_hand_more place number (first ∷ rest) hand made more =
    let same : place + suc (length rest) ≡ (place + 1) + length rest = omega arith in
    (made.0, one_hand_more (place + 1) (number_behind number first) rest hand made.1 (subst (λ n. IsMade n (number_behind_all (number_behind number first) rest) hand) same more))

-- the generator's number after it
pub number_more : (number : ℕ) (hands : List Record) (hand : Record) → number_behind_all number (hands ++ hand ∷ []) ≡ number_behind (number_behind_all number hands) hand
number_more number [] hand = refl
number_more number (first ∷ rest) hand = number_more (number_behind number first) rest hand
