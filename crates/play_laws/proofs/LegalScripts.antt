-- A script has no illegal event if and only if its events, newest first, are legal one by one.
use Rattle.std.proofs.Common.{◌≡◌, ℕ, zero, suc, ◌+◌, ◌-◌, ◌<◌, ◌≤◌, ◌↔◌, List, [], ◌∷◌, get_or, length, option_and_then, reverse, take, sym, ◌∙◌, ap, subst, arith}
use Rattle.std.proofs.Math.Seq.{take-suc}
use Rattle.std.proofs.lemmas.List.{reverse-append, take_all}
use Rattle.std.proofs.lemmas.Option.{slice_get-get_or}
use Rattle.play_event.specs.Laws.{AreLegal}
use Rattle.play_event.specs.Reasons.{why}
use Rattle.play_event.specs.Said.{Board, Said}
use Rattle.play_event.specs.Scripts.{HasNoIllegalEvent, past_after, past_of, why_at}
use Rattle.play_event.specs.declared.setup.Rules.{Rules}
use Rattle.play_event.specs.declared.setup.Setup.{Setup}

-- the event with an index
event_at : List Said → ℕ → Said
event_at script index = get_or script index (Board [])

-- one more event, the newest first
one_more : (script : List Said) (count : ℕ) → count < length script → reverse (take (suc count) script) ≡ event_at script count ∷ reverse (take count script)
unfolding event_at
one_more script count within =
    ap reverse (take-suc script count (Board []) within) ∙ reverse-append (take count script) (get_or script count (Board []) ∷ [])

-- why an event is illegal, by its index and after the events before it
why_there : (setup : Setup) (rules : Rules) (script : List Said) (index : ℕ) → index < length script → why_at setup rules script index ≡ why setup rules (past_of setup (reverse (take index script))) (event_at script index)
unfolding event_at
why_there setup rules script index within = ap (option_and_then (why setup rules (past_after setup script index))) (slice_get-get_or script index (Board []) within)

-- the first events of a script without an illegal one
first_legal : (setup : Setup) (rules : Rules) (script : List Said) → HasNoIllegalEvent setup rules script → (count : ℕ) → count ≤ length script → AreLegal setup rules (reverse (take count script))
first_legal setup rules script none zero within = tt
first_legal setup rules script none (suc count) within =
    let here : count < length script = omega (arith, within) in
    let P : List Said → Type 0 = AreLegal setup rules in
    subst P (sym (one_more script count here))
    (sym (why_there setup rules script count here) ∙ none count here, first_legal setup rules script none count (omega (arith, within)))

-- the first events of legal ones
first_of_legal : (setup : Setup) (rules : Rules) (script : List Said) → AreLegal setup rules (reverse script) → (left count : ℕ) → count + left ≡ length script → AreLegal setup rules (reverse (take count script))
first_of_legal setup rules script legal zero count whole =
    let all : length script ≡ count = omega (arith, whole) in
    let P : List Said → Type 0 = λ l. AreLegal setup rules (reverse l) in
    subst P (sym (take_all (length script) script (omega arith)) ∙ ap (λ n. take n script) all) legal
first_of_legal setup rules script legal (suc left) count whole =
    let P : List Said → Type 0 = AreLegal setup rules in
    (subst P (one_more script count (omega (arith, whole))) (first_of_legal setup rules script legal left (suc count) (omega (arith, whole)))).1

-- both directions
pub legal_script : (setup : Setup) (rules : Rules) (script : List Said) → HasNoIllegalEvent setup rules script ↔ AreLegal setup rules (reverse script)
legal_script setup rules script = (
  (λ none. let P : List Said → Type 0 = λ l. AreLegal setup rules (reverse l) in subst P (take_all (length script) script (omega arith)) (first_legal setup rules script none (length script) (omega arith))),
  (λ legal index within.
      let P : List Said → Type 0 = AreLegal setup rules in
      why_there setup rules script index within
      ∙ (subst P (one_more script index within) (first_of_legal setup rules script legal (length script - suc index) (suc index) (omega (arith, within)))).0),
)
