-- The search through a written script finds its first illegal event, or that all are legal.
use Rattle.std.proofs.Common.{◌≡◌, ℕ, ◌+◌, ◌≤◌, ◌<◌, inl, inr, Option, Some, None, List, [], ◌∷◌, length, take, drop, reverse, get_or, slice_get, option_and_then, refl, sym, ◌∙◌, ap, arith, map}
use Rattle.std.proofs.lemmas.Bool.{cases_lt}
use Rattle.std.proofs.lemmas.List.{drop_more, drop_all, take_more, reverse-append, take_all}
use Rattle.std.proofs.lemmas.Option.{slice_get_within, get_or_from_slice_get, slice_get-get_or, same_Some}
use Rattle.card_set.proofs.Options.{some_is_none}
use Rattle.play_event.specs.declared.reason.Illegal.{Illegal}
use Rattle.play_event.specs.declared.setup.Setup.{Setup}
use Rattle.play_event.specs.declared.setup.Rules.{Rules}
use Rattle.play_event.specs.Said.{Said, Numbered, numbered, said_of}
use Rattle.play_event.specs.Past.{Past}
use Rattle.play_event.specs.Reasons.{why}
use Rattle.play_event.specs.Scripts.{past_of, past_after, with_event, why_at, HasNoIllegalEvent, IsFirstIllegal, illegal_event, illegal_event_from, past_at_end}
use Rattle.play_event.specs.declared.event.Event.{Event}

-- the past after one event more
past_more : (setup : Setup) (events : List Said) (count : ℕ) (event : Said) → slice_get events count ≡ Some event → past_after setup events (count + 1) ≡ with_event setup event (past_after setup events count)
past_more setup events count event is =
    ap (λ l. past_of setup (reverse l)) (take_more events count event (slice_get_within events count event is))
    ∙ ap (past_of setup) (reverse-append (take count events) (get_or events count event ∷ []))
    ∙ ap (λ e. past_of setup (e ∷ reverse (take count events))) (get_or_from_slice_get events count event event is)

-- the events that are left begin with the next one
record IsNext (script : List Said) (count : ℕ) (event : Said) (more : List Said) : Type 0 where
  within : count < length script
  next : slice_get script count ≡ Some event
  left : more ≡ drop (count + 1) script

first_of : Said → List Said → Said
first_of other [] = other
first_of other (event ∷ more) = event

behind_first : List Said → List Said
behind_first [] = []
behind_first (event ∷ more) = more

no_event : (event : Said) (more : List Said) → event ∷ more ≡ [] → ⊥
no_event event more is = cc

is_next : (script : List Said) (count : ℕ) (event : Said) (more : List Said) → event ∷ more ≡ drop count script → IsNext script count event more
unfolding first_of behind_first
is_next script count event more left = elim (cases_lt count (length script)) [
  | inr over ↦ absurd (no_event event more (left ∙ drop_all count script over))
  | inl within ↦
      let cut = left ∙ drop_more script count event within in
      record {
        within = within;
        next = slice_get-get_or script count event within ∙ ap Some (sym (ap (first_of event) cut));
        left = ap behind_first cut;
      }
]

-- what the search reports from a number of events on
record IsRefused (setup : Setup) (rules : Rules) (script : List Said) (count number : ℕ) (reason : Illegal) : Type 0 where
  index : ℕ
  counted : number ≡ index + 1
  reached : count ≤ index
  within : index < length script
  legal : (earlier : ℕ) → count ≤ earlier → earlier < index → why_at setup rules script earlier ≡ None
  illegal : why_at setup rules script index ≡ Some reason

AreLegalFrom : Setup → Rules → List Said → ℕ → Type 0
AreLegalFrom setup rules script count = (index : ℕ) → count ≤ index → index < length script → why_at setup rules script index ≡ None

why_next : (setup : Setup) (rules : Rules) (script : List Said) (count : ℕ) (event : Said) (found : Option Illegal) → slice_get script count ≡ Some event → why setup rules (past_after setup script count) event ≡ found → why_at setup rules script count ≡ found
why_next setup rules script count event found at is = ap (option_and_then (why setup rules (past_after setup script count))) at ∙ is

here_or_later : (setup : Setup) (rules : Rules) (script : List Said) (count bound : ℕ) → why_at setup rules script count ≡ None → ((index : ℕ) → count + 1 ≤ index → index < bound → why_at setup rules script index ≡ None) → (index : ℕ) → count ≤ index → index < bound → why_at setup rules script index ≡ None
here_or_later setup rules script count bound here later index least most = elim (cases_lt count index) [
  | inl above ↦ later index (omega (arith, above)) most
  | inr below ↦ let same : index ≡ count = omega (arith, below, least) in ap (why_at setup rules script) same ∙ here
]

-- one step of the search
walk_step : Setup → Rules → Past → ℕ → Said → List Said → Option Illegal → Option (ℕ × Illegal)
walk_step setup rules before number event rest found = elim found [ Some reason ↦ Some (number, reason) | None ↦ illegal_event_from setup rules (with_event setup event before) (number + 1) rest ]

refused_step : (setup : Setup) (rules : Rules) (script : List Said) (count : ℕ) (event : Said) (more : List Said) (number : ℕ) (reason : Illegal) (found : Option Illegal) → IsNext script count event more → why setup rules (past_after setup script count) event ≡ found → (illegal_event_from setup rules (past_after setup script (count + 1)) (count + 1 + 1) more ≡ Some (number, reason) → IsRefused setup rules script (count + 1) number reason) → walk_step setup rules (past_after setup script count) (count + 1) event more found ≡ Some (number, reason) → IsRefused setup rules script count number reason
unfolding walk_step
refused_step setup rules script count event more number reason (Some first) next here later is =
    let same : (count + 1, first) ≡ (number, reason) = same_Some (count + 1, first) (number, reason) is in
    record {
      index = count;
      counted = sym (ap (λ p. p.0) same);
      reached = omega arith;
      within = next.within;
      legal = λ earlier least most. absurd (omega (arith, least, most));
      illegal = why_next setup rules script count event (Some first) next.next here ∙ ap Some (ap (λ p. p.1) same);
    }
refused_step setup rules script count event more number reason None next here later is =
    let found = later (ap (λ p. illegal_event_from setup rules p (count + 1 + 1) more) (past_more setup script count event next.next) ∙ is) in
    record {
      index = found.index;
      counted = found.counted;
      reached = omega (arith, found.reached);
      within = found.within;
      legal = here_or_later setup rules script count found.index (why_next setup rules script count event None next.next here) found.legal;
      illegal = found.illegal;
    }

refused_from : (setup : Setup) (rules : Rules) (script rest : List Said) (count number : ℕ) (reason : Illegal) → rest ≡ drop count script → illegal_event_from setup rules (past_after setup script count) (count + 1) rest ≡ Some (number, reason) → IsRefused setup rules script count number reason
unfolding walk_step
refused_from setup rules script [] count number reason left is = absurd (some_is_none (sym is))
refused_from setup rules script (event ∷ more) count number reason left is =
    let next = is_next script count event more left in
    refused_step setup rules script count event more number reason (why setup rules (past_after setup script count) event) next refl
    (refused_from setup rules script more (count + 1) number reason next.left) is

legal_step : (setup : Setup) (rules : Rules) (script : List Said) (count : ℕ) (event : Said) (more : List Said) (found : Option Illegal) → IsNext script count event more → why setup rules (past_after setup script count) event ≡ found → (illegal_event_from setup rules (past_after setup script (count + 1)) (count + 1 + 1) more ≡ None → AreLegalFrom setup rules script (count + 1)) → walk_step setup rules (past_after setup script count) (count + 1) event more found ≡ None → AreLegalFrom setup rules script count
unfolding walk_step AreLegalFrom
legal_step setup rules script count event more (Some first) next here later is = absurd (some_is_none is)
legal_step setup rules script count event more None next here later is =
    here_or_later setup rules script count (length script) (why_next setup rules script count event None next.next here)
    (later (ap (λ p. illegal_event_from setup rules p (count + 1 + 1) more) (past_more setup script count event next.next) ∙ is))

left_over : (script : List Said) (count : ℕ) → count < length script → [] ≡ drop count script → ⊥
left_over [] count within left = omega (arith, within)
left_over (event ∷ rest) count within left = no_event (get_or (event ∷ rest) count event) (drop (count + 1) (event ∷ rest)) (sym (left ∙ drop_more (event ∷ rest) count event within))

no_more : (event : List Said) (count : ℕ) → [] ≡ drop count event → length event ≤ count
no_more script count left = elim (cases_lt count (length script)) [
  | inr over ↦ over
  | inl within ↦ absurd (left_over script count within left)
]

legal_from : (setup : Setup) (rules : Rules) (script rest : List Said) (count : ℕ) → rest ≡ drop count script → illegal_event_from setup rules (past_after setup script count) (count + 1) rest ≡ None → AreLegalFrom setup rules script count
unfolding walk_step AreLegalFrom
legal_from setup rules script [] count left is = λ index least most. absurd (omega (arith, no_more script count left, least, most))
legal_from setup rules script (event ∷ more) count left is =
    let next = is_next script count event more left in
    legal_step setup rules script count event more (why setup rules (past_after setup script count) event) next refl
    (legal_from setup rules script more (count + 1) next.left) is

-- a script that the search refuses at an event has its first illegal event there
pub refused_first : (setup : Setup) (rules : Rules) (script : List Said) (index : ℕ) (reason : Illegal) → illegal_event setup rules script ≡ Some (index + 1, reason) → IsFirstIllegal setup rules script index reason
refused_first setup rules script index reason is =
    let found = refused_from setup rules script script 0 (index + 1) reason refl is in
    let same : found.index ≡ index = omega (arith, found.counted) in
    record {
      legal_before = λ earlier before. found.legal earlier (omega arith) (omega (arith, same, before));
      illegal = ap (why_at setup rules script) (sym same) ∙ found.illegal;
    }

-- and one that it does not refuse is legal
pub legal_whole : (setup : Setup) (rules : Rules) (script : List Said) → illegal_event setup rules script ≡ None → HasNoIllegalEvent setup rules script
unfolding AreLegalFrom
legal_whole setup rules script is = λ index within. legal_from setup rules script script 0 refl is index (omega arith) within

pub said_numbered : (events : List Event) → map (λ (event : Numbered). event.1) (map numbered events) ≡ map said_of events
said_numbered [] = refl
said_numbered (event ∷ rest) = ap (λ (said : List Said). said_of event ∷ said) (said_numbered rest)

-- after all its events a script is at its end
pub at_end : (setup : Setup) (script : List Said) → past_after setup script (length script) ≡ past_at_end setup script
at_end setup script = ap (λ events. past_of setup (reverse events)) (take_all (length script) script (omega arith))
