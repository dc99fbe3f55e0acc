-- The events of a script so far, and the next one.
use Rattle.std.proofs.Common.{List, Some, [], ap, arith, drop, get_or, inl, inr, length, map, reverse, slice_get, sym, take, ℕ, ◌+◌, ◌<◌, ◌∙◌, ◌∷◌, ◌≡◌, ◌≤◌}
use Rattle.std.specs.Option.{option_map}
use Rattle.std.proofs.lemmas.Bool.{cases_lt}
use Rattle.std.proofs.lemmas.List.{drop_all, drop_more, length-map, reverse-append, take_all, take_more}
use Rattle.std.proofs.lemmas.Option.{get_or_from_slice_get, slice_get-get_or, slice_get-map, slice_get_within}
use Rattle.play_event.specs.declared.event.Event.{Event}
use Rattle.play_event.specs.Said.{Said, said_of}

-- the first events of a script, the newest first
abbrev pub so_far : List Event → ℕ → List Said
so_far script count = reverse (take count (map said_of script))

-- the events that are left begin with the next one
pub record IsNext (script : List Event) (count : ℕ) (event : Event) (more : List Event) : Type 0 where
  pub within : count < length script
  pub here : slice_get script count ≡ Some event
  pub left : more ≡ drop (count + 1) script
  pub longer : so_far script (count + 1) ≡ said_of event ∷ so_far script count

first_of : Event → List Event → Event
first_of other [] = other
first_of other (event ∷ more) = event

behind_first : List Event → List Event
behind_first [] = []
behind_first (event ∷ more) = more

no_event : (event : Event) (more : List Event) → event ∷ more ≡ [] → ⊥
no_event event more is = cc

pub said_next : (script : List Event) (count : ℕ) (event : Event) → slice_get script count ≡ Some event → slice_get (map said_of script) count ≡ Some (said_of event)
said_next script count event is = slice_get-map said_of script count ∙ ap (option_map said_of) is

more_said : (events : List Said) (count : ℕ) (event : Said) → slice_get events count ≡ Some event → reverse (take (count + 1) events) ≡ event ∷ reverse (take count events)
more_said events count event is =
    ap reverse (take_more events count event (slice_get_within events count event is))
    ∙ reverse-append (take count events) (get_or events count event ∷ [])
    ∙ ap (λ e. e ∷ reverse (take count events)) (get_or_from_slice_get events count event event is)

pub is_next : (script : List Event) (count : ℕ) (event : Event) (more : List Event) → event ∷ more ≡ drop count script → IsNext script count event more
unfolding first_of behind_first
is_next script count event more left = elim (cases_lt count (length script)) [
  | inr over ↦ absurd (no_event event more (left ∙ drop_all count script over))
  | inl within ↦
      let cut = left ∙ drop_more script count event within in
      let at : slice_get script count ≡ Some event = slice_get-get_or script count event within ∙ ap Some (sym (ap (first_of event) cut)) in
      record {
        within = within;
        here = at;
        left = ap behind_first cut;
        longer = more_said (map said_of script) count (said_of event) (said_next script count event at);
      }
]

-- no event is left
pub none_left : (script : List Event) (count : ℕ) → [] ≡ drop count script → length script ≤ count
none_left script count left = elim (cases_lt count (length script)) [
  | inr over ↦ over
  | inl within ↦ absurd (nothing script count within left)
]
  where
    nothing : (script : List Event) (count : ℕ) → count < length script → [] ≡ drop count script → ⊥
    nothing [] count within left = omega (arith, within)
    nothing (event ∷ rest) count within left = no_event (get_or (event ∷ rest) count event) (drop (count + 1) (event ∷ rest)) (sym (left ∙ drop_more (event ∷ rest) count event within))

-- all events are played
pub all_played : (script : List Event) (count : ℕ) → length script ≤ count → so_far script count ≡ reverse (map said_of script)
all_played script count over = ap reverse (take_all count (map said_of script) (omega (arith, over, length-map script said_of)))
