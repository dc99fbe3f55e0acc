-- A script grows by the packed form of an event, and a cursor over it gives its events one after
-- another.
use Rattle.std.proofs.Common.{◌≡◌, ℕ, ◌+◌, ◌<◌, ◌≤◌, List, [], ◌∷◌, ◌++◌, length, drop, slice_get, Option, Some, None, refl, sym, ◌∙◌, ap, arith, append_assoc, length-append}
use Rattle.std.specs.Prelude.{IfNone, IfSome}
use Rattle.std.proofs.lemmas.Option.{some_pair_parts}
use Rattle.std.proofs.lemmas.List.{append-nil}
use Rattle.play_event.specs.declared.event.Event.{Event}
use Rattle.play_event.specs.EventNumbers.{IsEvent, AreEvents}
use Rattle.play_event.specs.PackedForm.{packed_event, packed_events}
use Rattle.play_event.specs.PackedReading.{event_at}
use Rattle.play_event.specs.Said.{Numbered, numbered}
use Rattle.play_event.specs.PackedScript.{PackedScript}
use Rattle.play_event.specs.PackedOnce.{event_again, event_same, events_same}
use Rattle.card_set.proofs.Entries.{drop_first}
use Rattle.card_set.proofs.Lists.{not_past}

-- if bytes are the packed form of events, these are the events of the bytes
pub events_are : (bytes : List ℕ) (script : PackedScript bytes) (events : List Event) → AreEvents events → bytes ≡ packed_events events → script.events ≡ events
events_are bytes script events fit packed = events_same script.events events script.fit fit (sym script.packed ∙ packed)

-- the same bytes have the same events
pub unchanged_events : (bytes : List ℕ) (script : PackedScript bytes) (events : List Event) → script.events ≡ events → (others : List ℕ) → others ≡ bytes → (other : PackedScript others) → other.events ≡ events
unchanged_events bytes script events is others same other = events_are others other script.events script.fit (same ∙ script.packed) ∙ is

-- the script of bytes that are equal
abbrev pub kept : (bytes : List ℕ) (script : PackedScript bytes) (other : List ℕ) → other ≡ bytes → PackedScript other
kept bytes script other same = record { events = script.events; fit = script.fit; packed = same ∙ script.packed }

-- ---- one more event

pub packed_events-push : (events : List Event) (event : Event) → packed_events (events ++ event ∷ []) ≡ packed_events events ++ packed_event event
packed_events-push [] event = append-nil (packed_event event)
packed_events-push (first ∷ rest) event =
    ap (λ (l : List ℕ). packed_event first ++ l) (packed_events-push rest event) ∙ sym (append_assoc (packed_event first) (packed_events rest) (packed_event event))

pub AreEvents-push : (events : List Event) (event : Event) → AreEvents events → IsEvent event → AreEvents (events ++ event ∷ [])
AreEvents-push [] event fit one = (one, tt)
AreEvents-push (first ∷ rest) event fit one = (fit.0, AreEvents-push rest event fit.1 one)

-- the script of bytes to which the packed form of an event was appended
abbrev pub pushed : (bytes : List ℕ) (script : PackedScript bytes) (event : Event) (form longer : List ℕ) → IsEvent event → form ≡ packed_event event → longer ≡ bytes ++ form → PackedScript longer
pushed bytes script event form longer fits is grown = record {
  events = script.events ++ event ∷ [];
  fit = AreEvents-push script.events event script.fit fits;
  packed =
      grown
      ∙ ap (λ (l : List ℕ). l ++ form) script.packed
      ∙ ap (λ (l : List ℕ). packed_events script.events ++ l) is
      ∙ sym (packed_events-push script.events event);
}

-- its events are those of before, then the event
pub pushed_events : (bytes : List ℕ) (script : PackedScript bytes) (events : List Event) → script.events ≡ events → (event : Event) (form longer : List ℕ) → IsEvent event → form ≡ packed_event event → longer ≡ bytes ++ form → (other : PackedScript longer) → other.events ≡ events ++ event ∷ []
pushed_events bytes script events is event form longer fits form_is grown other =
    let made = pushed bytes script event form longer fits form_is grown in
    events_are longer other (script.events ++ event ∷ []) made.fit made.packed ∙ ap (λ (l : List Event). l ++ event ∷ []) is

-- an event takes at least one byte
pub length-packed_events : (events : List Event) → length events ≤ length (packed_events events)
unfolding packed_event
length-packed_events [] = omega arith
length-packed_events (event ∷ rest) = omega (arith, length-packed_events rest, length-append (packed_event event) (packed_events rest))

-- ---- the next event

-- events are this one and the later ones, whose packed form the rest is
pub record Begins (events : List Event) (event : Event) (rest : List ℕ) : Type 0 where
  pub later : List Event
  pub is : events ≡ event ∷ later
  pub fit : AreEvents later
  pub packed : rest ≡ packed_events later

nothing_read : (found : Numbered × List ℕ) → Some found ≡ None → ⊥
nothing_read found is = absurd cc

begins : (bytes : List ℕ) (events : List Event) (event : Event) (rest : List ℕ) → AreEvents events → bytes ≡ packed_events events → Some (numbered event, rest) ≡ event_at bytes → Begins events event rest
unfolding event_at
begins bytes [] event rest fit packed read =
    absurd (nothing_read (numbered event, rest) (read ∙ ap event_at packed))
begins bytes (first ∷ later) event rest fit packed read =
    let both : Some (numbered event, rest) ≡ Some (numbered first, packed_events later) =
    read ∙ ap event_at packed ∙ event_again first (packed_events later) fit.0 in
    let parts = some_pair_parts (numbered event) (numbered first) rest (packed_events later) both in
    record { later = later; is = ap (λ e. e ∷ later) (event_same first event (sym parts.0)); fit = fit.1; packed = parts.1 }

-- the event that was read is the first of the script
pub first_read : (bytes : List ℕ) (script : PackedScript bytes) (event : Event) (rest : List ℕ) → Some (numbered event, rest) ≡ event_at bytes → Begins script.events event rest
first_read bytes script event rest read = begins bytes script.events event rest script.fit script.packed read

-- the script of the bytes after the event
abbrev pub rest_script : (events : List Event) (event : Event) (rest : List ℕ) → Begins events event rest → PackedScript rest
rest_script events event rest begun = record { events = begun.later; fit = begun.fit; packed = begun.packed }

-- the event that was read comes before the events of the bytes after it
pub first_given : (bytes : List ℕ) (script : PackedScript bytes) (events : List Event) → script.events ≡ events → (event : Event) (rest : List ℕ) → Some (numbered event, rest) ≡ event_at bytes → (other : PackedScript rest) → events ≡ event ∷ other.events
first_given bytes script events is event rest read other =
    let begun = first_read bytes script event rest read in
    sym is ∙ begun.is ∙ ap (λ later. event ∷ later) (sym (events_are rest other begun.later begun.fit begun.packed))

-- if no event is read, there is none
nothing_left : (bytes : List ℕ) (events : List Event) → AreEvents events → bytes ≡ packed_events events → None ≡ event_at bytes → events ≡ []
nothing_left bytes [] fit packed read = refl
nothing_left bytes (first ∷ later) fit packed read =
    absurd (nothing_read (numbered first, packed_events later) (sym (read ∙ ap event_at packed ∙ event_again first (packed_events later) fit.0)))

pub none_read : (bytes : List ℕ) (script : PackedScript bytes) → None ≡ event_at bytes → script.events ≡ []
none_read bytes script read = nothing_left bytes script.events script.fit script.packed read

-- ---- the event at an index

-- a cursor before the event at this index has given what came before it, and still has the rest
pub record Stands {A : Type 0} (xs : List A) (index : ℕ) (found : Option A) (here rest : List A) : Type 0 where
  pub stands : here ≡ drop index xs
  pub first : IfSome found (λ x. here ≡ x ∷ rest)
  pub end : IfNone found ((here ≡ []) × (rest ≡ []))

pub passes : {A : Type 0} (xs : List A) (index : ℕ) (found : Option A) (here rest : List A) → index < length xs → Stands xs index found here rest → rest ≡ drop (index + 1) xs
passes xs index (Some x) here rest within before = sym (drop_first xs rest index x (sym before.stands ∙ before.first)).1
passes xs index None here rest within before = absurd (not_past xs index here within before.stands before.end.0)

pub found_at : {A : Type 0} (xs : List A) (index : ℕ) (found : Option A) (here rest : List A) (x : A) → index < length xs → Stands xs index found here rest → found ≡ Some x → slice_get xs index ≡ Some x
found_at xs index (Some y) here rest x within before is = (drop_first xs rest index y (sym before.stands ∙ before.first)).0 ∙ is
found_at xs index None here rest x within before is = absurd (not_past xs index here within before.stands before.end.0)
