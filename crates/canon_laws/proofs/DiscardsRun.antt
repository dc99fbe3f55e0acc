-- The canonical discards of a draw are legal one after another, and take what the script's discards of that draw took.
use Rattle.std.proofs.Common.{◌≡◌, ℕ, ◌+◌, ◌≤◌, ◌<◌, Bool, true, false, ◌&&◌, ◌||◌, ◌==◌, not, nat_lt, inl, inr, Option, Some, None, List, [], ◌∷◌, refl, sym, ◌∙◌, ap, arith, if◌then◌else◌}
use Rattle.std.proofs.lemmas.Bool.{or_left, or_right, or_from, and_right, eqb-true, eq-eqb, ne_eqb, cases_eq, cases_lt, both_ways, lt-ltb, le-ltb}
use Rattle.play_event.specs.Past.{Move}
use Rattle.play_event.specs.Seats.{is_live}
use Rattle.play_event.specs.Places.{Place, is_held_by, is_same_owner}
use Rattle.play_event.specs.Taken.{may_repeat, is_gone_before, is_one_card}
use Rattle.play_event.specs.Laws.{IsAmong, NoneClash}
use Rattle.card_set.proofs.Tests.{false_true}
use Rattle.play_laws.specs.LegalPlaces.{has_owner_folded, UnknownsFirst}
use Rattle.canon_laws.proofs.Mirrors.{AreMirrored}
use Rattle.canon_laws.proofs.MatchedNames.{TakenTogether}
use Rattle.play_laws.proofs.PlaceGroups.{AreRising, one_number}
use Rattle.play_laws.proofs.QuietEvents.{held_parts}
use Rattle.play_laws.proofs.DiscardCounts.{is_out_of}

-- if two held cards are the same, so are their places
pub together : (seat : ℕ) (taken : Place → Bool) (placed : List Place) → NoneClash placed → AreRising placed → TakenTogether (is_held_by seat) taken placed
together seat taken placed none up a b in_a in_b held_a held_b one = elim (cases_eq a.number b.number) [
  | inl same ↦ ap taken (one_number placed a b up in_a in_b same)
  | inr differ ↦
      let no_a : may_repeat a b ≡ false = and_right a.past_deck (is_gone_before b.gone_after a.number) (ap (λ g. is_gone_before g a.number) (held_parts seat b held_b).0) in
      let no_b : may_repeat b a ≡ false = and_right b.past_deck (is_gone_before a.gone_after b.number) (ap (λ g. is_gone_before g b.number) (held_parts seat a held_a).0) in
      absurd (both_ways (is_one_card a.slot b.slot) (sym (ap (λ x. not (x || may_repeat b a) && is_one_card a.slot b.slot) no_a ∙ ap (λ x. not x && is_one_card a.slot b.slot) no_b) ∙ none a b in_a in_b differ) one)
]

-- discarded before a street, or on it by a seat below
abbrev pub is_below : ℕ → Option ℕ → Bool
is_below first (Some seat) = nat_lt seat first
is_below first None = false

-- out by a street, up to this seat of its draw
abbrev pub is_out_to : ℕ → ℕ → Place → Bool
is_out_to street first place = nat_lt 0 place.discarded && (nat_lt place.discarded street || ((place.discarded == street) && is_below first place.owner))

-- tests that agree mirror in the same way
pub mirrored_as : (moves : List Move) (out other : Place → Bool) (mines finals : List Place) → ((final : Place) → IsAmong finals final → out final ≡ other final) → AreMirrored moves out mines finals → AreMirrored moves other mines finals
mirrored_as moves out other [] [] same mirrored = tt
mirrored_as moves out other [] (final ∷ finals) same mirrored = absurd mirrored
mirrored_as moves out other (mine ∷ mines) [] same mirrored = absurd mirrored
mirrored_as moves out other (mine ∷ mines) (final ∷ finals) same mirrored =
    let it = mirrored.0 in (
      record { owner = it.owner; street = it.street; index = it.index; slot = it.slot; discarded = it.discarded ∙ ap (λ b. if b then final.discarded else 0) (same final (inl refl)); gone_after = it.gone_after ∙ ap (λ b. b || has_owner_folded moves final.owner) (same final (inl refl)) },
      mirrored_as moves out other mines finals (λ f among. same f (inr among)) mirrored.1,
    )

-- what the discards of a draw need of the final places
pub record IsDrawn (seats : ℕ) (moves : List Move) (street : ℕ) (finals : List Place) : Type 0 where
  pub some : 1 ≤ street
  pub early : (final : Place) → IsAmong finals final → final.street < street
  pub by_live : (final : Place) (seat : ℕ) → IsAmong finals final → is_out_of street seat final ≡ true → (1 ≤ seat) × ((seat ≤ seats) × (is_live moves seat ≡ true))
  pub unknowns : UnknownsFirst finals

below_next : (seat first : ℕ) → (nat_lt seat (first + 1)) ≡ (nat_lt seat first || (seat == first))
below_next seat first = elim (cases_lt seat first) [
  | inl less ↦ lt-ltb seat (first + 1) (omega (arith, less)) ∙ sym (or_left (nat_lt seat first) (seat == first) (lt-ltb seat first less))
  | inr more ↦ elim (cases_eq seat first) [
    | inl same ↦ lt-ltb seat (first + 1) (omega (arith, same)) ∙ sym (or_right (nat_lt seat first) (seat == first) (eq-eqb seat first same))
    | inr differ ↦ le-ltb seat (first + 1) (above seat first more differ) ∙ sym (or_from (nat_lt seat first) (seat == first) (le-ltb seat first more) (ne_eqb seat first differ))
  ]
]
  where
    above : (seat first : ℕ) → first ≤ seat → (seat ≡ first → ⊥) → first + 1 ≤ seat
    above seat first more differ = elim (cases_lt first seat) [ inl less ↦ omega (arith, less) | inr same ↦ absurd (differ (omega (arith, same, more))) ]

-- the next seat
pub out_next : (street first : ℕ) (place : Place) → 1 ≤ street → (is_out_to street first place || is_out_of street first place) ≡ is_out_to street (first + 1) place
out_next street first place some = by_owner place.owner refl
  where
    spread : (zero_less less here below same : Bool) → (here ≡ true → zero_less ≡ true) → ((zero_less && (less || (here && below))) || (same && here)) ≡ (zero_less && (less || (here && (below || same))))
    spread true less true true same pos = by_less less
      where
        by_less : (l : Bool) → ((l || true) || (same && true)) ≡ (l || true)
        by_less true = refl
        by_less false = refl
    spread true less true false true pos = by_less less
      where
        by_less : (l : Bool) → ((l || false) || true) ≡ (l || true)
        by_less true = refl
        by_less false = refl
    spread true less true false false pos = by_less less
      where
        by_less : (l : Bool) → ((l || false) || false) ≡ (l || false)
        by_less true = refl
        by_less false = refl
    spread true less false below same pos = by_less less same
      where
        by_less : (l s : Bool) → ((l || false) || (s && false)) ≡ (l || false)
        by_less true s = refl
        by_less false true = refl
        by_less false false = refl
    spread false less true below same pos = false_true (pos refl)
    spread false less false below true pos = refl
    spread false less false below false pos = refl

    by_owner : (owner : Option ℕ) → place.owner ≡ owner → (is_out_to street first place || is_out_of street first place) ≡ is_out_to street (first + 1) place
    by_owner (Some seat) mine =
        let pos : (place.discarded == street) ≡ true → nat_lt 0 place.discarded ≡ true = λ here. lt-ltb 0 place.discarded (omega (arith, eqb-true place.discarded street here, some)) in
        ap (λ o. (nat_lt 0 place.discarded && (nat_lt place.discarded street || ((place.discarded == street) && is_below first o))) || (is_same_owner o (Some first) && (place.discarded == street))) mine
        ∙ spread (nat_lt 0 place.discarded) (nat_lt place.discarded street) (place.discarded == street) (nat_lt seat first) (seat == first) pos
        ∙ ap (λ b. nat_lt 0 place.discarded && (nat_lt place.discarded street || ((place.discarded == street) && b))) (sym (below_next seat first))
        ∙ ap (λ o. nat_lt 0 place.discarded && (nat_lt place.discarded street || ((place.discarded == street) && is_below (first + 1) o))) (sym mine)
    by_owner None mine =
        let pos : (place.discarded == street) ≡ true → nat_lt 0 place.discarded ≡ true = λ here. lt-ltb 0 place.discarded (omega (arith, eqb-true place.discarded street here, some)) in
        ap (λ o. (nat_lt 0 place.discarded && (nat_lt place.discarded street || ((place.discarded == street) && is_below first o))) || (is_same_owner o (Some first) && (place.discarded == street))) mine
        ∙ spread (nat_lt 0 place.discarded) (nat_lt place.discarded street) (place.discarded == street) false false pos
        ∙ ap (λ o. nat_lt 0 place.discarded && (nat_lt place.discarded street || ((place.discarded == street) && is_below (first + 1) o))) (sym mine)
