-- What is said of notes, name by name and number by number.
use Rattle.std.proofs.Common.{◌≡◌, ◌≢◌, ℕ, zero, suc, ◌+◌, ◌-◌, ◌≤◌, ◌<◌, ◌||◌, Bool, true, false, cond, bytes_eq, List, [], ◌∷◌, map, take, get_or, slice_index_or, Option, Some, None, IfSome, option_map, option_and_then, unwrap_or, decimal, refl, sym, ap, ap₂, subst, ◌∙◌, inl, inr, arith}
use Rattle.std.specs.List.{list_any, range_with_len}
use Rattle.std.proofs.lemmas.Bool.{cases_lt}
use Rattle.std.proofs.lemmas.List.{get_or-take, get_or_past, length-take}
use Rattle.std.proofs.lemmas.List.FromFn.{get_or-map-range_with_len}
use Rattle.std.proofs.lemmas.Slice.Eq.{bytes_eq-Decides}
use Rattle.chip_ledger.specs.Seat.{seats_of}
use Rattle.hand_canon.specs.AllowedNotes.{non_default_seats}
use Rattle.hand_canon.specs.declared.notes.Clock.{Clock}
use Rattle.hand_canon.specs.declared.notes.TextNotes.{TextNotes}
use Rattle.card_set.proofs.Bytes.{different_bytes}
use Rattle.card_set.proofs.NumbersOfRange.{map_agree}
use Rattle.card_set.proofs.Tests.{neither}
use Rattle.hand_canon.specs.SaidNotes.{SaidNotes, hand_name_noted, name_said, numbers_said}

-- ---- notes of their parts

-- notes are the same, part by part
pub record HaveSameNotes (a b : SaidNotes) : Type 0 where
  pub names : a.names ≡ b.names
  pub seats : a.seats ≡ b.seats
  pub seat_count : a.seat_count ≡ b.seat_count
  pub hand : a.hand ≡ b.hand
  pub texts : a.texts ≡ b.texts
  pub year : a.year ≡ b.year
  pub month : a.month ≡ b.month
  pub day : a.day ≡ b.day
  pub time : a.time ≡ b.time
  pub zone : a.zone ≡ b.zone

notes_from : List (Option (List ℕ)) → Option (List ℕ) → Option ℕ → Option (List ℕ) → TextNotes → Option ℕ → Option ℕ → Option ℕ → Option Clock → Option (List ℕ) → SaidNotes
notes_from names seats seat_count hand texts year month day time zone =
    record {
      names = names;
      seats = seats;
      seat_count = seat_count;
      hand = hand;
      texts = texts;
      year = year;
      month = month;
      day = day;
      time = time;
      zone = zone;
    }

notes_parts : (a : SaidNotes) → a ≡ notes_from a.names a.seats a.seat_count a.hand a.texts a.year a.month a.day a.time a.zone
unfolding notes_from
notes_parts a = refl

pub notes_same : (a b : SaidNotes) → HaveSameNotes a b → a ≡ b
notes_same a b same =
    cc (
      notes_parts a,
      notes_parts b,
      same.names,
      same.seats,
      same.seat_count,
      same.hand,
      same.texts,
      same.year,
      same.month,
      same.day,
      same.time,
      same.zone,
    )

-- ---- names

-- names of this number of seats that are these, seat by seat
pub names_along : (count : ℕ) (names : List (Option (List ℕ))) (g : ℕ → Option (List ℕ)) → take count names ≡ map g (seats_of count) → map (name_said names) (seats_of count) ≡ map g (seats_of count)
names_along count names g same =
    map_agree (name_said names) g 1 count (λ seat first last.
    sym (get_or-take count names (seat - 1) None (omega (arith, first, last)))
    ∙ ap (λ (all : List (Option (List ℕ))). get_or all (seat - 1) None) same
    ∙ get_or-map-range_with_len g 1 count (seat - 1) seat None (omega (arith, first, last)) (omega (arith, first)))

-- what is equal along the seats is equal at each of them
pub at_seat : {B : Type 0} (f g : ℕ → B) (d : B) (count seat : ℕ) → map f (seats_of count) ≡ map g (seats_of count) → 1 ≤ seat → seat ≤ count → f seat ≡ g seat
at_seat f g d count seat same first last =
    sym (get_or-map-range_with_len f 1 count (seat - 1) seat d (omega (arith, first, last)) (omega (arith, first)))
    ∙ ap (λ all. get_or all (seat - 1) d) same
    ∙ get_or-map-range_with_len g 1 count (seat - 1) seat d (omega (arith, first, last)) (omega (arith, first))

-- a test that fails if nothing is said, on names that are alike, one by one
pub tests_alike : (p : Option (List ℕ) → Bool) → p None ≡ false → (xs ys : List (Option (List ℕ))) → ((index : ℕ) → slice_index_or xs index None ≡ slice_index_or ys index None) → list_any p xs ≡ list_any p ys
tests_alike p none [] [] same = refl
tests_alike p none [] (y ∷ ys) same =
    let first : None ≡ y = same 0 in
    cc (ap p first, none, tests_alike p none [] ys (λ index. same (suc index)))
tests_alike p none (x ∷ xs) [] same =
    let first : x ≡ None = same 0 in
    cc (ap p first, none, tests_alike p none xs [] (λ index. same (suc index)))
tests_alike p none (x ∷ xs) (y ∷ ys) same = ap₂ (λ first rest. p first || rest) (same 0) (tests_alike p none xs ys (λ index. same (suc index)))

-- if it fails on all names, it fails on each
pub fails_at : (p : Option (List ℕ) → Bool) → p None ≡ false → (xs : List (Option (List ℕ))) → list_any p xs ≡ false → (index : ℕ) → p (slice_index_or xs index None) ≡ false
fails_at p none [] fails index = none
fails_at p none (x ∷ xs) fails zero = (neither (p x) (list_any p xs) fails).0
fails_at p none (x ∷ xs) fails (suc index) = fails_at p none xs (neither (p x) (list_any p xs) fails).1 index

pub fails_all : (p : Option (List ℕ) → Bool) → (xs : List (Option (List ℕ))) → ((index : ℕ) → p (slice_index_or xs index None) ≡ false) → list_any p xs ≡ false
fails_all p [] each = refl
fails_all p (x ∷ xs) each = ap₂ (λ (first rest : Bool). first || rest) (each 0) (fails_all p xs (λ index. each (suc index)))

module _ (count : ℕ) (xs ys : List (Option (List ℕ))) (same : map (name_said xs) (seats_of count) ≡ map (name_said ys) (seats_of count)) where
  pub names_at : (index : ℕ) → index < count → slice_index_or xs index None ≡ slice_index_or ys index None
  names_at index within =
      let here : index + 1 - 1 ≡ index = omega arith in
      subst (λ (k : ℕ). slice_index_or xs k None ≡ slice_index_or ys k None) here (at_seat (name_said xs) (name_said ys) None count (index + 1) same (omega arith) (omega (arith, within)))

  -- the names of the first seats are alike
  pub taken_alike : (index : ℕ) → slice_index_or (take count xs) index None ≡ slice_index_or (take count ys) index None
  taken_alike index = elim (cases_lt index count) [
    | inl within ↦ get_or-take count xs index None within ∙ names_at index within ∙ sym (get_or-take count ys index None within)
    | inr late ↦
        get_or_past (take count xs) index None (omega (arith, late, length-take count xs))
        ∙ sym (get_or_past (take count ys) index None (omega (arith, late, length-take count ys)))
  ]

  -- and so are all, if there are no more
  pub all_alike : ((index : ℕ) → count ≤ index → slice_index_or xs index None ≡ None) → ((index : ℕ) → count ≤ index → slice_index_or ys index None ≡ None)
      → (index : ℕ) → slice_index_or xs index None ≡ slice_index_or ys index None
  all_alike no_more none_more index = elim (cases_lt index count) [
    | inl within ↦ names_at index within
    | inr late ↦ no_more index late ∙ sym (none_more index late)
  ]

-- ---- numbers of seats

-- numbers that are not the default ones of this number of seats
abbrev pub AreUnusual : ℕ → Option (List ℕ) → Type 0
AreUnusual count numbers = IfSome numbers (λ said. take count said ≢ range_with_len 1 count)

usual_twice : (count : ℕ) (numbers : List ℕ) → option_and_then (non_default_seats count) (non_default_seats count numbers) ≡ non_default_seats count numbers
usual_twice count numbers = by_test (bytes_eq numbers (range_with_len 1 count)) refl
  where
    by_test : (usual : Bool) → bytes_eq numbers (range_with_len 1 count) ≡ usual → option_and_then (non_default_seats count) (cond usual None (Some numbers)) ≡ cond usual None (Some numbers)
    by_test true is = refl
    by_test false is = ap (λ (b : Bool). cond b None (Some numbers)) is

pub said_taken : (count : ℕ) (x : Option (List ℕ)) → numbers_said count x ≡ option_and_then (non_default_seats count) (option_map (take count) x)
said_taken count None = refl
said_taken count (Some numbers) = refl

said_twice : (count : ℕ) (x : Option (List ℕ)) → option_and_then (non_default_seats count) (numbers_said count x) ≡ numbers_said count x
said_twice count None = refl
said_twice count (Some numbers) = usual_twice count (take count numbers)

-- numbers that are read of those that are said
pub numbers_again : (count : ℕ) (x y : Option (List ℕ)) → option_map (take count) x ≡ numbers_said count y → numbers_said count x ≡ numbers_said count y
numbers_again count x y same = said_taken count x ∙ ap (option_and_then (non_default_seats count)) same ∙ said_twice count y

-- numbers that are not the default are said
pub unusual_said : (count : ℕ) (x : Option (List ℕ)) → AreUnusual count x → numbers_said count x ≡ option_map (take count) x
unusual_said count None unusual = refl
unusual_said count (Some numbers) unusual =
    ap (λ (b : Bool). cond b None (Some (take count numbers))) (different_bytes (take count numbers) (range_with_len 1 count) unusual)

-- ---- the name of the hand

pub label_twice : (place : ℕ) (said : Option (List ℕ)) → hand_name_noted place (hand_name_noted place said) ≡ hand_name_noted place said
label_twice place None = refl
label_twice place (Some text) = by_test (bytes_eq text (decimal place)) refl
  where
    by_test : (same : Bool) → bytes_eq text (decimal place) ≡ same → hand_name_noted place (cond same None (Some text)) ≡ cond same None (Some text)
    by_test true is = refl
    by_test false is = ap (λ (b : Bool). cond b None (Some text)) is

-- a name, or else the place
pub label_or_place : (place : ℕ) (said : Option (List ℕ)) → unwrap_or said (decimal place) ≡ unwrap_or (hand_name_noted place said) (decimal place)
label_or_place place None = refl
label_or_place place (Some text) = by_test (bytes_eq text (decimal place)) refl
  where
    by_test : (same : Bool) → bytes_eq text (decimal place) ≡ same → text ≡ unwrap_or (cond same None (Some text)) (decimal place)
    by_test true is = (bytes_eq-Decides text (decimal place)).0 is
    by_test false is = refl
