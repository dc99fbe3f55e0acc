-- What each notation keeps of some notes is a part of them, and includes every part that it can
-- express whole.
-- This is a proof: no reader needs it.
use Rattle.std.proofs.Common.{◌≡◌, ℕ, Bool, true, false, cond, bytes_eq, codes, List, [], ◌∷◌, map, Option, Some, None, option_and_then, option_map, refl, ap, subst, ◌∙◌}
use Rattle.std.proofs.lemmas.Slice.Eq.{bytes_eq-Decides}
use Rattle.acpc_format.specs.Again.{kept_name}
use Rattle.acpc_format.specs.KeptNotes.{kept_in_acpc, number_spelled}
use Rattle.acpc_format.specs.Names.{is_spelled_hand, is_spelled_name}
use Rattle.hand_canon.specs.NoteTable.{no_texts, text_named, text_names, texts_listed}
use Rattle.hand_canon.specs.SaidNotes.{SaidNotes}
use Rattle.hand_canon.specs.declared.notes.NoteName.{NoteName}
use Rattle.hand_canon.specs.declared.notes.NoteName.TheVariants as names
use Rattle.hand_canon.specs.declared.notes.Clock.{Clock}
use Rattle.card_set.proofs.Options.{from_none_some}
use Rattle.ohh_format.specs.KeptNotes.{kept_in_ohh, moment_in_notes, numbers_round}
use Rattle.ohh_writing.specs.Moment.{moment_said}
use Rattle.ohh_writing.specs.Seating.{is_circular}
use Rattle.hand_canon.specs.declared.notes.Moment.{Moment}
use Rattle.phh_format.specs.KeptNotes.{kept_in_phh}
use Rattle.convert_core.specs.NoteParts.{ArePartOf, AreSaidThere, IsSaidThere}

-- a note that is said is said
said_here : {A : Type 0} (note : Option A) → IsSaidThere note note
said_here None = tt
said_here (Some value) = refl

names_here : (names : List (Option (List ℕ))) → AreSaidThere names names
names_here [] = tt
names_here (name ∷ names) = (said_here name, names_here names)

-- no texts are a part of all texts
no_text : (name : NoteName) (there : Option (List ℕ)) → IsSaidThere (text_named no_texts name) there
no_text names.Players there = tt
no_text name there = tt

nothing_there : (listed : List NoteName) (there : NoteName → Option (List ℕ))
    → AreSaidThere (map (text_named no_texts) listed) (map there listed)
nothing_there [] there = tt
nothing_there (name ∷ rest) there = (no_text name (there name), nothing_there rest there)

-- a note that is kept only if a test holds is said
said_if : {A : Type 0} (test : Bool) (value : A)
    → IsSaidThere (cond test (Some value) None) (Some value)
said_if true value = refl
said_if false value = tt

-- a note that is kept is also kept from a larger part
said_kept : {A : Type 0} (kept : Option A → Option A) (note whole : Option A) → kept note ≡ note
    → IsSaidThere note whole → IsSaidThere note (kept whole)
said_kept kept None whole same said = tt
said_kept kept (Some value) whole same said = ap kept said ∙ same

-- no note is said
none_said : {A : Type 0} (here there : Option A) → None ≡ here → IsSaidThere here there
none_said here there none = subst (λ said. IsSaidThere said there) none tt

-- ---- all notes

all_part : (notes : SaidNotes) → ArePartOf notes notes
all_part notes =
    record {
      names = names_here notes.names;
      seats = said_here notes.seats;
      seat_count = said_here notes.seat_count;
      hand = said_here notes.hand;
      texts = names_here (texts_listed notes.texts);
      year = said_here notes.year;
      month = said_here notes.month;
      day = said_here notes.day;
      time = said_here notes.time;
      zone = said_here notes.zone;
    }

pub part_in_phh : (notes : SaidNotes) → ArePartOf (kept_in_phh notes) notes
part_in_phh notes = all_part notes

pub most_in_phh : (part notes : SaidNotes) → ArePartOf part notes → kept_in_phh part ≡ part
    → ArePartOf part (kept_in_phh notes)
most_in_phh part notes of_it same = of_it

-- ---- numbers that go round, and a whole moment

numbers_part : (said : Option (List ℕ)) → IsSaidThere (option_and_then numbers_round said) said
numbers_part None = tt
numbers_part (Some numbers) = said_if (is_circular numbers) numbers

-- the parts of a moment are said in the notes
record AreMomentOf (moment : Option Moment) (y m d : Option ℕ) (t : Option Clock)
    (z : Option (List ℕ)) : Type 0 where
  year : IsSaidThere (option_map (λ (found : Moment). found.day.year) moment) y
  month : IsSaidThere (option_map (λ (found : Moment). found.day.month) moment) m
  day : IsSaidThere (option_map (λ (found : Moment). found.day.day) moment) d
  time : IsSaidThere (option_map (λ (found : Moment). found.time) moment) t
  zone : IsSaidThere (option_map (λ (found : Moment). codes "UTC") moment) z

moment_part : (y m d : Option ℕ) (t : Option Clock) (z : Option (List ℕ))
    → AreMomentOf (moment_said y m d t z) y m d t z
moment_part (Some y) (Some m) (Some d) (Some t) (Some z) = by_test (bytes_eq z (codes "UTC")) refl
  where
    by_test : (utc : Bool) → bytes_eq z (codes "UTC") ≡ utc
        → AreMomentOf (cond utc (Some
        (record { day = record { year = y; month = m; day = d }; time = t })) None)
        (Some y) (Some m) (Some d) (Some t) (Some z)
    by_test true is =
        record {
          year = refl;
          month = refl;
          day = refl;
          time = refl;
          zone = ap (λ (zone : List ℕ). Some zone) ((bytes_eq-Decides z (codes "UTC")).0 is);
        }
    by_test false is = record { year = tt; month = tt; day = tt; time = tt; zone = tt }
moment_part y m d t z = record { year = tt; month = tt; day = tt; time = tt; zone = tt }

pub part_in_ohh : (notes : SaidNotes) → ArePartOf (kept_in_ohh notes) notes
part_in_ohh notes =
    let moment = moment_part notes.year notes.month notes.day notes.time notes.zone in
    record {
      names = names_here notes.names;
      seats = numbers_part notes.seats;
      seat_count = said_here notes.seat_count;
      hand = said_here notes.hand;
      texts = names_here (texts_listed notes.texts);
      year = moment.year;
      month = moment.month;
      day = moment.day;
      time = moment.time;
      zone = moment.zone;
    }

-- a moment that is said here is said there as well
moment_there : (y m d : Option ℕ) (t : Option Clock) (z : Option (List ℕ))
    (year month day : Option ℕ) (time : Option Clock) (place : Option (List ℕ))
    → IsSaidThere y year → IsSaidThere m month → IsSaidThere d day → IsSaidThere t time
    → IsSaidThere z place → (found : Moment) → moment_said y m d t z ≡ Some found
    → moment_said year month day time place ≡ Some found
moment_there (Some y) (Some m) (Some d) (Some t) (Some z) year month day time place in_year in_month
    in_day in_time in_zone found is = rw (in_year, in_month, in_day, in_time, in_zone) is
moment_there y m d t z year month day time place in_year in_month in_day in_time in_zone found is =
    from_none_some is

-- a part of a moment that is kept is also kept from a larger part
part_there : {A : Type 0} (f : Moment → A) (said : Option A) (mine other : Option Moment)
    → ((m : Moment) → mine ≡ Some m → other ≡ Some m) → option_map f mine ≡ said
    → IsSaidThere said (option_map f other)
part_there f said None other there same = none_said said (option_map f other) same
part_there f said (Some m) other there same =
    subst (λ note. IsSaidThere note (option_map f other)) same (ap (option_map f) (there m refl))

pub most_in_ohh : (part notes : SaidNotes) → ArePartOf part notes → kept_in_ohh part ≡ part
    → ArePartOf part (kept_in_ohh notes)
most_in_ohh part notes of_it same =
    let mine = moment_in_notes part in
    let other = moment_in_notes notes in
    let there : (m : Moment) → moment_in_notes part ≡ Some m → moment_in_notes notes ≡ Some m =
    moment_there part.year part.month part.day part.time part.zone notes.year notes.month notes.day
    notes.time notes.zone of_it.year of_it.month of_it.day of_it.time of_it.zone in
    record {
      names = of_it.names;
      seats =
          said_kept (option_and_then numbers_round) part.seats notes.seats
          (ap (λ (n : SaidNotes). n.seats) same) of_it.seats;
      seat_count = of_it.seat_count;
      hand = of_it.hand;
      texts = of_it.texts;
      year =
          part_there (λ m. m.day.year) part.year mine other there
          (ap (λ (n : SaidNotes). n.year) same);
      month =
          part_there (λ m. m.day.month) part.month mine other there
          (ap (λ (n : SaidNotes). n.month) same);
      day =
          part_there (λ m. m.day.day) part.day mine other there
          (ap (λ (n : SaidNotes). n.day) same);
      time =
          part_there (λ m. m.time) part.time mine other there
          (ap (λ (n : SaidNotes). n.time) same);
      zone =
          part_there (λ m. codes "UTC") part.zone mine other there
          (ap (λ (n : SaidNotes). n.zone) same);
    }

-- ---- names and the number of a hand as a line writes them

name_part : (name : Option (List ℕ)) → IsSaidThere (kept_name name) name
name_part None = tt
name_part (Some text) = said_if (is_spelled_name text) text

names_part : (names : List (Option (List ℕ))) → AreSaidThere (map kept_name names) names
names_part [] = tt
names_part (name ∷ names) = (name_part name, names_part names)

number_part : (said : Option (List ℕ)) → IsSaidThere (option_and_then number_spelled said) said
number_part None = tt
number_part (Some text) = said_if (is_spelled_hand text) text

pub part_in_acpc : (notes : SaidNotes) → ArePartOf (kept_in_acpc notes) notes
part_in_acpc notes =
    record {
      names = names_part notes.names;
      seats = tt;
      seat_count = tt;
      hand = number_part notes.hand;
      texts = nothing_there text_names (text_named notes.texts);
      year = tt;
      month = tt;
      day = tt;
      time = tt;
      zone = tt;
    }

-- names that are kept are also kept from a larger part
names_kept : (here there : List (Option (List ℕ))) → map kept_name here ≡ here
    → AreSaidThere here there → AreSaidThere here (map kept_name there)
names_kept [] [] same said = tt
names_kept [] (other ∷ there) same said = said
names_kept (name ∷ here) [] same said = said
names_kept (name ∷ here) (other ∷ there) same said =
    let first : kept_name name ≡ name = cc (same) in
    let rest : map kept_name here ≡ here = cc (same) in
    (said_kept kept_name name other first said.0, names_kept here there rest said.1)

pub most_in_acpc : (part notes : SaidNotes) → ArePartOf part notes → kept_in_acpc part ≡ part
    → ArePartOf part (kept_in_acpc notes)
most_in_acpc part notes of_it same =
    record {
      names = names_kept part.names notes.names (ap (λ (n : SaidNotes). n.names) same) of_it.names;
      seats = none_said part.seats None (ap (λ (n : SaidNotes). n.seats) same);
      seat_count = none_said part.seat_count None (ap (λ (n : SaidNotes). n.seat_count) same);
      hand =
          said_kept (option_and_then number_spelled) part.hand notes.hand
          (ap (λ (n : SaidNotes). n.hand) same) of_it.hand;
      texts =
          subst (λ texts. AreSaidThere (texts_listed texts) (texts_listed no_texts))
          (ap (λ (n : SaidNotes). n.texts) same) (names_here (texts_listed no_texts));
      year = none_said part.year None (ap (λ (n : SaidNotes). n.year) same);
      month = none_said part.month None (ap (λ (n : SaidNotes). n.month) same);
      day = none_said part.day None (ap (λ (n : SaidNotes). n.day) same);
      time = none_said part.time None (ap (λ (n : SaidNotes). n.time) same);
      zone = none_said part.zone None (ap (λ (n : SaidNotes). n.zone) same);
    }
