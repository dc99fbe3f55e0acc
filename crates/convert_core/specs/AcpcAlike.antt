-- Under a game the bytes of a log say only one list of records, up to differences that cannot be
-- observed.
-- This is a proof: no reader needs it.
use Rattle.std.proofs.Common.{◌≡◌, ℕ, ◌≤◌, true, ℤ, pos, List, [], ◌∷◌, map, length, take, get_or, slice_index_or, Option, Some, None, is_some, option_map, Ok, refl, sym, subst, ap, ◌∙◌, inl, inr, arith}
use Rattle.std.specs.List.{AllByRecursion}
use Rattle.std.specs.Option.{option_map_or}
use Rattle.std.proofs.Props.{props}
use Rattle.std.proofs.lemmas.Bool.{cases_lt}
use Rattle.std.proofs.lemmas.List.{ext_get_or, get_or-take, length-take-le}
use Rattle.play_event.specs.declared.setup.Setup.{Setup}
use Rattle.hand_canon.specs.declared.record.NetRow.{NetRow}
use Rattle.hand_canon.specs.declared.record.Record.{Record}
use Rattle.hand_canon.specs.declared.record.Stated.{Stated}
use Rattle.acpc_format.proofs.SetupsSame.{setups_same}
use Rattle.acpc_game.specs.declared.game.Game.{Game}
use Rattle.acpc_reading.specs.Logs.{HandSaid}
use Rattle.acpc_reading.specs.RecordView.{IsOfGame, StatesValues, record_said}
use Rattle.acpc_reading.specs.Views.{nets_in}
use Rattle.convert_core.specs.Acpc.{Say}
use Rattle.convert_core.specs.SameParts.{names_same, one_script}
use Rattle.convert_core.specs.SameRecords.{AllAlike, AreAlike}
use Rattle.hand_canon.specs.StatedFacts.{stated_from}

-- what these numbers keep as the nets of this number of seats
record KeptNets (seats : ℕ) (nets : List ℤ) : Type 0 where
  greatest : seats ≤ 10
  full : length nets ≡ 10
  filler : (k : ℕ) → seats ≤ k → slice_index_or nets k (pos 0) ≡ pos 0

-- they keep it in only one way
KeptNets-prop : (seats : ℕ) (nets : List ℤ) → IsProp (KeptNets seats nets)
KeptNets-prop seats nets = hlevel props

-- the row that keeps these nets
net_row : (seats : ℕ) (nets : List ℤ) → KeptNets seats nets → NetRow
net_row seats nets kept =
    record {
      seats = seats;
      nets = nets;
      greatest = kept.greatest;
      full = kept.full;
      filler = kept.filler;
    }

-- a row keeps its own nets
kept_nets : (a : NetRow) → KeptNets a.seats a.nets
kept_nets a = record { greatest = a.greatest; full = a.full; filler = a.filler }

-- rows with the same number of seats and the same numbers are equal
net_row_same : (a b : NetRow) → a.seats ≡ b.seats → a.nets ≡ b.nets → a ≡ b
unfolding net_row kept_nets
net_row_same a b seats same =
    let P : ℕ → List ℤ → Type 0 = λ n nets. (kept : KeptNets n nets) → a ≡ net_row n nets kept in
    let here : P a.seats a.nets =
    λ kept. ap (net_row a.seats a.nets) (KeptNets-prop a.seats a.nets (kept_nets a) kept) in
    subst (λ nets. P b.seats nets) same (subst (λ n. P n a.nets) seats here) (kept_nets b)

-- rows that say the same nets are equal
nets_same : (a b : NetRow) → nets_in a ≡ nets_in b → a ≡ b
nets_same a b same =
    let seats : a.seats ≡ b.seats =
    sym (length-take-le a.seats a.nets (omega (arith, a.greatest, a.full)))
    ∙ ap length same
    ∙ length-take-le b.seats b.nets (omega (arith, b.greatest, b.full)) in
    net_row_same a b seats
    (ext_get_or (pos 0) a.nets b.nets (a.full ∙ sym b.full)
    (λ k _. elim (cases_lt k a.seats) [
      | inl inside ↦
          sym (get_or-take a.seats a.nets k (pos 0) inside)
          ∙ ap (λ (nets : List ℤ). get_or nets k (pos 0)) same
          ∙ get_or-take b.seats b.nets k (pos 0) (omega (arith, inside, seats))
      | inr past ↦ a.filler k past ∙ sym (b.filler k (omega (arith, past, seats)))
    ]))

-- rows that are both stated are equal if they say the same nets
values_same : (x y : Option NetRow) → is_some x ≡ true → is_some y ≡ true
    → option_map_or nets_in x [] ≡ option_map_or nets_in y [] → x ≡ y
values_same None y some other same = absurd (cc)
values_same (Some a) None some other same = absurd (cc)
values_same (Some a) (Some b) some other same = ap Some (nets_same a b same)

-- stated facts consist of their four parts
stated_parts : (s : Stated) → s ≡ stated_from s.finish s.wins s.pot_total s.values
unfolding stated_from
stated_parts s = refl

-- stated facts of logs, which are the nets alone, are equal if the nets are
one_stated : (a b : Stated) → StatesValues a → StatesValues b
    → option_map_or nets_in a.values [] ≡ option_map_or nets_in b.values [] → a ≡ b
one_stated a b is it same =
    cc (
      stated_parts a,
      stated_parts b,
      is.finish ∙ sym it.finish,
      is.wins ∙ sym it.wins,
      is.pot_total ∙ sym it.pot_total,
      values_same a.values b.values is.values it.values same,
    )

module _ (game : Game) (a b : Record) (is : IsOfGame game a) (it : IsOfGame game b)
    (same : record_said a ≡ record_said b) where
  -- their setups are equal
  setups : a.setup ≡ b.setup
  setups = setups_same game a.setup b.setup is.setup it.setup

  -- they have the same number of seats
  count : a.setup.stacks.seats ≡ b.setup.stacks.seats
  count = ap (λ (s : Setup). s.stacks.seats) setups

  -- the seats have the same names
  names : take a.setup.stacks.seats a.notes.names ≡ take a.setup.stacks.seats b.notes.names
  names =
      ap (λ (hand : HandSaid). hand.names) same ∙ ap (λ (n : ℕ). take n b.notes.names) (sym count)

  -- the other record names no more seats than that
  no_names : (index : ℕ) → a.setup.stacks.seats ≤ index
      → slice_index_or b.notes.names index None ≡ None
  no_names index late = it.sound.notes.no_more_names index (omega (arith, late, count))

  -- two hands of one game that say the same are alike
  pub log_alike : AreAlike a b
  log_alike =
      record {
        same = record {
          setup = setups;
          rules = is.rules ∙ sym it.rules;
          script = one_script a b (ap (λ (hand : HandSaid). hand.events) same);
          stated =
              one_stated a.stated b.stated is.stated it.stated
              (ap (λ (hand : HandSaid). hand.values) same);
        };
        notes = record {
          names =
              names_same a.setup.stacks.seats a.notes.names b.notes.names names
              is.sound.notes.no_more_names no_names;
          seats =
              ap (option_map (take a.setup.stacks.seats)) (is.notes.seats ∙ sym it.notes.seats);
          seat_count = is.notes.seat_count ∙ sym it.notes.seat_count;
          hand = ap (λ (hand : HandSaid). hand.hand) same;
          texts = is.notes.texts ∙ sym it.notes.texts;
          year = is.notes.year ∙ sym it.notes.year;
          month = is.notes.month ∙ sym it.notes.month;
          day = is.notes.day ∙ sym it.notes.day;
          time = is.notes.time ∙ sym it.notes.time;
          zone = is.notes.zone ∙ sym it.notes.zone;
        };
      }

-- records that say the same are alike, one by one
pub all_alike : (game : Game) (records others : List Record)
    → AllByRecursion (IsOfGame game) records → AllByRecursion (IsOfGame game) others
    → map record_said records ≡ map record_said others → AllAlike records others
unfolding AllAlike
all_alike game [] [] all each same = tt
all_alike game [] (b ∷ others) all each same = absurd (cc)
all_alike game (a ∷ rest) [] all each same = absurd (cc)
all_alike game (a ∷ rest) (b ∷ others) all each same =
    (log_alike game a b all.0 each.0 (cc), all_alike game rest others all.1 each.1 (cc))

-- bytes say one list of records
pub one_reading : (game : Game) (bytes : List ℕ) (records others : List Record)
    → Say game bytes records → Say game bytes others → AllAlike records others
one_reading game bytes records others say too =
    let same : Ok (map record_said records) ≡ Ok (map record_said others) =
    sym say.reads ∙ too.reads in
    all_alike game records others say.each too.each (cc)
