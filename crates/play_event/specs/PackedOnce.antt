-- What is packed can be read back, so no two lists of events have the same packed form.
-- This is a proof: no reader needs it.
use Rattle.std.proofs.Common.{◌≡◌, ℕ, ◌-◌, ◌/◌, ◌%◌, ◌^◌, ◌<◌, ◌≤◌, false, ltb, List, [], ◌∷◌, ◌++◌, length, map, slice_get, unwrap_or, Option, Some, None, IfSome, refl, sym, ◌∙◌, ap, subst, arith, nat_eq, length-append}
use Rattle.std.specs.Int.{Width, w32, w64, byte_len, from_be_bytes, to_be_bytes}
use Rattle.std.specs.Coded.{×_prop, Unit-prop, le_prop}
use Rattle.std.proofs.Props.{props}
use Rattle.std.proofs.lemmas.Bool.{le-leb, le-ltb}
use Rattle.std.proofs.lemmas.List.{take_at, drop_at, length-map, length-take}
use Rattle.std.proofs.lemmas.Nat.{from_be_bytes-to_be_bytes_4, from_be_bytes-to_be_bytes_8}
use Rattle.std.proofs.lemmas.Option.{some_pair_parts}
use Rattle.card_set.specs.declared.card.Card.{Card}
use Rattle.card_set.specs.declared.card.Rank.{Rank}
use Rattle.card_set.specs.declared.card.Rank.TheVariants as ranks
use Rattle.card_set.specs.declared.card.Suit.{Suit}
use Rattle.card_set.specs.declared.card.Suit.TheVariants as suits
use Rattle.card_set.specs.declared.card.Slot.{Slot}
use Rattle.card_set.specs.declared.card.Slot.TheVariants as slots
use Rattle.card_set.specs.declared.row.SlotRow.{SlotRow}
use Rattle.card_set.specs.declared.row.CardRow.{CardRow}
use Rattle.card_set.specs.Deck.{ranks_below, suits_before, card_with_index, all_ranks, all_suits}
use Rattle.card_set.specs.Row.{slots_of, cards_of}
use Rattle.card_set.proofs.DeckLaws.{suits_before-few}
use Rattle.card_set.proofs.RowLaws.{slots_same, cards_same}
use Rattle.chip_ledger.specs.declared.numbers.Seat.{Seat}
use Rattle.chip_ledger.proofs.Same.{seat_same}
use Rattle.play_event.specs.declared.event.Event.{Event}
use Rattle.play_event.specs.declared.event.Kind.{Kind}
use Rattle.play_event.specs.declared.event.Kind.TheVariants as kinds
use Rattle.play_event.specs.declared.event.Spelled.{Spelled}
use Rattle.play_event.specs.declared.event.Spelled.TheVariants as spelled
use Rattle.play_event.specs.Said.{Said, kind_said, seat_named, numbered}
use Rattle.play_event.specs.EventNumbers.{AmountFits, ChipsFit, IsEvent, AreEvents}
use Rattle.play_event.specs.PackedForm.{actor_byte, card_byte, slot_byte, counted, stated_bytes, amount_bytes, kind_byte, kind_bytes, packed_event, packed_events}
use Rattle.play_event.specs.PackedReading.{number_at, counted_at, seat_numbered, seat_at, actor_at, card_of, slot_of, slots_at, cards_at, stated_at, amount_at, move_at, hand_at, kind_at, event_at}
use Rattle.play_event.specs.PackedScript.{PackedScript}

-- ---- cards

-- the byte of a rank, of a suit, of a card and of a slot is read as what was packed
rank_again : (rank : Rank) → unwrap_or (slice_get all_ranks (ranks_below rank)) ranks.Ace ≡ rank
rank_again ranks.Two = refl
rank_again _ = refl

-- a suit
suit_again : (suit : Suit) → unwrap_or (slice_get all_suits (suits_before suit)) suits.S ≡ suit
suit_again suits.C = refl
suit_again _ = refl

-- a card
card_again : (card : Card) → card_of (card_byte card) ≡ card
unfolding card_with_index
card_again card =
    let few = suits_before-few card.suit in
    let quotient : (card_byte card - 1) / 4 ≡ ranks_below card.rank = omega arith in
    let remainder : (card_byte card - 1) % 4 ≡ suits_before card.suit = omega arith in
    rw (quotient, remainder, rank_again card.rank, suit_again card.suit) refl

-- a slot, known or unknown
slot_again : (slot : Slot) → slot_of (slot_byte slot) ≡ slot
slot_again slots.Unknown = refl
slot_again (slots.Known card) =
    let known : nat_eq (card_byte card) 0 ≡ false = grind arith in
    rw (known, card_again card) refl

-- a list of such bytes is read as the list
each_again : {A : Type 0} (read : ℕ → A) (byte : A → ℕ) → ((x : A) → read (byte x) ≡ x)
    → (xs : List A) → map read (map byte xs) ≡ xs
each_again read byte again [] = refl
each_again read byte again (x ∷ xs) =
    ap (λ first. first ∷ map read (map byte xs)) (again x)
    ∙ ap (λ rest. x ∷ rest) (each_again read byte again xs)

-- a counted row is read, and the bytes after it are left
counted_again : (row rest : List ℕ) → length row ≤ 7
    → counted_at (counted row ++ rest) ≡ Some (row, rest)
unfolding counted_at
counted_again row rest few =
    rw (
      le-leb (length row) 7 few,
      le-leb (length row) (length (row ++ rest)) (omega (arith, length-append row rest)),
      take_at row rest (length row) refl,
      drop_at row rest (length row) refl,
    )
    refl

-- a row of slots
slots_again : (row : SlotRow) (rest : List ℕ)
    → slots_at (counted (map slot_byte (slots_of row)) ++ rest) ≡ Some (slots_of row, rest)
unfolding slots_at
slots_again row rest =
    let few : length (map slot_byte (slots_of row)) ≤ 7 =
    omega (arith, row.fits, length-map (slots_of row) slot_byte, length-take row.len row.slots) in
    rw (
      counted_again (map slot_byte (slots_of row)) rest few,
      each_again slot_of slot_byte slot_again (slots_of row),
    )
    refl

-- a row of cards
cards_again : (row : CardRow) (rest : List ℕ)
    → cards_at (counted (map card_byte (cards_of row)) ++ rest) ≡ Some (cards_of row, rest)
unfolding cards_at
cards_again row rest =
    let few : length (map card_byte (cards_of row)) ≤ 7 =
    omega (arith, row.fits, length-map (cards_of row) card_byte, length-take row.len row.cards) in
    rw (
      counted_again (map card_byte (cards_of row)) rest few,
      each_again card_of card_byte card_again (cards_of row),
    )
    refl

-- ---- seats and numbers

-- a seat is the seat of its number
seat_within : (seat : Seat) → seat_numbered seat.number ≡ Some seat.number
seat_within seat = rw (le-leb 1 seat.number seat.first, le-leb seat.number 10 seat.last) refl

-- a seat
seat_again : (seat : Seat) (rest : List ℕ) → seat_at (seat.number ∷ rest) ≡ Some (seat.number, rest)
unfolding seat_at
seat_again seat rest = rw (seat_within seat) refl

-- an actor, where there is one
actor_again : (actor : Option Seat) (rest : List ℕ)
    → actor_at (actor_byte actor ∷ rest) ≡ Some (seat_named actor, rest)
unfolding actor_at
actor_again None rest = refl
actor_again (Some seat) rest =
    let named : nat_eq seat.number 0 ≡ false = grind (arith, seat.first) in
    rw (named, seat_within seat) refl

-- numbers below the limit take this number of bytes, and are read back from them
pub record IsWide (width : Width) (limit : ℕ) : Type 0 where
  pub len : (n : ℕ) → length (to_be_bytes width n) ≡ byte_len width
  pub again : (n : ℕ) → n < limit → from_be_bytes width (to_be_bytes width n) ≡ n

-- numbers of 32 bits
wide32 : IsWide w32 (2 ^ 32)
wide32 = record { len = λ n. refl; again = from_be_bytes-to_be_bytes_4 }

-- numbers of 64 bits
wide64 : IsWide w64 (2 ^ 64)
wide64 = record { len = λ n. refl; again = from_be_bytes-to_be_bytes_8 }

-- a number of this number of bits
number_again : (width : Width) (limit : ℕ) → IsWide width limit → (n : ℕ) (rest : List ℕ)
    → n < limit → number_at width (to_be_bytes width n ++ rest) ≡ Some (n, rest)
unfolding number_at
number_again width limit wide n rest fits =
    let len = wide.len n in
    let long : ltb (length (to_be_bytes width n ++ rest)) (byte_len width) ≡ false =
    le-ltb _ _ (omega (arith, length-append (to_be_bytes width n) rest)) in
    rw (
      long,
      take_at (to_be_bytes width n) rest (byte_len width) len,
      drop_at (to_be_bytes width n) rest (byte_len width) len,
      wide.again n fits,
    )
    refl

-- chips
chips_again : (chips : ℕ) (rest : List ℕ) → chips < 2 ^ 64
    → number_at w64 (to_be_bytes w64 chips ++ rest) ≡ Some (chips, rest)
chips_again = number_again w64 (2 ^ 64) wide64

-- stated chips, if they are stated
stated_again : (stated : Option ℕ) (rest : List ℕ) → IfSome stated (λ chips. chips < 2 ^ 64)
    → stated_at (stated_bytes stated ++ rest) ≡ Some (stated, rest)
unfolding stated_at
stated_again None rest fits = refl
stated_again (Some chips) rest fits = rw (chips_again chips rest fits) refl

-- an amount as it is written
amount_again : (amount : Spelled) (rest : List ℕ) → AmountFits amount
    → amount_at (amount_bytes amount ++ rest) ≡ Some (amount, rest)
unfolding amount_at
amount_again (spelled.To chips) rest fits = rw (chips_again chips rest fits) refl
amount_again (spelled.Added chips) rest fits = rw (chips_again chips rest fits) refl
amount_again (spelled.HandTotal chips) rest fits = rw (chips_again chips rest fits) refl
amount_again spelled.Unit rest fits = refl

-- ---- events

-- a kind of event
kind_again : (kind : Kind) (rest : List ℕ) → ChipsFit kind
    → kind_at (kind_byte kind) (kind_bytes kind ++ rest) ≡ Some (kind_said kind, rest)
unfolding kind_at move_at hand_at
kind_again (kinds.Hole seat cards) rest fits =
    rw (seat_again seat (counted (map slot_byte (slots_of cards)) ++ rest), slots_again cards rest)
    refl
kind_again (kinds.Board cards) rest fits = rw (cards_again cards rest) refl
kind_again (kinds.Fold actor) rest fits = rw (actor_again actor rest) refl
kind_again (kinds.Call actor stated) rest fits =
    rw (actor_again actor (stated_bytes stated ++ rest), stated_again stated rest fits) refl
kind_again (kinds.Raise actor amount) rest fits =
    rw (actor_again actor (amount_bytes amount ++ rest), amount_again amount rest fits) refl
kind_again (kinds.BringIn actor) rest fits = rw (actor_again actor rest) refl
kind_again (kinds.Discard seat cards) rest fits =
    rw (seat_again seat (counted (map slot_byte (slots_of cards)) ++ rest), slots_again cards rest)
    refl
kind_again (kinds.Show seat cards) rest fits =
    rw (seat_again seat (counted (map card_byte (cards_of cards)) ++ rest), cards_again cards rest)
    refl
kind_again (kinds.Muck seat) rest fits = rw (seat_again seat rest) refl

-- an event is read back, whatever bytes come after it
pub event_again : (event : Event) (rest : List ℕ) → IsEvent event
    → event_at (packed_event event ++ rest) ≡ Some (numbered event, rest)
unfolding event_at packed_event
event_again event rest fits =
    rw (
      number_again w32 (2 ^ 32) wide32 event.at (kind_bytes event.kind ++ rest) fits.at,
      kind_again event.kind rest fits.chips,
    )
    refl

-- ---- events that say the same are the same

-- actors with the same name are the same
actor_same : (a b : Option Seat) → seat_named a ≡ seat_named b → a ≡ b
actor_same None None same = refl
actor_same None (Some seat) same = absurd cc
actor_same (Some seat) None same = absurd cc
actor_same (Some seat) (Some other) same =
    let number : seat.number ≡ other.number = cc in cc (seat_same seat other number)

-- kinds that say the same are the same
kind_same : (a b : Kind) → kind_said a ≡ kind_said b → a ≡ b
kind_same (kinds.Hole seat cards) (kinds.Hole other others) same =
    let number : seat.number ≡ other.number = cc in
    let row : slots_of cards ≡ slots_of others = cc in
    cc (seat_same seat other number, slots_same cards others row)
kind_same (kinds.Hole seat cards) _ same = absurd cc
kind_same (kinds.Board cards) (kinds.Board others) same =
    let row : cards_of cards ≡ cards_of others = cc in cc (cards_same cards others row)
kind_same (kinds.Board cards) _ same = absurd cc
kind_same (kinds.Fold actor) (kinds.Fold other) same =
    let named : seat_named actor ≡ seat_named other = cc in cc (actor_same actor other named)
kind_same (kinds.Fold actor) _ same = absurd cc
kind_same (kinds.Call actor stated) (kinds.Call other others) same =
    let named : seat_named actor ≡ seat_named other = cc in
    let chips : stated ≡ others = cc in
    cc (actor_same actor other named)
kind_same (kinds.Call actor stated) _ same = absurd cc
kind_same (kinds.Raise actor amount) (kinds.Raise other others) same =
    let named : seat_named actor ≡ seat_named other = cc in
    let chips : amount ≡ others = cc in
    cc (actor_same actor other named)
kind_same (kinds.Raise actor amount) _ same = absurd cc
kind_same (kinds.BringIn actor) (kinds.BringIn other) same =
    let named : seat_named actor ≡ seat_named other = cc in cc (actor_same actor other named)
kind_same (kinds.BringIn actor) _ same = absurd cc
kind_same (kinds.Discard seat cards) (kinds.Discard other others) same =
    let number : seat.number ≡ other.number = cc in
    let row : slots_of cards ≡ slots_of others = cc in
    cc (seat_same seat other number, slots_same cards others row)
kind_same (kinds.Discard seat cards) _ same = absurd cc
kind_same (kinds.Show seat cards) (kinds.Show other others) same =
    let number : seat.number ≡ other.number = cc in
    let row : cards_of cards ≡ cards_of others = cc in
    cc (seat_same seat other number, cards_same cards others row)
kind_same (kinds.Show seat cards) _ same = absurd cc
kind_same (kinds.Muck seat) (kinds.Muck other) same =
    let number : seat.number ≡ other.number = cc in cc (seat_same seat other number)
kind_same (kinds.Muck seat) _ same = absurd cc

-- events with the same number that say the same are the same
pub event_same : (a b : Event) → numbered a ≡ numbered b → a ≡ b
event_same a b same =
    let at : a.at ≡ b.at = ap (λ (n : ℕ × Said). n.0) same in
    let kind : a.kind ≡ b.kind = kind_same a.kind b.kind (ap (λ (n : ℕ × Said). n.1) same) in
    ap (λ n. record { at = n; kind = a.kind }) at ∙ ap (λ k. record { at = b.at; kind = k }) kind

-- lists of events with the same packed form are the same
pub events_same : (a b : List Event) → AreEvents a → AreEvents b → packed_events a ≡ packed_events b
    → a ≡ b
unfolding packed_event
events_same [] [] fit fits same = refl
events_same [] (event ∷ rest) fit fits same = absurd cc
events_same (event ∷ rest) [] fit fits same = absurd cc
events_same (event ∷ rest) (other ∷ others) fit fits same =
    let read :
    Some (numbered event, packed_events rest) ≡ Some (numbered other, packed_events others) =
    sym (event_again event (packed_events rest) fit.0) ∙ ap event_at same
    ∙ event_again other (packed_events others) fits.0 in
    let parts =
    some_pair_parts (numbered event) (numbered other) (packed_events rest)
    (packed_events others) read in
    ap (λ first. first ∷ rest) (event_same event other parts.0)
    ∙ ap (λ later. other ∷ later) (events_same rest others fit.1 fits.1 parts.1)

-- ---- packed bytes have only one list of events

-- the facts of an amount, of stated chips, of a kind and of events hold in only one way
AmountFits-prop : (amount : Spelled) → IsProp (AmountFits amount)
AmountFits-prop (spelled.To chips) = le_prop
AmountFits-prop (spelled.Added chips) = le_prop
AmountFits-prop (spelled.HandTotal chips) = le_prop
AmountFits-prop spelled.Unit = Unit-prop

-- stated chips
StatedFits-prop : (stated : Option ℕ) → IsProp (IfSome stated (λ chips. chips < 2 ^ 64))
StatedFits-prop None = Unit-prop
StatedFits-prop (Some chips) = le_prop

-- a kind
ChipsFit-prop : (kind : Kind) → IsProp (ChipsFit kind)
ChipsFit-prop (kinds.Call actor stated) = StatedFits-prop stated
ChipsFit-prop (kinds.Raise actor amount) = AmountFits-prop amount
ChipsFit-prop _ = Unit-prop

-- an event
IsEvent-prop : (event : Event) → IsProp (IsEvent event)
IsEvent-prop event = hlevel (ChipsFit-prop event.kind, props)

-- events
AreEvents-prop : (events : List Event) → IsProp (AreEvents events)
AreEvents-prop [] = Unit-prop
AreEvents-prop (event ∷ rest) = ×_prop (IsEvent-prop event) (AreEvents-prop rest)

-- what packed bytes keep of their events
Kept : List ℕ → List Event → Type 0
Kept bytes events = AreEvents events × (bytes ≡ packed_events events)

-- bytes keep events in only one way
Kept-prop : (bytes : List ℕ) (events : List Event) → IsProp (Kept bytes events)
unfolding Kept
Kept-prop bytes events = hlevel (AreEvents-prop events, props)

-- the script of bytes that keep events
script_of : (bytes : List ℕ) (events : List Event) → Kept bytes events → PackedScript bytes
unfolding Kept
script_of bytes events kept = record { events = events; fit = kept.0; packed = kept.1 }

-- bytes are the packed form of at most one list of events
pub one_script : (bytes : List ℕ) → IsProp (PackedScript bytes)
unfolding Kept script_of
one_script bytes a b =
    let same : a.events ≡ b.events =
    events_same a.events b.events a.fit b.fit (sym a.packed ∙ b.packed) in
    let P : List Event → Type 0 =
    λ events. (kept : Kept bytes events) → a ≡ script_of bytes events kept in
    let here : P a.events =
    λ kept. ap (script_of bytes a.events) (Kept-prop bytes a.events (a.fit, a.packed) kept) in
    subst P same here (b.fit, b.packed)
