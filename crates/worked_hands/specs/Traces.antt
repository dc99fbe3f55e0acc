-- The words for traces that are written out, and hands with their whole traces: one that is won by
-- folds and one that is won by the only shown hand.
use Rattle.std.proofs.Common.{refl}
use Rattle.std.specs.Prelude.{ℕ, true, false, List, [], ◌∷◌, ◌++◌, codes, map, Option, Some, None}
use Rattle.chip_ledger.specs.declared.numbers.Seat.{Seat}
use Rattle.play_event.specs.declared.played.Act.{Act}
use Rattle.play_event.specs.declared.played.Act.TheVariants as acts
use Rattle.play_event.specs.declared.played.Move.{Move}
use Rattle.play_event.specs.declared.played.Place.{Place}
use Rattle.play_event.specs.Rows.{row_of}
use Rattle.play_event.specs.Said.{Said}
use Rattle.hand_canon.specs.declared.trace.Trace.{Trace}
use Rattle.worked_hands.specs.Setups.{no_limit, single_draw}
use Rattle.worked_hands.specs.Words.{call, deal, fold, muck, raise, show, slots_named, stand_pat}
use Rattle.worked_hands.specs.TraceRows.{flags_of, pot_of, pots_of, seat_of, shares_of}

-- the first seat
abbrev pub p1 : Seat
p1 = seat_of 1 refl

-- the second
abbrev pub p2 : Seat
p2 = seat_of 2 refl

-- the third
abbrev pub p3 : Seat
p3 = seat_of 3 refl

-- the fourth
abbrev pub p4 : Seat
p4 = seat_of 4 refl

-- the fifth
abbrev pub p5 : Seat
p5 = seat_of 5 refl

-- the sixth
abbrev pub p6 : Seat
p6 = seat_of 6 refl

-- the cards of a text, dealt on a street to a seat, or to the board if there is none; the last
-- number is the street in whose draw they were discarded, 0 if they were kept
abbrev pub placed : Option Seat → ℕ → List ℕ → ℕ → List Place
placed owner street cards gone =
    map (λ slot. record { owner = owner; street = street; slot = slot; gone = gone })
    (slots_named cards)

-- cards of a seat that are kept
abbrev pub held_by : Seat → ℕ → List ℕ → List Place
held_by seat street cards = placed (Some seat) street cards 0

-- cards of the board
abbrev pub on_board : ℕ → List ℕ → List Place
on_board street cards = placed None street cards 0

-- the cards of a text, dealt to a seat on the first street
abbrev pub dealt_to : Seat → List ℕ → List Place
dealt_to seat cards = held_by seat 1 cards

-- what a seat did on a street of fixed limit: its bet on the street before and after, the current
-- bet before, and the target of a raise by the raise unit
abbrev pub moved_fixed : ℕ → Seat → Act → (from to price unit_to : ℕ) → Move
moved_fixed street seat act from to price unit_to =
    record {
      street = street;
      seat = seat;
      act = act;
      from = from;
      to = to;
      price = price;
      closed = false;
      unit_to = unit_to;
    }

-- the same in another limit, which has no raise unit
abbrev pub moved : ℕ → Seat → Act → (from to price : ℕ) → Move
moved street seat act from to price = moved_fixed street seat act from to price 0

-- a check of a seat
abbrev pub checked : ℕ → Seat → Move
checked street seat = moved street seat acts.Call 0 0 0

-- three seats of no-limit hold'em: p3 raises from 2 to 6, and both blinds fold
abbrev pub steal : List Said
steal =
    deal 1 (codes "????") ∷ deal 2 (codes "Ks7d") ∷ deal 3 (codes "AcAd") ∷ raise 3 6 ∷ fold 1
    ∷ fold 2 ∷ []

-- its trace: p3 gets 4 chips back, and the pot of 5
abbrev pub steal_trace : Trace
steal_trace =
    record {
      setup = no_limit;
      places =
          dealt_to p1 (codes "????") ++ (dealt_to p2 (codes "Ks7d") ++ dealt_to p3 (codes "AcAd"));
      moves =
          moved 1 p3 acts.Raise 0 6 2 ∷ moved 1 p1 acts.Fold 1 1 6 ∷ moved 1 p2 acts.Fold 2 2 6
          ∷ [];
      shown = flags_of (false ∷ false ∷ false ∷ []) refl;
      mucked = flags_of (false ∷ false ∷ false ∷ []) refl;
      pots =
          pots_of (pot_of 5 (false ∷ false ∷ true ∷ []) refl ∷ []) (row_of (0 ∷ 0 ∷ 4 ∷ []) refl)
          refl;
      shares = shares_of (row_of (0 ∷ 0 ∷ 5 ∷ []) refl ∷ []) refl;
      finish = row_of (99 ∷ 98 ∷ 103 ∷ []) refl;
    }

-- two seats of single draw that check to the end: p1 shows, and p2 mucks
abbrev pub checked_draw : List Said
checked_draw =
    deal 1 (codes "2c3d4h5s7c") ∷ deal 2 (codes "??????????") ∷ call 2 ∷ call 1
    ∷ stand_pat 1 ∷ stand_pat 2 ∷ call 1 ∷ call 2 ∷ show 1 (codes "2c3d4h5s7c") ∷ muck 2 ∷ []

-- its trace: p1 gets the pot of 4
abbrev pub checked_trace : Trace
checked_trace =
    record {
      setup = single_draw;
      places = dealt_to p1 (codes "2c3d4h5s7c") ++ dealt_to p2 (codes "??????????");
      moves =
          moved 1 p2 acts.Call 1 2 2 ∷ moved 1 p1 acts.Call 2 2 2 ∷ moved 2 p1 acts.Call 0 0 0
          ∷ moved 2 p2 acts.Call 0 0 0 ∷ [];
      shown = flags_of (true ∷ false ∷ []) refl;
      mucked = flags_of (false ∷ true ∷ []) refl;
      pots = pots_of (pot_of 4 (true ∷ true ∷ []) refl ∷ []) (row_of (0 ∷ 0 ∷ []) refl) refl;
      shares = shares_of (row_of (4 ∷ 0 ∷ []) refl ∷ []) refl;
      finish = row_of (102 ∷ 98 ∷ []) refl;
    }
