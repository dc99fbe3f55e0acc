-- Traces that the hands written out do not have.
use Rattle.std.proofs.Common.{refl}
use Rattle.std.specs.Prelude.{false, true, [], ◌∷◌, ◌++◌, codes}
use Rattle.play_event.specs.declared.played.Act.TheVariants as acts
use Rattle.play_event.specs.Rows.{row_of}
use Rattle.hand_canon.specs.declared.trace.Trace.{Trace}
use Rattle.worked_hands.specs.TraceRows.{flags_of, pot_of, pots_of, shares_of}
use Rattle.worked_hands.specs.Traces.{checked_trace, dealt_to, moved, p1, p2, p3, steal_trace}

-- p3 finishes with one chip of p2
abbrev pub chip_from_p2 : Trace
chip_from_p2 = record steal_trace { finish = row_of (99 ∷ 97 ∷ 104 ∷ []) refl }

-- the four uncalled chips are in the pot, and p3 wins them
abbrev pub returned_in_pot : Trace
returned_in_pot = record steal_trace {
  pots =
      pots_of (pot_of 9 (false ∷ false ∷ true ∷ []) refl ∷ []) (row_of (0 ∷ 0 ∷ 0 ∷ []) refl) refl;
  shares = shares_of (row_of (0 ∷ 0 ∷ 9 ∷ []) refl ∷ []) refl;
}

-- the cards of p1 are known
abbrev pub cards_named : Trace
cards_named = record steal_trace {
  places = dealt_to p1 (codes "2c2d") ++ (dealt_to p2 (codes "Ks7d") ++ dealt_to p3 (codes "AcAd"));
}

-- p1 does not fold
abbrev pub fold_forgotten : Trace
fold_forgotten = record steal_trace {
  moves = moved 1 p3 acts.Raise 0 6 2 ∷ moved 1 p2 acts.Fold 2 2 6 ∷ [];
}

-- the pot goes to the seat that mucked
abbrev pub muck_paid : Trace
muck_paid = record checked_trace {
  shares = shares_of (row_of (0 ∷ 4 ∷ []) refl ∷ []) refl;
  finish = row_of (98 ∷ 102 ∷ []) refl;
}

-- the seat that mucked is shown
abbrev pub muck_shown : Trace
muck_shown = record checked_trace {
  shown = flags_of (true ∷ true ∷ []) refl;
  mucked = flags_of (false ∷ false ∷ []) refl;
}
