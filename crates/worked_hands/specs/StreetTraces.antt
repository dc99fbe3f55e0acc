-- Whole traces of stud and draw: up-cards, cards that become known by discards and shows, a card
-- that is dealt once the deck has run out, and folds.
use Rattle.std.proofs.Common.{refl}
use Rattle.std.specs.Prelude.{true, false, [], ◌∷◌, ◌++◌, codes, Some}
use Rattle.play_event.specs.declared.played.Act.TheVariants as acts
use Rattle.play_event.specs.Rows.{row_of}
use Rattle.hand_canon.specs.declared.trace.Trace.{Trace}
use Rattle.worked_hands.specs.Setups.{stud, triple_draw}
use Rattle.worked_hands.specs.PlaySetups.{badugi, three_in_single_draw}
use Rattle.worked_hands.specs.TraceRows.{flags_of, pot_of, pots_of, shares_of}
use Rattle.worked_hands.specs.Traces.{dealt_to, held_by, moved, moved_fixed, p1, p2, p3, p4, p5, p6, placed}

-- stud: p2 shows its down-cards, and p1 mucks
abbrev pub stud_trace : Trace
stud_trace =
    record {
      setup = stud;
      places =
          dealt_to p1 (codes "????2c")
          ++ (dealt_to p2 (codes "6c5c2d")
          ++ (held_by p1 2 (codes "Kc") ++ (held_by p2 2 (codes "3d")
          ++ (held_by p1 3 (codes "4h")
          ++ (held_by p2 3 (codes "4s")
          ++ (held_by p1 4 (codes "9h") ++ (held_by p2 4 (codes "9s")
          ++ (held_by p1 5 (codes "??") ++ held_by p2 5 (codes "7c")))))))));
      moves =
          moved_fixed 1 p1 acts.BringIn 0 1 0 2 ∷ moved_fixed 1 p2 acts.Raise 0 2 1 2
          ∷ moved_fixed 1 p1 acts.Call 1 2 2 4
          ∷ moved_fixed 2 p1 acts.Call 0 0 0 2 ∷ moved_fixed 2 p2 acts.Call 0 0 0 2
          ∷ moved_fixed 3 p1 acts.Call 0 0 0 4 ∷ moved_fixed 3 p2 acts.Raise 0 4 0 4
          ∷ moved_fixed 3 p1 acts.Call 0 4 4 8
          ∷ moved_fixed 4 p1 acts.Call 0 0 0 4 ∷ moved_fixed 4 p2 acts.Call 0 0 0 4
          ∷ moved_fixed 5 p1 acts.Call 0 0 0 4 ∷ moved_fixed 5 p2 acts.Call 0 0 0 4 ∷ [];
      shown = flags_of (false ∷ true ∷ []) refl;
      mucked = flags_of (true ∷ false ∷ []) refl;
      pots = pots_of (pot_of 14 (true ∷ true ∷ []) refl ∷ []) (row_of (0 ∷ 0 ∷ []) refl) refl;
      shares = shares_of (row_of (0 ∷ 14 ∷ []) refl ∷ []) refl;
      finish = row_of (93 ∷ 107 ∷ []) refl;
    }

-- single draw: all players are all-in, p1 and p3 are shown, and p2, who was dealt an unknown card
-- after the show, mucks; p1's eight-low beats a pair
abbrev pub mixed_trace : Trace
mixed_trace =
    record {
      setup = three_in_single_draw;
      places =
          held_by p1 1 (codes "2c")
          ++ (placed (Some p1) 1 (codes "9c4c") 2
          ++ (held_by p1 1 (codes "5c") ++ (placed (Some p1) 1 (codes "??") 2
          ++ (held_by p2 1 (codes "2h")
          ++ (placed (Some p2) 1 (codes "3h") 2 ++ (held_by p2 1 (codes "4h5h7h")
          ++ (placed (Some p3) 1 (codes "??") 2
          ++ (held_by p3 1 (codes "9hTsJs") ++ (placed (Some p3) 1 (codes "Th") 2
          ++ (held_by p1 2 (codes "6d7d8d")
          ++ (held_by p2 2 (codes "??") ++ held_by p3 2 (codes "JdQd"))))))))))));
      moves =
          moved 1 p3 acts.Raise 0 40 2 ∷ moved 1 p1 acts.Call 1 40 40 ∷ moved 1 p2 acts.Call 2 40 40
          ∷ [];
      shown = flags_of (true ∷ false ∷ true ∷ []) refl;
      mucked = flags_of (false ∷ true ∷ false ∷ []) refl;
      pots =
          pots_of (pot_of 120 (true ∷ true ∷ true ∷ []) refl ∷ []) (row_of (0 ∷ 0 ∷ 0 ∷ []) refl)
          refl;
      shares = shares_of (row_of (120 ∷ 0 ∷ 0 ∷ []) refl ∷ []) refl;
      finish = row_of (120 ∷ 0 ∷ 0 ∷ []) refl;
    }

-- single draw: p2 folds before the draw and p3 after it, and p1 gets back its last bet
abbrev pub folded_trace : Trace
folded_trace =
    record {
      setup = three_in_single_draw;
      places =
          held_by p1 1 (codes "2c3c4c5c")
          ++ (placed (Some p1) 1 (codes "7c") 2 ++ (held_by p2 1 (codes "??????????")
          ++ (placed (Some p3) 1 (codes "????") 2 ++ (held_by p3 1 (codes "??????")
          ++ (held_by p1 2 (codes "8d") ++ held_by p3 2 (codes "????"))))));
      moves =
          moved 1 p3 acts.Raise 0 4 2 ∷ moved 1 p1 acts.Call 1 4 4 ∷ moved 1 p2 acts.Fold 2 2 4
          ∷ moved 2 p1 acts.Raise 0 10 0 ∷ moved 2 p3 acts.Fold 0 0 10 ∷ [];
      shown = flags_of (false ∷ false ∷ false ∷ []) refl;
      mucked = flags_of (false ∷ false ∷ false ∷ []) refl;
      pots =
          pots_of (pot_of 10 (true ∷ false ∷ false ∷ []) refl ∷ []) (row_of (10 ∷ 0 ∷ 0 ∷ []) refl)
          refl;
      shares = shares_of (row_of (10 ∷ 0 ∷ 0 ∷ []) refl ∷ []) refl;
      finish = row_of (46 ∷ 38 ∷ 36 ∷ []) refl;
    }

-- triple draw with six seats: the two of clubs, which p1 discarded, is dealt to p2 once the deck
-- has run out; only p1 is shown
abbrev pub past_deck_trace : Trace
past_deck_trace =
    record {
      setup = triple_draw;
      places =
          placed (Some p1) 1 (codes "2c3c4c") 2 ++ (held_by p1 1 (codes "5c7c")
          ++ (placed (Some p2) 1 (codes "??????") 2 ++ (placed (Some p2) 1 (codes "????") 3
          ++ (placed (Some p3) 1 (codes "??????") 2
          ++ (placed (Some p3) 1 (codes "Kc") 4 ++ (held_by p3 1 (codes "??")
          ++ (placed (Some p4) 1 (codes "??????") 2 ++ (held_by p4 1 (codes "????")
          ++ (placed (Some p5) 1 (codes "??????") 2 ++ (held_by p5 1 (codes "????")
          ++ (placed (Some p6) 1 (codes "??????") 2 ++ (held_by p6 1 (codes "????")
          ++ (held_by p1 2 (codes "8d9dTd")
          ++ (placed (Some p2) 2 (codes "??????") 3 ++ (held_by p3 2 (codes "??????")
          ++ (held_by p4 2 (codes "??????")
          ++ (held_by p5 2 (codes "??????") ++ (held_by p6 2 (codes "??????")
          ++ (held_by p2 3 (codes "????2c????") ++ held_by p3 4 (codes "??"))))))))))))))))))));
      moves =
          moved_fixed 1 p3 acts.Call 0 2 2 4 ∷ moved_fixed 1 p4 acts.Call 0 2 2 4
          ∷ moved_fixed 1 p5 acts.Call 0 2 2 4
          ∷ moved_fixed 1 p6 acts.Call 0 2 2 4 ∷ moved_fixed 1 p1 acts.Call 1 2 2 4
          ∷ moved_fixed 1 p2 acts.Call 2 2 2 4
          ∷ moved_fixed 2 p1 acts.Call 0 0 0 2 ∷ moved_fixed 2 p2 acts.Call 0 0 0 2
          ∷ moved_fixed 2 p3 acts.Call 0 0 0 2
          ∷ moved_fixed 2 p4 acts.Call 0 0 0 2 ∷ moved_fixed 2 p5 acts.Call 0 0 0 2
          ∷ moved_fixed 2 p6 acts.Call 0 0 0 2
          ∷ moved_fixed 3 p1 acts.Call 0 0 0 4 ∷ moved_fixed 3 p2 acts.Call 0 0 0 4
          ∷ moved_fixed 3 p3 acts.Call 0 0 0 4
          ∷ moved_fixed 3 p4 acts.Call 0 0 0 4 ∷ moved_fixed 3 p5 acts.Call 0 0 0 4
          ∷ moved_fixed 3 p6 acts.Call 0 0 0 4
          ∷ moved_fixed 4 p1 acts.Call 0 0 0 4 ∷ moved_fixed 4 p2 acts.Call 0 0 0 4
          ∷ moved_fixed 4 p3 acts.Call 0 0 0 4
          ∷ moved_fixed 4 p4 acts.Call 0 0 0 4 ∷ moved_fixed 4 p5 acts.Call 0 0 0 4
          ∷ moved_fixed 4 p6 acts.Call 0 0 0 4
          ∷ [];
      shown = flags_of (true ∷ false ∷ false ∷ false ∷ false ∷ false ∷ []) refl;
      mucked = flags_of (false ∷ true ∷ true ∷ true ∷ true ∷ true ∷ []) refl;
      pots =
          pots_of (pot_of 12 (true ∷ true ∷ true ∷ true ∷ true ∷ true ∷ []) refl ∷ [])
          (row_of (0 ∷ 0 ∷ 0 ∷ 0 ∷ 0 ∷ 0 ∷ []) refl) refl;
      shares = shares_of (row_of (12 ∷ 0 ∷ 0 ∷ 0 ∷ 0 ∷ 0 ∷ []) refl ∷ []) refl;
      finish = row_of (110 ∷ 98 ∷ 98 ∷ 98 ∷ 98 ∷ 98 ∷ []) refl;
    }

-- badugi with its three draws: p1 and p2 are shown with four cards of four suits each, and p1's are
-- lower
abbrev pub badugi_trace : Trace
badugi_trace =
    record {
      setup = badugi;
      places =
          held_by p1 1 (codes "Ac2d3h")
          ++ (placed (Some p1) 1 (codes "3s") 2 ++ (placed (Some p2) 1 (codes "Qh??") 2
          ++ (placed (Some p2) 1 (codes "??") 3
          ++ (held_by p2 1 (codes "Th")
          ++ (held_by p3 1 (codes "Ks") ++ (placed (Some p3) 1 (codes "KdKhKc") 2
          ++ (held_by p1 2 (codes "4s")
          ++ (held_by p2 2 (codes "7d8s")
          ++ (held_by p3 2 (codes "4d5h6c") ++ held_by p2 3 (codes "9c"))))))))));
      moves =
          moved_fixed 1 p3 acts.Call 0 2 2 4 ∷ moved_fixed 1 p1 acts.Call 1 2 2 4
          ∷ moved_fixed 1 p2 acts.Call 2 2 2 4
          ∷ moved_fixed 2 p1 acts.Raise 0 2 0 2 ∷ moved_fixed 2 p2 acts.Call 0 2 2 4
          ∷ moved_fixed 2 p3 acts.Fold 0 0 2 4
          ∷ moved_fixed 3 p1 acts.Raise 0 4 0 4 ∷ moved_fixed 3 p2 acts.Call 0 4 4 8
          ∷ moved_fixed 4 p1 acts.Call 0 0 0 4 ∷ moved_fixed 4 p2 acts.Call 0 0 0 4 ∷ [];
      shown = flags_of (true ∷ true ∷ false ∷ []) refl;
      mucked = flags_of (false ∷ false ∷ false ∷ []) refl;
      pots =
          pots_of (pot_of 18 (true ∷ true ∷ false ∷ []) refl ∷ []) (row_of (0 ∷ 0 ∷ 0 ∷ []) refl)
          refl;
      shares = shares_of (row_of (18 ∷ 0 ∷ 0 ∷ []) refl ∷ []) refl;
      finish = row_of (110 ∷ 92 ∷ 98 ∷ []) refl;
    }
