-- Whole traces of hold'em and Omaha: an early show, a card that becomes known by a show, a pot that
-- is split, and a muck.
use Rattle.std.proofs.Common.{refl}
use Rattle.std.specs.Prelude.{true, false, [], ◌∷◌, ◌++◌, codes}
use Rattle.play_event.specs.declared.played.Act.TheVariants as acts
use Rattle.play_event.specs.Rows.{row_of}
use Rattle.hand_canon.specs.declared.trace.Trace.{Trace}
use Rattle.worked_hands.specs.Setups.{antes_and_blinds, no_limit, pot_limit}
use Rattle.worked_hands.specs.TraceRows.{flags_of, pot_of, pots_of, shares_of}
use Rattle.worked_hands.specs.Traces.{checked, dealt_to, moved, on_board, p1, p2, p3}

-- all-in on the turn, with both shows before the river: p3 wins with a straight to the seven, and
-- p1 gets back what p3 could not call
abbrev pub early_trace : Trace
early_trace =
    record {
      setup = antes_and_blinds;
      places =
          dealt_to p1 (codes "Ac2d") ++ (dealt_to p2 (codes "????") ++ (dealt_to p3 (codes "7h6h")
          ++ (on_board 2 (codes "Jc3d5c")
          ++ (on_board 3 (codes "4h") ++ on_board 4 (codes "Jh")))));
      moves =
          moved 1 p3 acts.Raise 0 7000 2000 ∷ moved 1 p1 acts.Raise 1000 23000 7000
          ∷ moved 1 p2 acts.Fold 2000 2000 23000
          ∷ moved 1 p3 acts.Call 7000 23000 23000
          ∷ moved 2 p1 acts.Raise 0 35000 0 ∷ moved 2 p3 acts.Call 0 35000 35000
          ∷ moved 3 p1 acts.Raise 0 90000 0 ∷ moved 3 p3 acts.Raise 0 232600 90000
          ∷ moved 3 p1 acts.Raise 90000 1067100 232600
          ∷ moved 3 p3 acts.Call 232600 495000 1067100 ∷ [];
      shown = flags_of (true ∷ false ∷ true ∷ []) refl;
      mucked = flags_of (false ∷ false ∷ false ∷ []) refl;
      pots =
          pots_of (pot_of 1109500 (true ∷ false ∷ true ∷ []) refl ∷ [])
          (row_of (572100 ∷ 0 ∷ 0 ∷ []) refl) refl;
      shares = shares_of (row_of (0 ∷ 0 ∷ 1109500 ∷ []) refl ∷ []) refl;
      finish = row_of (572100 ∷ 1997500 ∷ 1109500 ∷ []) refl;
    }

-- checked down: p2 shows a card that was not known, its hand is as good as p3's, and p2 gets the
-- odd chip of the pot
abbrev pub divided_trace : Trace
divided_trace =
    record {
      setup = no_limit;
      places =
          dealt_to p1 (codes "????") ++ (dealt_to p2 (codes "As2d") ++ (dealt_to p3 (codes "Ac2h")
          ++ (on_board 2 (codes "KhKdQs")
          ++ (on_board 3 (codes "Qc") ++ on_board 4 (codes "Js")))));
      moves =
          moved 1 p3 acts.Call 0 2 2 ∷ moved 1 p1 acts.Fold 1 1 2 ∷ moved 1 p2 acts.Call 2 2 2
          ∷ checked 2 p2 ∷ checked 2 p3
          ∷ checked 3 p2 ∷ checked 3 p3 ∷ checked 4 p2 ∷ checked 4 p3 ∷ [];
      shown = flags_of (false ∷ true ∷ true ∷ []) refl;
      mucked = flags_of (false ∷ false ∷ false ∷ []) refl;
      pots =
          pots_of (pot_of 5 (false ∷ true ∷ true ∷ []) refl ∷ []) (row_of (0 ∷ 0 ∷ 0 ∷ []) refl)
          refl;
      shares = shares_of (row_of (0 ∷ 3 ∷ 2 ∷ []) refl ∷ []) refl;
      finish = row_of (99 ∷ 101 ∷ 100 ∷ []) refl;
    }

-- Omaha: p3 shows cards that were not known, and p1 mucks known ones
abbrev pub omaha_trace : Trace
omaha_trace =
    record {
      setup = pot_limit;
      places =
          dealt_to p1 (codes "AcAd2h3h")
          ++ (dealt_to p2 (codes "????????") ++ (dealt_to p3 (codes "8hKs9hKd")
          ++ (on_board 2 (codes "Kh7c2c")
          ++ (on_board 3 (codes "4d") ++ on_board 4 (codes "Js")))));
      moves =
          moved 1 p3 acts.Raise 0 6 2 ∷ moved 1 p1 acts.Call 1 6 6 ∷ moved 1 p2 acts.Fold 2 2 6
          ∷ checked 2 p1 ∷ moved 2 p3 acts.Raise 0 10 0 ∷ moved 2 p1 acts.Call 0 10 10
          ∷ checked 3 p1 ∷ checked 3 p3 ∷ checked 4 p1 ∷ checked 4 p3 ∷ [];
      shown = flags_of (false ∷ false ∷ true ∷ []) refl;
      mucked = flags_of (true ∷ false ∷ false ∷ []) refl;
      pots =
          pots_of (pot_of 34 (true ∷ false ∷ true ∷ []) refl ∷ []) (row_of (0 ∷ 0 ∷ 0 ∷ []) refl)
          refl;
      shares = shares_of (row_of (0 ∷ 0 ∷ 34 ∷ []) refl ∷ []) refl;
      finish = row_of (84 ∷ 98 ∷ 118 ∷ []) refl;
    }
