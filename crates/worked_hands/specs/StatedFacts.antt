-- What may be stated of the hand in which p3 steals the blinds.
use Rattle.std.proofs.Common.{refl}
use Rattle.std.specs.Prelude.{[], ◌∷◌, pos, negsuc, Some, None}
use Rattle.play_event.specs.Rows.{row_of}
use Rattle.hand_canon.specs.declared.record.Stated.{Stated}
use Rattle.worked_hands.specs.TraceRows.{nets_of}

-- nothing is stated
abbrev pub nothing_stated : Stated
nothing_stated = record { finish = None; wins = None; pot_total = None; values = None }

-- everything is stated, and rightly
abbrev pub all_states : Stated
all_states =
    record {
      finish = Some (row_of (99 ∷ 98 ∷ 103 ∷ []) refl);
      wins = Some (row_of (0 ∷ 0 ∷ 5 ∷ []) refl);
      pot_total = Some 5;
      values = Some (nets_of (negsuc 0 ∷ negsuc 1 ∷ pos 3 ∷ []) refl);
    }

-- the values, all without their signs
abbrev pub value_states : Stated
value_states = record all_states { values = Some (nets_of (pos 1 ∷ pos 2 ∷ pos 3 ∷ []) refl) }

-- the pot including the chips that were returned, and these values
abbrev pub pot_states : Stated
pot_states = record value_states { pot_total = Some 9 }

-- the same, and p3 wins this pot
abbrev pub win_states : Stated
win_states = record pot_states { wins = Some (row_of (0 ∷ 0 ∷ 9 ∷ []) refl) }

-- the same, and p3 finishes with one chip of p2
abbrev pub finish_states : Stated
finish_states = record win_states { finish = Some (row_of (99 ∷ 97 ∷ 104 ∷ []) refl) }
