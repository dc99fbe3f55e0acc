-- The rows of a hand at its end, with its pots and their shares, are its trace.
use Rattle.std.proofs.Common.{◌≡◌, ℕ, ◌+◌, ◌≤◌, All, List, refl, sum_by, sym, ap, subst, ◌∙◌, arith}
use Rattle.chip_ledger.specs.declared.pots.PotRow.{PotRow}
use Rattle.chip_ledger.specs.declared.shares.ShareRow.{ShareRow}
use Rattle.chip_ledger.specs.declared.pots.Pot.{Pot}
use Rattle.chip_ledger.specs.declared.seat_row.SeatRow.{SeatRow}
use Rattle.chip_ledger.specs.PotRow.{plain_pots, plain_shares, pots_in, shares_in}
use Rattle.chip_ledger.specs.Pots.{PlainPot}
use Rattle.chip_ledger.specs.Rakes.{first_rake_above, nets_of}
use Rattle.chip_ledger.specs.SeatRow.{amount_of}
use Rattle.hand_canon.specs.declared.trace.Trace.{Trace}
use Rattle.hand_canon.specs.LegalHand.{showdown_in}
use Rattle.play_event.specs.TraceCore.{core_of}
use Rattle.hand_canon.specs.TraceRows.{core_said}
use Rattle.hand_canon.specs.WholeTrace.{IsTraceOf}
use Rattle.play_event.specs.declared.setup.Setup.{Setup}
use Rattle.play_event.specs.Past.{Past, moves_of}
use Rattle.play_event.specs.Stakes.{returned_after}
use Rattle.showdown_split.specs.Hands.{showdown_of}
use Rattle.variant_table.specs.Shares.{AllShared, first_unshown}
use Rattle.replay_core.specs.declared.ending.HandAtEnd.{HandAtEnd}
use Rattle.replay_core.specs.AtEnd.{IsAtEnd}
use Rattle.replay_core.specs.EndRows.{ArePotsOf}
use Rattle.replay_core.proofs.EndTrace.{finish_is, nets_of_seats, pots_of_seats, same_core}
use Rattle.replay_core.proofs.SameShowdown.{AreOfSeats, all_same, same_first}
use Rattle.card_set.proofs.NumbersOfRange.{map_agree}

-- what is paid of the pots of a hand at its end
pub record IsPaid (setup : Setup) (hand : HandAtEnd) (pots : PotRow) (shares : ShareRow) (finish : SeatRow) : Type 0 where
  pub shared : AllShared setup.code (showdown_of hand.hands hand.board hand.shown) (nets_of setup.rakes (plain_pots pots)) (plain_shares shares)
  pub share_seats : All (λ (row : SeatRow). row.seats ≡ hand.shown.seats) (shares_in shares)
  pub finish_seats : finish.seats ≡ hand.left.seats
  pub finishes : (n : ℕ) → 1 ≤ n → n ≤ hand.left.seats → amount_of finish n ≡ amount_of hand.left n + (amount_of pots.returned n + sum_by (λ row. amount_of row n) (shares_in shares))

module _ (setup : Setup) (past : Past) (hand : HandAtEnd) (pots : PotRow) (is : IsAtEnd setup past hand) (are : ArePotsOf setup past pots) (eligible : All (λ (pot : Pot). pot.eligible.seats ≡ setup.stacks.seats) (pots_in pots)) where
  -- who may win a pot is a seat of the hand
  inside : AreOfSeats hand.shown.seats (plain_pots pots)
  inside = pots_of_seats (pots_in pots) hand.shown.seats (λ k d within. eligible k d within ∙ sym is.seats.shown)

  -- the first pot without a shown hand
  pub unshown_is : first_unshown (showdown_in setup (core_of setup past)) (core_of setup past).pots ≡ first_unshown (showdown_of hand.hands hand.board hand.shown) (plain_pots pots)
  unshown_is =
      sym (ap (first_unshown (showdown_in setup (core_of setup past))) are.pots)
      ∙ sym (same_first (showdown_of hand.hands hand.board hand.shown) (showdown_in setup (core_of setup past)) (plain_pots pots) is.shows inside)

  -- the first rake that is more than its pot
  pub rake_is : first_rake_above setup.rakes (core_of setup past).pots ≡ first_rake_above setup.rakes (plain_pots pots)
  rake_is = ap (first_rake_above setup.rakes) (sym are.pots)

  pub whole_trace : (shares : ShareRow) (finish : SeatRow) → pots.returned.seats ≡ setup.stacks.seats → IsPaid setup hand pots shares finish
      → IsTraceOf setup past (record { setup = setup; places = hand.places; moves = hand.moves; shown = hand.shown; mucked = hand.mucked; pots = pots; shares = shares; finish = finish })
  whole_trace shares finish returned_seats paid =
      let trace : Trace = record { setup = setup; places = hand.places; moves = hand.moves; shown = hand.shown; mucked = hand.mucked; pots = pots; shares = shares; finish = finish } in
      let rows_see = showdown_of hand.hands hand.board hand.shown in
      let rules_see = showdown_in setup (core_of setup past) in
      let shared = all_same setup.code rows_see rules_see (nets_of setup.rakes (plain_pots pots)) (plain_shares shares) is.shows (nets_of_seats 1 setup.rakes (plain_pots pots) hand.shown.seats inside) paid.shared in
      record {
        same_setup = refl;
        seats = record {
          shown = is.seats.shown;
          mucked = is.seats.mucked;
          eligible = eligible;
          returned = returned_seats;
          shares = λ k d within. paid.share_seats k d within ∙ is.seats.shown;
          finish = paid.finish_seats ∙ is.seats.left;
        };
        core = same_core (core_said trace) (core_of setup past) is.places is.moves is.shown is.mucked are.pots
            (map_agree (amount_of pots.returned) (returned_after setup (moves_of past)) 1 setup.stacks.seats (λ n low high. are.returned n low (omega (arith, high))));
        shares = record {
          shared = subst (λ (these : List PlainPot). AllShared setup.code rules_see (nets_of setup.rakes these) (plain_shares shares)) are.pots shared;
          finishes = λ seat low high.
              finish_is setup past (shares_in shares) (amount_of hand.left seat) (amount_of pots.returned seat) (amount_of finish seat) seat (is.left seat low high) (are.returned seat low high)
              (paid.finishes seat low (omega (arith, high, is.seats.left)));
        };
      }
