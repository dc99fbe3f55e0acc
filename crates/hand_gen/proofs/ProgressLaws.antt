-- A made hand makes progress: what comes next is legal, and when nothing comes the hand is over
-- except for its shows.
use Rattle.std.proofs.Common.{◌≡◌, ℕ, ◌-◌, ◌≤◌, ◌<◌, Bool, true, false, ◌||◌, nat_lt, if◌then◌else◌, Option, Some, None, List, ◌∷◌, take, is_some, refl, sym, ap, subst, ◌∙◌, arith}
use Rattle.std.specs.List.{list_any}
use Rattle.std.proofs.lemmas.Bool.{and_parts, lt-ltb, ltb-true}
use Rattle.std.proofs.lemmas.Option.{same_Some}
use Rattle.card_set.specs.Known.{known_slots}
use Rattle.card_set.proofs.Finding.{some_found}
use Rattle.card_set.proofs.NumbersOfRange.{found_in_range}
use Rattle.card_set.proofs.Options.{some_is_none}
use Rattle.card_set.proofs.Tests.{false_true}
use Rattle.play_event.specs.declared.reason.Due.{Due}
use Rattle.play_event.specs.declared.reason.Due.TheVariants as dues
use Rattle.play_event.specs.declared.setup.Setup.{Setup}
use Rattle.play_event.specs.Dealing.{board_cards_owed, cards_owed, hole_cards_dealt, hole_cards_owed, is_deal_due, is_draw_due, next_to_draw, replacements_owed}
use Rattle.play_event.specs.Due.{is_bring_in_due, is_move_due, is_unfinished, turn}
use Rattle.play_event.specs.Games.{hole_cards_on}
use Rattle.play_event.specs.HistoryRules.{history_rules}
use Rattle.play_event.specs.Openers.{InTurn, NoSeat, TheSeat, Undecided}
use Rattle.play_event.specs.Past.{Past, moves_of}
use Rattle.play_event.specs.Said as said
use Rattle.play_event.specs.Said.{Said}
use Rattle.play_event.specs.Scripts.{past_of}
use Rattle.play_event.specs.Seats.{all_seats, is_live}
use Rattle.play_event.specs.Streets.{has_draw}
use Rattle.play_event.specs.ValidSetup.{IsValid}
use Rattle.play_event.proofs.StreetLaws.{due_is_first}
use Rattle.play_laws.proofs.CardTurns.{deal_by, draw_by, none_dealt_in_draw}
use Rattle.play_laws.proofs.DueStreets.{deal_street, draw_street}
use Rattle.deal_core.specs.NextDeal.{first_owed}
use Rattle.betting_numbers.specs.TurnSaid.{in_turn_on}
use Rattle.hand_gen.specs.Coming.{Coming, bring_in_comes, coming, comes_at, deal_comes, deal_of, discard_or, draw_comes, held_by, move_by, move_comes, nothing_comes}
use Rattle.hand_gen.specs.HandSource.{HandSource, after_cards, after_draw, draw_of, next_cards}
use Rattle.hand_gen.proofs.ComesNext.{bring_in_good, move_good, the_player_to_act}
use Rattle.hand_gen.proofs.GoingHands.{IsGoing, board_goes, discard_goes, hole_goes, on_street}
use Rattle.chip_ledger.specs.Seat.{IsSeatOf}

some_of : (n m : ℕ) → 0 < n - m → nat_lt 0 n ≡ true
some_of n m some = lt-ltb 0 n (omega (arith, some))

live_some : (live : Bool) (n m : ℕ) → 0 < (if live then n - m else 0) → nat_lt 0 n ≡ true
live_some true n m some = some_of n m some
live_some false n m some = absurd (omega (arith, some))

module _ (setup : Setup) (valid : IsValid setup) (four : setup.stacks.seats ≤ 4) (events : List Said) (stock : HandSource) (going : IsGoing setup events stock.deck) where
  abbrev now : Past
  now = past_of setup events

  -- what comes goes on with the hand
  abbrev pub Goes : Coming → Type 0
  Goes c = (event : Said) → c.event ≡ Some event → IsGoing setup (event ∷ events) c.left.deck

  goes_with : (first : Said) (left : HandSource) → IsGoing setup (first ∷ events) left.deck → Goes (record { event = Some first; left = left })
  goes_with first left it event is = subst (λ (e : Said). IsGoing setup (e ∷ events) left.deck) (same_Some first event is) it

  goes_nowhere : Goes (nothing_comes stock)
  goes_nowhere event is = absurd (some_is_none (sym is))

  -- which owners are due cards
  owed_seat : (street seat : ℕ) → first_owed setup now street ≡ Some seat → (IsSeatOf setup.stacks.seats seat) × (0 < cards_owed setup now street seat)
  owed_seat street seat is =
      let it = found_in_range (λ s. nat_lt 0 (cards_owed setup now street s)) 1 setup.stacks.seats seat is in
      (record { first = it.1.0; last = omega (arith, it.1.1) }, ltb-true 0 (cards_owed setup now street seat) it.0)

  nobody_owed : (street : ℕ) → first_owed setup now street ≡ None → list_any (λ s. nat_lt 0 (cards_owed setup now street s)) (all_seats setup) ≡ false
  nobody_owed street is = sym (some_found (λ s. nat_lt 0 (cards_owed setup now street s)) (all_seats setup)) ∙ ap is_some is

  -- a deal
  module _ (street : ℕ) (turned : turn setup now ≡ (street, dues.Deal street)) where
    deal_due : is_deal_due setup now street ≡ true
    deal_due =
        (deal_by street street (is_deal_due setup now street) (is_draw_due setup now street) (is_bring_in_due setup (moves_of now) street) (is_move_due setup (moves_of now) street)
        (due_is_first setup now street (dues.Deal street) turned refl).is_due).1

    undrawn : has_draw setup.code street ≡ false
    undrawn = let on = on_street setup four events stock going street (dues.Deal street) turned in none_dealt_in_draw setup now street on.first on.last deal_due

    deal_goes : Goes (deal_comes setup now street stock)
    deal_goes = by_found (first_owed setup now street) refl
      where
        by_found : (found : Option ℕ) → first_owed setup now street ≡ found → Goes (deal_of found (cards_owed setup now street) (board_cards_owed setup now street) stock)
        by_found (Some seat) is =
            let it = owed_seat street seat is in
            goes_with (said.Hole seat (known_slots (next_cards (cards_owed setup now street seat) stock))) (after_cards (cards_owed setup now street seat) stock) (hole_goes setup four events stock going street (dues.Deal street) seat turned refl (λ cards.
            live_some (is_live (moves_of now) seat) (hole_cards_on setup.code street) (hole_cards_dealt now street seat)
            (omega (arith, it.1, ap (λ b. if b then replacements_owed now street seat else hole_cards_owed setup now street seat) undrawn))) it.0 it.1)
        by_found None is =
            let none : list_any (λ s. nat_lt 0 (hole_cards_owed setup now street s)) (all_seats setup) ≡ false =
            sym (ap (λ b. list_any (λ s. nat_lt 0 (if b then replacements_owed now street s else hole_cards_owed setup now street s)) (all_seats setup)) undrawn) ∙ nobody_owed street is in
            let board : nat_lt 0 (board_cards_owed setup now street) ≡ true = sym (ap (λ b. b || nat_lt 0 (board_cards_owed setup now street)) none) ∙ deal_due in
            goes_with (said.Board (next_cards (board_cards_owed setup now street) stock)) (after_cards (board_cards_owed setup now street) stock) (board_goes setup four events stock going street turned (ltb-true 0 (board_cards_owed setup now street) board))

  -- a draw
  module _ (street : ℕ) (turned : turn setup now ≡ (street, dues.Draw street)) where
    draw_due : is_draw_due setup now street ≡ true
    draw_due =
        (draw_by street street (is_deal_due setup now street) (is_draw_due setup now street) (is_bring_in_due setup (moves_of now) street) (is_move_due setup (moves_of now) street)
        (due_is_first setup now street (dues.Draw street) turned refl).is_due).2

    draw_goes : Goes (draw_comes setup now street stock)
    draw_goes = by_next (next_to_draw setup now street) refl
      where
        replaces : next_to_draw setup now street ≡ None → (found : Option ℕ) → first_owed setup now street ≡ found → Goes (deal_of found (cards_owed setup now street) (board_cards_owed setup now street) stock)
        replaces none (Some seat) is =
            let it = owed_seat street seat is in
            goes_with (said.Hole seat (known_slots (next_cards (cards_owed setup now street seat) stock))) (after_cards (cards_owed setup now street seat) stock) (hole_goes setup four events stock going street (dues.Draw street) seat turned refl (λ cards. refl) it.0 it.1)
        replaces none None is =
            let parts = and_parts (has_draw setup.code street) (is_some (next_to_draw setup now street) || list_any (λ s. nat_lt 0 (replacements_owed now street s)) (all_seats setup)) draw_due in
            let some : list_any (λ s. nat_lt 0 (replacements_owed now street s)) (all_seats setup) ≡ true =
            sym (ap (λ (n : Option ℕ). is_some n || list_any (λ s. nat_lt 0 (replacements_owed now street s)) (all_seats setup)) none) ∙ parts.1 in
            let no_one : list_any (λ s. nat_lt 0 (replacements_owed now street s)) (all_seats setup) ≡ false =
            sym (ap (λ b. list_any (λ s. nat_lt 0 (if b then replacements_owed now street s else hole_cards_owed setup now street s)) (all_seats setup)) parts.0) ∙ nobody_owed street is in
            false_true (sym no_one ∙ some)

        by_next : (next : Option ℕ) → next_to_draw setup now street ≡ next → Goes (discard_or next (held_by setup now) (deal_comes setup now street stock) stock)
        by_next (Some seat) is = goes_with (said.Discard seat (take (draw_of 3 stock) (held_by setup now seat))) (after_draw stock) (discard_goes setup four events stock going street seat turned is)
        by_next None is = replaces is (first_owed setup now street) refl

  -- what is due
  here : (street on : ℕ) (due : ℕ → Due) → turn setup now ≡ (street, due on) → on ≡ street → turn setup now ≡ (on, due on)
  here street on due turned same = turned ∙ ap (λ (s : ℕ). (s, due on)) (sym same)

  comes_goes : (street : ℕ) (due : Due) → turn setup now ≡ (street, due) → Goes (comes_at setup history_rules now stock street due)
  comes_goes street (dues.Deal on) turned = deal_goes on (here street on dues.Deal turned (deal_street setup now on (ap (λ (t : ℕ × Due). t.1) turned) ∙ ap (λ (t : ℕ × Due). t.0) turned))
  comes_goes street (dues.Draw on) turned = draw_goes on (here street on dues.Draw turned (draw_street setup now on (ap (λ (t : ℕ × Due). t.1) turned) ∙ ap (λ (t : ℕ × Due). t.0) turned))
  comes_goes street dues.BringIn turned = by_turn (in_turn_on setup now street) refl
    where
      by_turn : (t : InTurn) → in_turn_on setup now street ≡ t → Goes (bring_in_comes stock t)
      by_turn (TheSeat seat) is = goes_with (said.BringIn (Some seat)) stock (bring_in_good setup valid four events stock going street dues.BringIn turned seat is refl)
      by_turn NoSeat is = goes_nowhere
      by_turn Undecided is = goes_nowhere
  comes_goes street dues.Move turned = by_turn (in_turn_on setup now street) refl
    where
      by_turn : (t : InTurn) → in_turn_on setup now street ≡ t → Goes (move_comes setup history_rules (moves_of now) street stock t)
      by_turn (TheSeat seat) is = goes_with (move_by setup history_rules (moves_of now) street seat (draw_of 8 stock)) (after_draw stock) (move_good setup valid four events stock going street dues.Move turned seat is refl (draw_of 8 stock))
      by_turn NoSeat is = goes_nowhere
      by_turn Undecided is = goes_nowhere
  comes_goes street dues.Show turned = goes_nowhere
  comes_goes street dues.Over turned = goes_nowhere

  -- one more event of a made hand
  pub goes_on : Goes (coming setup history_rules now stock)
  unfolding coming
  goes_on = comes_goes (turn setup now).0 (turn setup now).1 refl

  -- something comes while anything but shows is due
  never_none : (street : ℕ) (due : Due) → turn setup now ≡ (street, due) → is_unfinished due ≡ true → (comes_at setup history_rules now stock street due).event ≡ None → ⊥
  never_none street (dues.Deal on) turned unfinished is = dealt (first_owed setup now on) is
    where
      dealt : (found : Option ℕ) → (deal_of found (cards_owed setup now on) (board_cards_owed setup now on) stock).event ≡ None → ⊥
      dealt (Some seat) none = some_is_none none
      dealt None none = some_is_none none
  never_none street (dues.Draw on) turned unfinished is = drawn (next_to_draw setup now on) (first_owed setup now on) is
    where
      drawn : (next found : Option ℕ) → (discard_or next (held_by setup now) (deal_of found (cards_owed setup now on) (board_cards_owed setup now on) stock) stock).event ≡ None → ⊥
      drawn (Some seat) found none = some_is_none none
      drawn None (Some seat) none = some_is_none none
      drawn None None none = some_is_none none
  never_none street dues.BringIn turned unfinished is =
      let it = the_player_to_act setup valid four events stock going street dues.BringIn turned refl in
      some_is_none (sym (ap (λ t. (bring_in_comes stock t).event) it.1) ∙ is)
  never_none street dues.Move turned unfinished is =
      let it = the_player_to_act setup valid four events stock going street dues.Move turned refl in
      some_is_none (sym (ap (λ t. (move_comes setup history_rules (moves_of now) street stock t).event) it.1) ∙ is)
  never_none street dues.Show turned unfinished is = false_true unfinished
  never_none street dues.Over turned unfinished is = false_true unfinished

  pub ended : (coming setup history_rules now stock).event ≡ None → is_unfinished (turn setup now).1 ≡ false
  unfolding coming
  ended none = by_due (is_unfinished (turn setup now).1) refl
    where
      by_due : (b : Bool) → is_unfinished (turn setup now).1 ≡ b → b ≡ false
      by_due true is = absurd (never_none (turn setup now).0 (turn setup now).1 refl is none)
      by_due false is = refl
