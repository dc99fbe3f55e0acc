-- How many cards the events of a canonical script have: a deal of the board, a discard, a show.
use Rattle.std.proofs.Common.{◌≡◌, ℕ, ◌+◌, ◌-◌, ◌≤◌, true, false, ◌&&◌, ◌==◌, not, nat_lt, nat_le, List, filter, length, Some, None, sym, ◌∙◌, ap, arith}
use Rattle.std.specs.List.{list_any}
use Rattle.std.proofs.lemmas.Bool.{and_parts, and_from, and_right, eqb-true, leb-true, lt-leb, lt-ltb, le-ltb, not_from_false}
use Rattle.std.proofs.lemmas.List.{length-map}
use Rattle.card_set.specs.Known.{known_among}
use Rattle.play_event.specs.declared.setup.Rules.{Rules}
use Rattle.play_event.specs.declared.setup.Setup.{Setup}
use Rattle.play_event.specs.Games.{game_of, street_count}
use Rattle.play_event.specs.Laws.{AreLegal}
use Rattle.play_event.specs.Past.{Past, moves_of}
use Rattle.play_event.specs.Places.{Place, is_in_group, is_same_owner}
use Rattle.play_event.specs.Said.{Said}
use Rattle.play_event.specs.Scripts.{past_of}
use Rattle.play_event.specs.Seats.{is_live, live_count}
use Rattle.play_event.specs.Streets.{has_draw}
use Rattle.play_event.specs.Table.{places_of}
use Rattle.play_event.specs.Trace.{is_shown}
use Rattle.play_event.specs.Due.{is_unfinished, turn}
use Rattle.play_event.specs.CanonScript.{dealt_slots, discarded_slots, held_slots}
use Rattle.play_event.specs.TraceCore.{TraceCore, core_of}
use Rattle.play_laws.proofs.DiscardCounts.{is_out_of}
use Rattle.play_laws.proofs.DonePasts.{legal_done}
use Rattle.play_laws.proofs.HeldFew.{filter_less, held_most, is_held_at}
use Rattle.play_laws.proofs.LegalPlaces.{legal_past}
use Rattle.play_laws.proofs.PlayedStreets.{board_count}
use Rattle.canon_laws.proofs.TraceOrder.{finals_group, finals_of, the_board}
use Rattle.canon_laws.proofs.TracedSlots.{dealt_same, discarded_same}
use Rattle.canon_laws.proofs.HeldSame.{held_script}
use Rattle.canon_laws.proofs.LastPast.{shown_parts}
use Rattle.card_set.proofs.NumbersOfRange.{is_in}
use Rattle.canon_laws.proofs.StreetDiscards.{out_finals}
use Rattle.canon_laws.proofs.TidyTraces.{tidy_cards}
use Rattle.play_laws.specs.ContestedEnd.{EndContested}
use Rattle.play_laws.proofs.WholeHands.{whole_hands}
use Rattle.canon_laws.proofs.GameSizes.{few_boards, few_drawn}
use Rattle.chip_ledger.specs.Seat.{IsSeatOf}
use Rattle.card_set.proofs.KnownCards.{all_known_length}
use Rattle.canon_laws.proofs.StreetsPlayed as streets_played

module _ (setup : Setup) (rules : Rules) (events : List Said) (legal : AreLegal setup rules events) where
  abbrev past : Past
  past = past_of setup events

  abbrev placed : List Place
  placed = places_of setup.code past

  abbrev count : ℕ
  count = street_count setup.code

  abbrev finals : List Place
  finals = finals_of setup placed count

  abbrev core : TraceCore
  core = core_of setup past

  -- the board has at most five cards of a street
  pub board_few : (street : ℕ) → 1 ≤ street → street ≤ street_count setup.code → length (dealt_slots core.places None street) ≤ 5
  board_few street some within =
      omega (
        arith,
        ap (λ l. length l) (dealt_same finals None street),
        length-map (filter (is_in_group None street) finals) (λ (p : Place). p.slot),
        ap (λ (l : List Place). length l) (finals_group setup placed None street count the_board some within),
        board_count setup.code past street,
        (legal_done setup rules events legal).done.board_most street,
        few_boards setup.code street,
      )

  -- and they are known
  pub board_known : (street : ℕ) → length (known_among (dealt_slots core.places None street)) ≡ length (dealt_slots core.places None street)
  board_known street = all_known_length (dealt_slots core.places None street) (streets_played.board_known core.places street (tidy_cards setup rules events legal).board_known)

  -- what a draw takes was held when its street began
  out_few : (seat street : ℕ) → 1 ≤ street → has_draw setup.code street ≡ true → length (filter (is_out_of street seat) placed) ≤ 5
  out_few seat street some draws =
      let law = (legal_past setup rules events legal).places in
      let same : (street - 1) + 1 ≡ street = omega (arith, some) in
      omega (
        arith,
        held_most setup rules events seat (street - 1) legal,
        few_drawn setup.code street (street - 1) draws,
        ap (λ k. length (filter (is_held_at seat k) placed)) same,
        filter_less (is_out_of street seat) (is_held_at seat street) placed (λ place among is.
            let parts = and_parts (is_same_owner place.owner (Some seat)) (place.discarded == street) is in
            let here : place.discarded ≡ street = eqb-true place.discarded street parts.1 in
            and_from (is_same_owner place.owner (Some seat)) (nat_lt place.street street && not (nat_lt 0 place.discarded && nat_lt place.discarded street)) parts.0
            (and_from (nat_lt place.street street) (not (nat_lt 0 place.discarded && nat_lt place.discarded street)) (lt-ltb place.street street (omega (arith, here, law.out_after place among (omega (arith, here, some)))))
            (not_from_false (nat_lt 0 place.discarded && nat_lt place.discarded street) (and_right (nat_lt 0 place.discarded) (nat_lt place.discarded street) (le-ltb place.discarded street (omega (arith, here))))))),
      )

  -- a discard has at most five cards
  pub discard_few : (seat street : ℕ) → IsSeatOf setup.stacks.seats seat → 1 ≤ street → street ≤ street_count setup.code → has_draw setup.code street ≡ true → length (discarded_slots core.places seat street) ≤ 5
  discard_few seat street in_hand some within draws =
      omega (
        arith,
        ap (λ l. length l) (discarded_same finals seat street),
        length-map (filter (is_out_of street seat) finals) (λ (p : Place). p.slot),
        ap (λ (l : List Place). length l) (out_finals setup rules events street seat count legal some (omega (arith, within)) in_hand.first in_hand.last),
        out_few seat street some draws,
      )

  -- a shown seat of a contested hand shows a whole hand
  pub shown_whole : (seat : ℕ) → IsSeatOf setup.stacks.seats seat → nat_le 2 (live_count setup (moves_of past)) ≡ true → is_unfinished (turn setup past).1 ≡ false → list_any (λ other. other == seat) core.shown ≡ true
      → length (known_among (held_slots core.places seat)) ≡ (game_of setup.code).hole
  shown_whole seat in_hand contested finished shown =
      let is : is_shown setup past seat ≡ true = sym (is_in (is_shown setup past) 1 setup.stacks.seats seat in_hand.first (omega (arith, in_hand.last))) ∙ shown in
      let live : is_live (moves_of past) seat ≡ true = (shown_parts setup past seat is).live in
      let several : nat_le (live_count setup (moves_of past)) 1 ≡ false = lt-leb (live_count setup (moves_of past)) 1 (omega (arith, leb-true 2 (live_count setup (moves_of past)) contested)) in
      let ends : EndContested setup rules events = record { legal = legal; several = several; finished = finished } in
      all_known_length (held_slots core.places seat) ((tidy_cards setup rules events legal).shown_known seat shown)
      ∙ (ap (λ l. length l) (discarded_same finals seat 0 ∙ held_script setup rules events seat legal in_hand.first in_hand.last live)
      ∙ whole_hands setup rules events seat ends (record { least = in_hand.first; most = in_hand.last; live = live }))
