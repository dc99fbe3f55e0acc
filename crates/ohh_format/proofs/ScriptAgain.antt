-- The script that is read from the rounds of a hand is its canonical script in the words of the
-- format, and its posts are those of the setup.
use Rattle.std.proofs.Common.{◌≡◌, ℕ, zero, suc, ◌+◌, ◌-◌, ◌≤◌, Bool, true, false, cond, if◌then◌else◌, List, [], ◌∷◌, ◌++◌, length, map, Some, None, refl, sym, ap, ap₂, subst, ◌∙◌, arith, append_assoc}
use Rattle.std.specs.List.{AllByRecursion, flat_map, range_with_len}
use Rattle.std.proofs.lemmas.List.{append-nil, length-append, length-map}
use Rattle.card_set.specs.Known.{known_among}
use Rattle.card_set.specs.declared.card.Slot.{Slot}
use Rattle.chip_ledger.specs.LiveRow.{flag_of}
use Rattle.chip_ledger.specs.Seat.{seats_of}
use Rattle.chip_ledger.specs.SeatRow.{amount_of}
use Rattle.play_event.specs.CanonScript.{board_said, deal_said, deals_said, dealt_slots, held_slots, plain_moves, showdown_said}
use Rattle.hand_canon.specs.TraceRows.{core_said}
use Rattle.hand_canon.specs.declared.trace.Trace.{Trace}
use Rattle.card_set.proofs.NumbersOfRange.{flat_none}
use Rattle.play_event.specs.Chips.{blind_posted}
use Rattle.play_event.specs.Said as said
use Rattle.play_event.specs.Said.{Numbered, Said}
use Rattle.play_event.specs.Seats.{all_seats}
use Rattle.play_event.specs.Trace.{TracedMove, TracedPlace}
use Rattle.play_event.specs.declared.setup.Setup.{Setup}
use Rattle.ohh_members.specs.declared.dialect.Dialect.{Dialect}
use Rattle.ohh_writing.specs.Actions.{has_known_card, posts, seat_of_big_blind, seat_of_small_blind}
use Rattle.ohh_rounds.specs.Posts.{PlainPost}
use Rattle.ohh_rounds.specs.declared.post.PostKind.TheVariants as kinds
use Rattle.ohh_rounds.specs.Play.{events_in, hole_deal, posts_in, script_said}
use Rattle.ohh_rounds.specs.HandContext.{PlainHandContext}
use Rattle.ohh_rounds.specs.Steps.{PlainStep}
use Rattle.ohh_format.specs.Again.{moves_again, numbered_from, script_again, street_again}
use Rattle.ohh_format.proofs.EffectRounds.{EffectRound, board_effects, effects_on, first_effects, later_rounds, rounds_of, showdown_effects}
use Rattle.ohh_format.proofs.Effects.{ActionEffect, Bets, Calls, Checks, Deals, Folds, Mucks, Posts, Raises, Shows, action_of, ante_effect, blind_effect, deal_effects, post_effects, posts_are, showing_effect, showing_effects, straddle_effect}
use Rattle.ohh_format.proofs.EventsAgain.{IsNoDeal, IsNoPost, IsPost, NoDeal, at_number, board_steps, effects_in, events_of_rounds, holes_again, no_deal_board, no_deal_both, no_deals, no_posts, numbered_both, numbered_effects, posts_both, posts_of_steps, puts_among, round_events, round_events_both, round_steps, steps_behind}
use Rattle.ohh_format.proofs.MovesAgain.{moves_count, moves_events, moves_no_deals, moves_no_posts, no_moves, numbered_behind, told_in}
use Rattle.ohh_format.proofs.PlayAgain.{CanBePlayed, all_posts, all_weaker, post_no_deal, steps}
use Rattle.ohh_format.proofs.PostsAgain.{antes_put, posts_ante, posts_straddle, puts, straddles_put}
use Rattle.ohh_format.proofs.PutsAgain.{Put, posts_at}
use Rattle.ohh_format.proofs.StepsAgain.{steps_both, steps_of}
use Rattle.ohh_members.specs.declared.street.StreetName.{StreetName}
use Rattle.ohh_members.specs.declared.street.StreetName.TheVariants as streets

-- ---- the posts of a setup

puts_both : (some more : List ActionEffect) → puts_among (some ++ more) ≡ puts_among some ++ puts_among more
puts_both [] more = refl
puts_both (Posts kind seat amount left ∷ some) more = ap (λ (l : List Put). record { kind = kind; seat = seat; amount = amount } ∷ l) (puts_both some more)
puts_both (Deals seat cards ∷ some) more = puts_both some more
puts_both (Folds seat ∷ some) more = puts_both some more
puts_both (Checks seat ∷ some) more = puts_both some more
puts_both (Calls seat amount left ∷ some) more = puts_both some more
puts_both (Bets seat amount left ∷ some) more = puts_both some more
puts_both (Raises seat amount left ∷ some) more = puts_both some more
puts_both (Shows seat cards ∷ some) more = puts_both some more
puts_both (Mucks seat ∷ some) more = puts_both some more

antes_are : (setup : Setup) (seats : List ℕ) → puts_among (flat_map (ante_effect setup) seats) ≡ antes_put setup seats
antes_are setup [] = refl
antes_are setup (seat ∷ rest) =
    puts_both (ante_effect setup seat) (flat_map (ante_effect setup) rest) ∙ ap₂ (λ (a b : List Put). a ++ b) (by_ante (posts_ante setup seat)) (antes_are setup rest)
  where
    by_ante : (some : Bool) → puts_among (if some then Posts kinds.Ante seat (amount_of setup.antes seat) (amount_of setup.stacks seat - amount_of setup.antes seat) ∷ [] else [])
        ≡ (if some then record { kind = kinds.Ante; seat = seat; amount = amount_of setup.antes seat } ∷ [] else [])
    by_ante true = refl
    by_ante false = refl

straddles_are : (setup : Setup) (seats : List ℕ) → puts_among (flat_map (straddle_effect setup) seats) ≡ straddles_put setup seats
straddles_are setup [] = refl
straddles_are setup (seat ∷ rest) =
    puts_both (straddle_effect setup seat) (flat_map (straddle_effect setup) rest) ∙ ap₂ (λ (a b : List Put). a ++ b) (by_blind (posts_straddle setup seat)) (straddles_are setup rest)
  where
    by_blind : (some : Bool) → puts_among (if some then blind_effect setup kinds.Straddle seat ∷ [] else []) ≡ (if some then record { kind = kinds.Straddle; seat = seat; amount = blind_posted setup seat } ∷ [] else [])
    by_blind true = refl
    by_blind false = refl

puts_are : (setup : Setup) → puts_among (post_effects setup) ≡ puts setup
puts_are setup =
    puts_both (flat_map (ante_effect setup) (all_seats setup)) (blind_effect setup kinds.SmallBlind (seat_of_small_blind setup) ∷ blind_effect setup kinds.BigBlind (seat_of_big_blind setup) ∷ flat_map (straddle_effect setup) (all_seats setup))
    ∙ ap₂ (λ (a b : List Put). a ++ (record { kind = kinds.SmallBlind; seat = seat_of_small_blind setup; amount = blind_posted setup (seat_of_small_blind setup) } ∷ record { kind = kinds.BigBlind; seat = seat_of_big_blind setup; amount = blind_posted setup (seat_of_big_blind setup) } ∷ b))
    (antes_are setup (all_seats setup)) (straddles_are setup (all_seats setup))

-- ---- what holds of the deeds of each round

abbrev AllRounds : (ActionEffect → Type 0) → List EffectRound → Type 0
AllRounds P [] = Unit {0}
AllRounds P (one ∷ rest) = AllByRecursion P one.effects × AllRounds P rest

rounds_both : (P : ActionEffect → Type 0) (some more : List EffectRound) → AllRounds P some → AllRounds P more → AllRounds P (some ++ more)
rounds_both P [] more one other = other
rounds_both P (x ∷ some) more one other = (one.0, rounds_both P some more one.1 other)

of_board : (P : ActionEffect → Type 0) (street : StreetName) (cards : List Slot) (effects : List ActionEffect) → AllByRecursion P effects → AllRounds P (board_effects street cards effects)
of_board P street [] effects all = tt
of_board P street (slot ∷ rest) effects all = (all, tt)

of_showdown : (P : ActionEffect → Type 0) (effects : List ActionEffect) → AllByRecursion P effects → AllRounds P (showdown_effects effects)
of_showdown P [] all = tt
of_showdown P (effect ∷ rest) all = (all, tt)

rounds_no_posts : (dialect : Dialect) (n index : ℕ) (rounds : List EffectRound) → AllRounds IsNoPost rounds → posts_in (round_steps dialect n index rounds) ≡ []
rounds_no_posts dialect n index [] all = refl
rounds_no_posts dialect n index (one ∷ rest) all =
    let effects : List PlainStep = steps_of dialect n index 0 one.effects in
    let more : List PlainStep = round_steps dialect (n + length one.effects) (index + 1) rest in
    posts_both (board_steps one.cards) (effects ++ more)
    ∙ ap₂ (λ (a b : List PlainPost). a ++ b) (no_board one.cards)
    (posts_both effects more ∙ ap₂ (λ (a b : List PlainPost). a ++ b) (no_posts dialect n index 0 one.effects all.0) (rounds_no_posts dialect (n + length one.effects) (index + 1) rest all.1))
  where
    no_board : (cards : List Slot) → posts_in (board_steps cards) ≡ []
    no_board [] = refl
    no_board (slot ∷ rest) = refl

rounds_no_deals : (dialect : Dialect) (n index seat : ℕ) (rounds : List EffectRound) → AllRounds IsNoDeal rounds → NoDeal seat (round_steps dialect n index rounds)
rounds_no_deals dialect n index seat [] all = record { cards = refl; none = refl }
rounds_no_deals dialect n index seat (one ∷ rest) all =
    let effects : List PlainStep = steps_of dialect n index 0 one.effects in
    let more : List PlainStep = round_steps dialect (n + length one.effects) (index + 1) rest in
    no_deal_both seat (board_steps one.cards) (effects ++ more) (no_deal_board seat one.cards)
    (no_deal_both seat effects more (no_deals dialect n index 0 seat one.effects all.0) (rounds_no_deals dialect (n + length one.effects) (index + 1) seat rest all.1))

-- ---- events of posts and deals

no_events : (dialect : Dialect) (n : ℕ) (effects : List ActionEffect) → AllByRecursion IsPost effects → numbered_effects dialect n effects ≡ []
no_events dialect n [] all = refl
no_events dialect n (Posts kind seat amount left ∷ rest) all = no_events dialect (n + 1) rest all.1
no_events dialect n (Deals seat cards ∷ rest) all = absurd all.0
no_events dialect n (Folds seat ∷ rest) all = absurd all.0
no_events dialect n (Checks seat ∷ rest) all = absurd all.0
no_events dialect n (Calls seat amount left ∷ rest) all = absurd all.0
no_events dialect n (Bets seat amount left ∷ rest) all = absurd all.0
no_events dialect n (Raises seat amount left ∷ rest) all = absurd all.0
no_events dialect n (Shows seat cards ∷ rest) all = absurd all.0
no_events dialect n (Mucks seat ∷ rest) all = absurd all.0

deal_events : (dialect : Dialect) (placed : List TracedPlace) (n : ℕ) (seats : List ℕ) → numbered_effects dialect n (deal_effects placed seats) ≡ []
deal_events dialect placed n [] = refl
deal_events dialect placed n (seat ∷ rest) = by_known (has_known_card (dealt_slots placed (Some seat) 1)) (λ k. deal_events dialect placed k rest)
  where
    by_known : (known : Bool) → ((k : ℕ) → numbered_effects dialect k (deal_effects placed rest) ≡ []) → numbered_effects dialect n ((if known then Deals seat (dealt_slots placed (Some seat) 1) ∷ [] else []) ++ deal_effects placed rest) ≡ []
    by_known true later = later (n + 1)
    by_known false later = later n

deals_no_posts : (placed : List TracedPlace) (seats : List ℕ) → AllByRecursion IsNoPost (deal_effects placed seats)
deals_no_posts placed [] = tt
deals_no_posts placed (seat ∷ rest) = by_known (has_known_card (dealt_slots placed (Some seat) 1)) (deals_no_posts placed rest)
  where
    by_known : (known : Bool) → AllByRecursion IsNoPost (deal_effects placed rest) → AllByRecursion IsNoPost ((if known then Deals seat (dealt_slots placed (Some seat) 1) ∷ [] else []) ++ deal_effects placed rest)
    by_known true later = (tt, later)
    by_known false later = later

-- what a seat does at the showdown
abbrev pub showing_events : Trace → ℕ → List Said
showing_events trace seat =
    if flag_of trace.shown seat then said.Show seat (known_among (held_slots (core_said trace).places seat)) ∷ []
    else (if flag_of trace.mucked seat then said.Muck seat ∷ [] else [])

shows_are_no : (P : ActionEffect → Type 0) → ((seat : ℕ) (cards : List Slot) → P (Shows seat cards)) → ((seat : ℕ) → P (Mucks seat)) → (trace : Trace) (seats : List ℕ) → AllByRecursion P (flat_map (showing_effect trace) seats)
shows_are_no P shows mucks trace [] = tt
shows_are_no P shows mucks trace (seat ∷ rest) = by_flags (flag_of trace.shown seat) (flag_of trace.mucked seat) (shows_are_no P shows mucks trace rest)
  where
    by_flags : (shown mucked : Bool) → AllByRecursion P (flat_map (showing_effect trace) rest)
        → AllByRecursion P ((if shown then Shows seat (held_slots (core_said trace).places seat) ∷ [] else (if mucked then Mucks seat ∷ [] else [])) ++ flat_map (showing_effect trace) rest)
    by_flags true mucked later = (shows seat (held_slots (core_said trace).places seat), later)
    by_flags false true later = (mucks seat, later)
    by_flags false false later = later

shows_events : (dialect : Dialect) (trace : Trace) (n : ℕ) (seats : List ℕ) → numbered_effects dialect n (flat_map (showing_effect trace) seats) ≡ numbered_from n (flat_map (showing_events trace) seats)
shows_events dialect trace n [] = refl
shows_events dialect trace n (seat ∷ rest) = by_flags (flag_of trace.shown seat) (flag_of trace.mucked seat) (λ k. shows_events dialect trace k rest)
  where
    by_flags : (shown mucked : Bool) → ((k : ℕ) → numbered_effects dialect k (flat_map (showing_effect trace) rest) ≡ numbered_from k (flat_map (showing_events trace) rest))
        → numbered_effects dialect n ((if shown then Shows seat (held_slots (core_said trace).places seat) ∷ [] else (if mucked then Mucks seat ∷ [] else [])) ++ flat_map (showing_effect trace) rest)
        ≡ numbered_from n ((if shown then said.Show seat (known_among (held_slots (core_said trace).places seat)) ∷ [] else (if mucked then said.Muck seat ∷ [] else [])) ++ flat_map (showing_events trace) rest)
    by_flags true mucked later = ap (λ (l : List Numbered). at_number n (said.Show seat (known_among (held_slots (core_said trace).places seat)) ∷ []) ++ l) (later (n + 1))
    by_flags false true later = ap (λ (l : List Numbered). at_number n (said.Muck seat ∷ []) ++ l) (later (n + 1))
    by_flags false false later = later n

showdown_same : (dialect : Dialect) (n : ℕ) (effects : List ActionEffect) → round_events dialect n (showdown_effects effects) ≡ numbered_effects dialect n effects
showdown_same dialect n [] = refl
showdown_same dialect n (effect ∷ rest) = append-nil (numbered_effects dialect n (effect ∷ rest))

-- ---- events of rounds

-- the events of rounds, whatever the number of the first is
record AreSaid (dialect : Dialect) (events : List Said) (rounds : List EffectRound) : Type 0 where
  same : (n : ℕ) → numbered_from n events ≡ round_events dialect n rounds
  count : told_in events ≡ effects_in rounds

both_said : (dialect : Dialect) (xs ys : List Said) (some more : List EffectRound) → AreSaid dialect xs some → ((n : ℕ) → numbered_from n ys ≡ round_events dialect n more) → (n : ℕ) → numbered_from n (xs ++ ys) ≡ round_events dialect n (some ++ more)
both_said dialect xs ys some more one other n =
    numbered_behind n xs ys
    ∙ ap₂ (λ (a b : List Numbered). a ++ b) (one.same n) (ap (λ (k : ℕ). numbered_from (n + k) ys) one.count ∙ other (n + effects_in some))
    ∙ sym (round_events_both dialect n some more)

board_same : (dialect : Dialect) (street : StreetName) (cards : List Slot) (events : List Said) (effects : List ActionEffect) → ((n : ℕ) → numbered_effects dialect n effects ≡ numbered_from n events) → length effects ≡ told_in events → (cards ≡ [] → events ≡ [])
    → AreSaid dialect (board_said cards ++ events) (board_effects street cards effects)
board_same dialect street [] events effects same count quiet = record { same = λ n. ap (numbered_from n) (quiet refl); count = ap told_in (quiet refl) }
board_same dialect street (slot ∷ rest) events effects same count quiet =
    record {
      same = λ n. ap (λ (l : List Numbered). (0, said.Board (known_among (slot ∷ rest))) ∷ l) (sym (same n) ∙ sym (append-nil (numbered_effects dialect n effects)));
      count = omega (arith, count);
    }

module _ (setting : PlainHandContext) (trace : Trace) (is : CanBePlayed setting trace)
    (showdown : showdown_said trace.setup (core_said trace).places (plain_moves (core_said trace).moves) (core_said trace).shown ≡ flat_map (showing_events trace) (all_seats trace.setup)) where
  abbrev dialect : Dialect
  dialect = setting.dialect

  abbrev seats : ℕ
  seats = trace.setup.stacks.seats

  abbrev placed : List TracedPlace
  placed = (core_said trace).places

  abbrev moves : List TracedMove
  moves = (core_said trace).moves

  abbrev holes : List ActionEffect
  holes = deal_effects placed (all_seats trace.setup)

  abbrev opening : List ActionEffect
  opening = effects_on dialect trace 1

  abbrev post_count : ℕ
  post_count = length (post_effects trace.setup)

  abbrev hand_steps : List PlainStep
  hand_steps = steps setting trace is

  -- ---- one street

  abbrev street_events : ℕ → List Said
  street_events number = street_again dialect trace.setup placed moves number

  street_same : (street : StreetName) (number : ℕ) → 2 ≤ number → number ≤ 4 → AreSaid dialect (street_events number) (board_effects street (dealt_slots placed None number) (effects_on dialect trace number))
  street_same street number low high =
      let none : flat_map (λ seat. deal_said seat (dealt_slots placed (Some seat) number)) (all_seats trace.setup) ≡ [] =
      flat_none (λ seat. deal_said seat (dealt_slots placed (Some seat) number)) 1 seats (λ seat from within. ap (deal_said seat) (is.no_more seat number from (omega (arith, within)) low high)) in
      let board : deals_said trace.setup placed number ≡ board_said (dealt_slots placed None number) = ap (λ (l : List Said). l ++ board_said (dealt_slots placed None number)) none in
      subst (λ (l : List Said). AreSaid dialect (l ++ moves_again dialect moves number) (board_effects street (dealt_slots placed None number) (effects_on dialect trace number))) (sym board)
      (board_same dialect street (dealt_slots placed None number) (moves_again dialect moves number) (effects_on dialect trace number)
      (moves_events setting trace.setup number [] moves is.moves) (moves_count setting trace.setup number [] moves is.moves)
      (λ empty. (no_moves setting trace.setup number [] moves (is.quiet number low high empty)).1))

  abbrev last_events : List Said
  last_events = showdown_said trace.setup placed (plain_moves moves) (core_said trace).shown

  abbrev later_events : List Said
  later_events = street_events 2 ++ (street_events 3 ++ (street_events 4 ++ last_events))

  last_same : (n : ℕ) → numbered_from n last_events ≡ round_events dialect n (showdown_effects (showing_effects trace))
  last_same n =
      ap (numbered_from n) showdown ∙ sym (shows_events dialect trace n (all_seats trace.setup)) ∙ sym (showdown_same dialect n (showing_effects trace))

  later_same : (n : ℕ) → numbered_from n later_events ≡ round_events dialect n (later_rounds dialect trace)
  later_same =
      let river : List EffectRound = board_effects streets.River (dealt_slots placed None 4) (effects_on dialect trace 4) in
      let turn : List EffectRound = board_effects streets.Turn (dealt_slots placed None 3) (effects_on dialect trace 3) in
      let flop : List EffectRound = board_effects streets.Flop (dealt_slots placed None 2) (effects_on dialect trace 2) in
      let last : List EffectRound = showdown_effects (showing_effects trace) in
      both_said dialect (street_events 2) (street_events 3 ++ (street_events 4 ++ last_events)) flop (turn ++ (river ++ last)) (street_same streets.Flop 2 (omega arith) (omega arith))
      (both_said dialect (street_events 3) (street_events 4 ++ last_events) turn (river ++ last) (street_same streets.Turn 3 (omega arith) (omega arith))
      (both_said dialect (street_events 4) last_events river last (street_same streets.River 4 (omega arith) (omega arith)) last_same))

  -- ---- the first street

  abbrev hole_events : List Said
  hole_events = flat_map (λ seat. deal_said seat (dealt_slots placed (Some seat) 1)) (all_seats trace.setup)

  hole_count : told_in hole_events ≡ length holes
  hole_count = counted 1 seats (omega arith) (omega arith)
    where
      counted : (first many : ℕ) → 1 ≤ first → first + many ≤ seats + 1 → told_in (flat_map (λ seat. deal_said seat (dealt_slots placed (Some seat) 1)) (range_with_len first many)) ≡ length (deal_effects placed (range_with_len first many))
      counted first zero low high = refl
      counted first (suc many) low high =
          by_cards (dealt_slots placed (Some first) 1) (let count = is.holes first low (omega (arith, high)) in omega (arith, count, is.some_hole)) (counted (first + 1) many (omega (arith, low)) (omega (arith, high)))
        where
          by_cards : (cards : List Slot) → 1 ≤ length cards → told_in (flat_map (λ seat. deal_said seat (dealt_slots placed (Some seat) 1)) (range_with_len (first + 1) many)) ≡ length (deal_effects placed (range_with_len (first + 1) many))
              → told_in (deal_said first cards ++ flat_map (λ seat. deal_said seat (dealt_slots placed (Some seat) 1)) (range_with_len (first + 1) many))
              ≡ length ((if has_known_card cards then Deals first cards ∷ [] else []) ++ deal_effects placed (range_with_len (first + 1) many))
          by_cards [] some rest = absurd (omega (arith, some))
          by_cards (slot ∷ cards) some rest = by_known (has_known_card (slot ∷ cards))
            where
              by_known : (known : Bool) → cond known 1 0 + told_in (flat_map (λ seat. deal_said seat (dealt_slots placed (Some seat) 1)) (range_with_len (first + 1) many))
                  ≡ length ((if known then Deals first (slot ∷ cards) ∷ [] else []) ++ deal_effects placed (range_with_len (first + 1) many))
              by_known true = omega (arith, rest)
              by_known false = omega (arith, rest)

  script_is : script_again dialect trace ≡ hole_events ++ (moves_again dialect moves 1 ++ later_events)
  script_is =
      let board : deals_said trace.setup placed 1 ≡ hole_events = ap (λ (cards : List Slot). hole_events ++ board_said cards) is.no_board ∙ append-nil hole_events in
      let one : List Said = moves_again dialect moves 1 in
      let four : List Said = street_events 4 in
      ap (λ (l : List Said). ((l ++ one) ++ (street_events 2 ++ (street_events 3 ++ (four ++ [])))) ++ last_events) board
      ∙ ap (λ (l : List Said). ((hole_events ++ one) ++ (street_events 2 ++ (street_events 3 ++ l))) ++ last_events) (append-nil four)
      ∙ append_assoc (hole_events ++ one) (street_events 2 ++ (street_events 3 ++ four)) last_events
      ∙ ap (λ (l : List Said). (hole_events ++ one) ++ l) (append_assoc (street_events 2) (street_events 3 ++ four) last_events ∙ ap (λ (l : List Said). street_events 2 ++ l) (append_assoc (street_events 3) four last_events))
      ∙ append_assoc hole_events one later_events

  first_events : numbered_effects dialect 1 (first_effects dialect trace) ≡ numbered_from (1 + post_count + length holes) (moves_again dialect moves 1)
  first_events =
      numbered_both dialect 1 (post_effects trace.setup) (holes ++ opening)
      ∙ ap₂ (λ (a b : List Numbered). a ++ b) (no_events dialect 1 (post_effects trace.setup) (all_posts setting trace is))
      (numbered_both dialect (1 + post_count) holes opening
      ∙ ap (λ (l : List Numbered). l ++ numbered_effects dialect (1 + post_count + length holes) opening) (deal_events dialect placed (1 + post_count) (all_seats trace.setup))
      ∙ moves_events setting trace.setup 1 [] moves is.moves (1 + post_count + length holes))

  first_count : 1 + length (first_effects dialect trace) ≡ 1 + post_count + length holes + told_in (moves_again dialect moves 1)
  first_count =
      omega (arith, length-append (post_effects trace.setup) (holes ++ opening), length-append holes opening, moves_count setting trace.setup 1 [] moves is.moves)

  -- ---- the steps

  abbrev back : List PlainStep
  back = steps_of dialect (1 + post_count + length holes) 0 (0 + post_count + length holes) opening ++ round_steps dialect (1 + length (first_effects dialect trace)) (0 + 1) (later_rounds dialect trace)

  steps_are : hand_steps ≡ steps_of dialect 1 0 0 (post_effects trace.setup) ++ (steps_of dialect (1 + post_count) 0 (0 + post_count) holes ++ back)
  steps_are =
      let front : List PlainStep = steps_of dialect 1 0 0 (post_effects trace.setup) in
      let middle : List PlainStep = steps_of dialect (1 + post_count) 0 (0 + post_count) holes in
      let last : List PlainStep = steps_of dialect (1 + post_count + length holes) 0 (0 + post_count + length holes) opening in
      let later : List PlainStep = round_steps dialect (1 + length (first_effects dialect trace)) (0 + 1) (later_rounds dialect trace) in
      steps_behind dialect [] 1 0 (rounds_of dialect trace)
      ∙ ap (λ (l : List PlainStep). l ++ later) (steps_both dialect 1 0 0 (post_effects trace.setup) (holes ++ opening) ∙ ap (λ (l : List PlainStep). front ++ l) (steps_both dialect (1 + post_count) 0 (0 + post_count) holes opening))
      ∙ append_assoc front (middle ++ last) later
      ∙ ap (λ (l : List PlainStep). front ++ l) (append_assoc middle last later)

  later_no : (P : ActionEffect → Type 0) → ((number : ℕ) → AllByRecursion P (effects_on dialect trace number)) → AllByRecursion P (showing_effects trace) → AllRounds P (later_rounds dialect trace)
  later_no P moving showing =
      let river : List EffectRound = board_effects streets.River (dealt_slots placed None 4) (effects_on dialect trace 4) in
      let turn : List EffectRound = board_effects streets.Turn (dealt_slots placed None 3) (effects_on dialect trace 3) in
      let flop : List EffectRound = board_effects streets.Flop (dealt_slots placed None 2) (effects_on dialect trace 2) in
      let last : List EffectRound = showdown_effects (showing_effects trace) in
      rounds_both P flop (turn ++ (river ++ last)) (of_board P streets.Flop (dealt_slots placed None 2) (effects_on dialect trace 2) (moving 2))
      (rounds_both P turn (river ++ last) (of_board P streets.Turn (dealt_slots placed None 3) (effects_on dialect trace 3) (moving 3))
      (rounds_both P river last (of_board P streets.River (dealt_slots placed None 4) (effects_on dialect trace 4) (moving 4)) (of_showdown P (showing_effects trace) showing)))

  -- the posts that are read
  pub posts_read : posts_in hand_steps ≡ posts_at 0 (puts trace.setup)
  posts_read =
      let front : List PlainStep = steps_of dialect 1 0 0 (post_effects trace.setup) in
      let middle : List PlainStep = steps_of dialect (1 + post_count) 0 (0 + post_count) holes in
      let last : List PlainStep = steps_of dialect (1 + post_count + length holes) 0 (0 + post_count + length holes) opening in
      let later : List PlainStep = round_steps dialect (1 + length (first_effects dialect trace)) (0 + 1) (later_rounds dialect trace) in
      let none_dealt : posts_in middle ≡ [] = no_posts dialect (1 + post_count) 0 (0 + post_count) holes (deals_no_posts placed (all_seats trace.setup)) in
      let none_moved : posts_in last ≡ [] = no_posts dialect (1 + post_count + length holes) 0 (0 + post_count + length holes) opening (moves_no_posts setting trace.setup 1 [] moves is.moves) in
      let none_later : posts_in later ≡ [] =
      rounds_no_posts dialect (1 + length (first_effects dialect trace)) (0 + 1) (later_rounds dialect trace)
      (later_no IsNoPost (λ number. moves_no_posts setting trace.setup number [] moves is.moves) (shows_are_no IsNoPost (λ seat cards. tt) (λ seat. tt) trace (all_seats trace.setup))) in
      let behind : posts_in (middle ++ (last ++ later)) ≡ [] =
      posts_both middle (last ++ later) ∙ ap₂ (λ (a b : List PlainPost). a ++ b) none_dealt (posts_both last later ∙ ap₂ (λ (a b : List PlainPost). a ++ b) none_moved none_later) in
      ap posts_in steps_are
      ∙ posts_both front (middle ++ (last ++ later))
      ∙ ap (λ (l : List PlainPost). posts_in front ++ l) behind
      ∙ append-nil (posts_in front)
      ∙ posts_of_steps dialect 1 0 (post_effects trace.setup) (all_posts setting trace is)
      ∙ ap (posts_at 0) (puts_are trace.setup)

  holes_read : map (hole_deal setting.hole_cards hand_steps) (seats_of seats) ≡ numbered_from (1 + post_count) hole_events
  holes_read =
      let last : List PlainStep = steps_of dialect (1 + post_count + length holes) 0 (0 + post_count + length holes) opening in
      let later : List PlainStep = round_steps dialect (1 + length (first_effects dialect trace)) (0 + 1) (later_rounds dialect trace) in
      holes_again dialect setting.hole_cards is.some_hole (λ seat. dealt_slots placed (Some seat) 1) (1 + post_count) (0 + post_count) 1 seats hand_steps (steps_of dialect 1 0 0 (post_effects trace.setup)) back steps_are
      (λ seat from within. is.holes seat from (omega (arith, within)))
      (λ seat from. no_deals dialect 1 0 0 seat (post_effects trace.setup) (all_weaker IsPost IsNoDeal post_no_deal (post_effects trace.setup) (all_posts setting trace is)))
      (λ seat. no_deal_both seat last later
      (no_deals dialect (1 + post_count + length holes) 0 (0 + post_count + length holes) seat opening (moves_no_deals setting trace.setup 1 [] moves is.moves))
      (rounds_no_deals dialect (1 + length (first_effects dialect trace)) (0 + 1) seat (later_rounds dialect trace)
      (later_no IsNoDeal (λ number. moves_no_deals setting trace.setup number [] moves is.moves) (shows_are_no IsNoDeal (λ seat cards. tt) (λ seat. tt) trace (all_seats trace.setup)))))

  events_read : events_in hand_steps ≡ numbered_from (1 + post_count + length holes) (moves_again dialect moves 1 ++ later_events)
  events_read =
      let behind_holes : ℕ = 1 + post_count + length holes in
      ap events_in (steps_behind dialect [] 1 0 (rounds_of dialect trace))
      ∙ events_of_rounds dialect 1 0 (rounds_of dialect trace)
      ∙ ap₂ (λ (a b : List Numbered). a ++ b) first_events
      (sym (later_same (1 + length (first_effects dialect trace))) ∙ ap (λ (k : ℕ). numbered_from k later_events) first_count)
      ∙ sym (numbered_behind behind_holes (moves_again dialect moves 1) later_events)

  posts_count : length (posts trace.setup) ≡ post_count
  posts_count = ap length (posts_are trace.setup) ∙ length-map (post_effects trace.setup) action_of

  -- the script that is read
  pub script_read : (count : ℕ) → count ≡ seats → script_said count setting.hole_cards hand_steps ≡ numbered_from (length (posts trace.setup) + 1) (script_again dialect trace)
  unfolding script_said
  script_read count same =
      ap (λ (n : ℕ). map (hole_deal setting.hole_cards hand_steps) (seats_of n) ++ events_in hand_steps) same
      ∙ ap₂ (λ (a b : List Numbered). a ++ b) holes_read (events_read ∙ ap (λ (k : ℕ). numbered_from (1 + post_count + k) (moves_again dialect moves 1 ++ later_events)) (sym hole_count))
      ∙ sym (numbered_behind (1 + post_count) hole_events (moves_again dialect moves 1 ++ later_events))
      ∙ ap (numbered_from (1 + post_count)) (sym script_is)
      ∙ ap (λ (k : ℕ). numbered_from k (script_again dialect trace)) (omega (arith, posts_count))
