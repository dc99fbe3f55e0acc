-- The rounds of a hand that was written fit, one after the other.
use Rattle.std.proofs.Common.{◌≡◌, ℕ, zero, suc, ◌+◌, ◌≤◌, Bool, true, false, if◌then◌else◌, List, [], ◌∷◌, ◌++◌, length, count_by, pos, Option, Some, None, refl, sym, ap, ap₂, subst, ◌∙◌, arith, true≢false}
use Rattle.std.specs.List.{AllByRecursion, flat_map, list_any, range_with_len}
use Rattle.card_set.proofs.Counting.{count_by-push}
use Rattle.card_set.proofs.Finding.{list_any-push}
use Rattle.card_set.specs.Known.{hides_card}
use Rattle.card_set.specs.declared.card.Slot.{Slot}
use Rattle.chip_ledger.specs.LiveRow.{flag_of}
use Rattle.play_event.specs.CanonScript.{dealt_slots, held_slots}
use Rattle.play_event.specs.declared.hand_limits.TheConstants.{MOST_MOVES}
use Rattle.first_fault.specs.declared.limits.TheConstants.{MOST_FILE_MOVES}
use Rattle.hand_canon.specs.TraceRows.{core_said}
use Rattle.hand_canon.specs.declared.trace.Trace.{Trace}
use Rattle.play_event.specs.Seats.{all_seats}
use Rattle.play_event.specs.Trace.{TracedMove, TracedPlace}
use Rattle.ohh_members.specs.Values.{seat_of}
use Rattle.ohh_members.specs.declared.dialect.Dialect.{Dialect}
use Rattle.ohh_writing.specs.Actions.{has_known_card}
use Rattle.ohh_rounds.specs.NamedBlinds.{seat_count}
use Rattle.ohh_rounds.specs.HandContext.{PlainHandContext}
use Rattle.ohh_rounds.specs.Steps.{PlainStep, is_action, is_fold_of, is_folded, is_move_effect, is_other_effect, moves_in, others_in}
use Rattle.ohh_rounds.specs.Streets.{has_board_cards, street_after}
use Rattle.ohh_format.proofs.EffectRounds.{EffectRound, FitRounds, board_effects, effects_on, first_effects, last_street, later_rounds, rounds_of, showdown_effects, steps_after}
use Rattle.ohh_format.proofs.Effects.{ActionEffect, Bets, Calls, Checks, Deals, Folds, Mucks, Posts, Raises, Shows, deal_effects, post_effects, showing_effects, showing_effect}
use Rattle.ohh_format.proofs.EventsAgain.{IsNoDeal, IsNoFold, IsPost, NoDeal, effects_in, folded_both, no_deals, no_folds}
use Rattle.ohh_format.proofs.MovesAgain.{CanBeWritten, HasNotFolded, IsElsewhere, moves_few, moves_good, moves_no_folds}
use Rattle.ohh_format.proofs.RoundsAgain.{board_step, with_board}
use Rattle.ohh_format.proofs.StepsAgain.{AllTold, steps_of}
use Rattle.ohh_format.proofs.ToldEffects.{IsGoodMove, IsGoodPost, IsGoodShow, actions_of_steps, counts_both, deals_told, moves_among, moves_of_steps, moves_told, others_among, others_of_steps, posts_told, shows_told, told_both}
use Rattle.ohh_members.specs.Streets.{street_name}
use Rattle.ohh_members.specs.declared.street.StreetName.{StreetName}
use Rattle.ohh_members.specs.declared.street.StreetName.TheVariants as streets

-- the play of a hand can be written and read
pub record CanBePlayed (setting : PlainHandContext) (trace : Trace) : Type 0 where
  pub players : (seat : ℕ) → 1 ≤ seat → seat ≤ trace.setup.stacks.seats → seat_of setting.ids (pos seat) ≡ Some seat
  pub count : seat_count setting.table ≡ trace.setup.stacks.seats
  pub some_hole : 1 ≤ setting.hole_cards
  pub few_hole : setting.hole_cards ≤ 7
  pub holes : (seat : ℕ) → 1 ≤ seat → seat ≤ trace.setup.stacks.seats → length (dealt_slots (core_said trace).places (Some seat) 1) ≡ setting.hole_cards
  pub no_more : (seat street : ℕ) → 1 ≤ seat → seat ≤ trace.setup.stacks.seats → 2 ≤ street → street ≤ 4 → dealt_slots (core_said trace).places (Some seat) street ≡ []
  pub no_board : dealt_slots (core_said trace).places None 1 ≡ []
  pub boards_few : (street : ℕ) → length (dealt_slots (core_said trace).places None street) ≤ 7
  pub known : (street : ℕ) → list_any hides_card (dealt_slots (core_said trace).places None street) ≡ false
  pub turn_follows : dealt_slots (core_said trace).places None 2 ≡ [] → dealt_slots (core_said trace).places None 3 ≡ []
  pub river_follows : dealt_slots (core_said trace).places None 3 ≡ [] → dealt_slots (core_said trace).places None 4 ≡ []
  pub quiet : (street : ℕ) → 2 ≤ street → street ≤ 4 → dealt_slots (core_said trace).places None street ≡ [] → AllByRecursion (IsElsewhere setting trace.setup street) (core_said trace).moves
  pub moves : AllByRecursion (CanBeWritten setting) (core_said trace).moves
  pub few : length (core_said trace).moves ≤ MOST_MOVES
  pub file : setting.file_moves + length (core_said trace).moves ≤ MOST_FILE_MOVES
  pub posts : AllByRecursion (IsGoodPost setting 0) (post_effects trace.setup)
  pub held_few : (seat : ℕ) → length (held_slots (core_said trace).places seat) ≤ 7
  pub shown_known : (seat : ℕ) → 1 ≤ seat → seat ≤ trace.setup.stacks.seats → flag_of trace.shown seat ≡ true → list_any hides_card (held_slots (core_said trace).places seat) ≡ false
  pub mucked_live : (seat : ℕ) → 1 ≤ seat → seat ≤ trace.setup.stacks.seats → flag_of trace.mucked seat ≡ true → AllByRecursion (HasNotFolded setting trace.setup seat) (core_said trace).moves

pub all_weaker : (P Q : ActionEffect → Type 0) → ((effect : ActionEffect) → P effect → Q effect) → (effects : List ActionEffect) → AllByRecursion P effects → AllByRecursion Q effects
all_weaker P Q weaker [] all = tt
all_weaker P Q weaker (effect ∷ rest) all = (weaker effect all.0, all_weaker P Q weaker rest all.1)

module _ (setting : PlainHandContext) where
  pub fit_both : (last : Option StreetName) (earlier : List PlainStep) (n index : ℕ) (xs ys : List EffectRound) → FitRounds setting last earlier n index xs
      → FitRounds setting (last_street last xs) (steps_after setting.dialect earlier n index xs) (n + effects_in xs) (index + length xs) ys → FitRounds setting last earlier n index (xs ++ ys)
  fit_both last earlier n index [] ys one other =
      let no_more_n : n + 0 ≡ n = omega arith in
      let no_more_index : index + 0 ≡ index = omega arith in
      subst (λ (k : ℕ). FitRounds setting last earlier k index ys) no_more_n (subst (λ (i : ℕ). FitRounds setting last earlier (n + 0) i ys) no_more_index other)
  fit_both last earlier n index (x ∷ xs) ys one other =
      let steps : List PlainStep = with_board earlier x.cards ++ steps_of setting.dialect n index 0 x.effects in
      let after : List PlainStep = steps_after setting.dialect steps (n + length x.effects) (index + 1) xs in
      let last_one : Option StreetName = last_street (Some x.street) xs in
      let same_n : n + (length x.effects + effects_in xs) ≡ n + length x.effects + effects_in xs = omega arith in
      let same_index : index + length (x ∷ xs) ≡ index + 1 + length xs = omega arith in (
        one.0,
        fit_both (Some x.street) steps (n + length x.effects) (index + 1) xs ys one.1
            (subst (λ (k : ℕ). FitRounds setting last_one after k (index + 1 + length xs) ys) same_n
            (subst (λ (i : ℕ). FitRounds setting last_one after (n + (length x.effects + effects_in xs)) i ys) same_index other)),
      )

  is_post : (round : ℕ) (effect : ActionEffect) → IsGoodPost setting round effect → IsPost effect
  is_post round (Posts kind seat amount left) is = tt
  is_post round (Deals seat cards) is = absurd is
  is_post round (Folds seat) is = absurd is
  is_post round (Checks seat) is = absurd is
  is_post round (Calls seat amount left) is = absurd is
  is_post round (Bets seat amount left) is = absurd is
  is_post round (Raises seat amount left) is = absurd is
  is_post round (Shows seat cards) is = absurd is
  is_post round (Mucks seat) is = absurd is

-- the steps of rounds after others
steps_after_both : (dialect : Dialect) (earlier : List PlainStep) (n index : ℕ) (xs ys : List EffectRound)
    → steps_after dialect earlier n index (xs ++ ys) ≡ steps_after dialect (steps_after dialect earlier n index xs) (n + effects_in xs) (index + length xs) ys
steps_after_both dialect earlier n index [] ys = ap₂ (λ (k i : ℕ). steps_after dialect earlier k i ys) (omega arith) (omega arith)
steps_after_both dialect earlier n index (x ∷ xs) ys =
    let next : List PlainStep = with_board earlier x.cards ++ steps_of dialect n index 0 x.effects in
    steps_after_both dialect next (n + length x.effects) (index + 1) xs ys
    ∙ ap₂ (λ (k i : ℕ). steps_after dialect (steps_after dialect next (n + length x.effects) (index + 1) xs) k i ys) (omega arith) (omega arith)

-- a post is not a deal, a move or a fold
pub post_no_deal : (effect : ActionEffect) → IsPost effect → IsNoDeal effect
post_no_deal (Posts kind seat amount left) is = tt
post_no_deal (Deals seat cards) is = absurd is
post_no_deal (Folds seat) is = absurd is
post_no_deal (Checks seat) is = absurd is
post_no_deal (Calls seat amount left) is = absurd is
post_no_deal (Bets seat amount left) is = absurd is
post_no_deal (Raises seat amount left) is = absurd is
post_no_deal (Shows seat cards) is = absurd is
post_no_deal (Mucks seat) is = absurd is

post_no_fold : (seat : ℕ) (effect : ActionEffect) → IsPost effect → IsNoFold seat effect
post_no_fold seat (Posts kind other amount left) is = tt
post_no_fold seat (Deals other cards) is = absurd is
post_no_fold seat (Folds other) is = absurd is
post_no_fold seat (Checks other) is = absurd is
post_no_fold seat (Calls other amount left) is = absurd is
post_no_fold seat (Bets other amount left) is = absurd is
post_no_fold seat (Raises other amount left) is = absurd is
post_no_fold seat (Shows other cards) is = absurd is
post_no_fold seat (Mucks other) is = absurd is

posts_no_moves : (effects : List ActionEffect) → AllByRecursion IsPost effects → (moves_among effects ≡ 0) × (others_among effects ≡ 0)
posts_no_moves [] all = (refl, refl)
posts_no_moves (Posts kind seat amount left ∷ rest) all = let behind = posts_no_moves rest all.1 in (omega (arith, behind.0), omega (arith, behind.1))
posts_no_moves (Deals seat cards ∷ rest) all = absurd all.0
posts_no_moves (Folds seat ∷ rest) all = absurd all.0
posts_no_moves (Checks seat ∷ rest) all = absurd all.0
posts_no_moves (Calls seat amount left ∷ rest) all = absurd all.0
posts_no_moves (Bets seat amount left ∷ rest) all = absurd all.0
posts_no_moves (Raises seat amount left ∷ rest) all = absurd all.0
posts_no_moves (Shows seat cards ∷ rest) all = absurd all.0
posts_no_moves (Mucks seat ∷ rest) all = absurd all.0

-- a deal is not a move, another event or a fold
deals_counts : (placed : List TracedPlace) (seats : List ℕ) (seat : ℕ)
    → (moves_among (deal_effects placed seats) ≡ 0) × (others_among (deal_effects placed seats) ≡ 0) × AllByRecursion (IsNoFold seat) (deal_effects placed seats)
deals_counts placed [] seat = (refl, refl, tt)
deals_counts placed (first ∷ rest) seat = by_known (has_known_card (dealt_slots placed (Some first) 1)) (deals_counts placed rest seat)
  where
    by_known : (known : Bool)
        → (moves_among (deal_effects placed rest) ≡ 0) × (others_among (deal_effects placed rest) ≡ 0) × AllByRecursion (IsNoFold seat) (deal_effects placed rest)
        → (moves_among ((if known then Deals first (dealt_slots placed (Some first) 1) ∷ [] else []) ++ deal_effects placed rest) ≡ 0)
        × (others_among ((if known then Deals first (dealt_slots placed (Some first) 1) ∷ [] else []) ++ deal_effects placed rest) ≡ 0)
        × AllByRecursion (IsNoFold seat) ((if known then Deals first (dealt_slots placed (Some first) 1) ∷ [] else []) ++ deal_effects placed rest)
    by_known true behind = (omega (arith, behind.0), omega (arith, behind.1), (tt, behind.2))
    by_known false behind = behind

moves_counts : (setting : PlainHandContext) (round : ℕ) (effects : List ActionEffect) → AllByRecursion (IsGoodMove setting round) effects → (moves_among effects ≡ length effects) × (others_among effects ≡ 0)
moves_counts setting round [] all = (refl, refl)
moves_counts setting round (Folds seat ∷ rest) all = let behind = moves_counts setting round rest all.1 in (omega (arith, behind.0), omega (arith, behind.1))
moves_counts setting round (Checks seat ∷ rest) all = let behind = moves_counts setting round rest all.1 in (omega (arith, behind.0), omega (arith, behind.1))
moves_counts setting round (Calls seat amount left ∷ rest) all = let behind = moves_counts setting round rest all.1 in (omega (arith, behind.0), omega (arith, behind.1))
moves_counts setting round (Bets seat amount left ∷ rest) all = let behind = moves_counts setting round rest all.1 in (omega (arith, behind.0), omega (arith, behind.1))
moves_counts setting round (Raises seat amount left ∷ rest) all = let behind = moves_counts setting round rest all.1 in (omega (arith, behind.0), omega (arith, behind.1))
moves_counts setting round (Posts kind seat amount left ∷ rest) all = absurd all.0
moves_counts setting round (Deals seat cards ∷ rest) all = absurd all.0
moves_counts setting round (Shows seat cards ∷ rest) all = absurd all.0
moves_counts setting round (Mucks seat ∷ rest) all = absurd all.0

-- the streets that may come before the showdown
abbrev IsOpen : Option StreetName → Type 0
IsOpen None = ⊥
IsOpen (Some streets.Preflop) = Unit {0}
IsOpen (Some streets.Flop) = Unit {0}
IsOpen (Some streets.Turn) = Unit {0}
IsOpen (Some streets.River) = Unit {0}
IsOpen (Some streets.Showdown) = ⊥

showdown_follows : (last : Option StreetName) → IsOpen last → street_after last (street_name streets.Showdown) ≡ Some streets.Showdown
unfolding street_after
showdown_follows None is = absurd is
showdown_follows (Some streets.Preflop) is = refl
showdown_follows (Some streets.Flop) is = refl
showdown_follows (Some streets.Turn) is = refl
showdown_follows (Some streets.River) is = refl
showdown_follows (Some streets.Showdown) is = absurd is

preflop_follows : street_after None (street_name streets.Preflop) ≡ Some streets.Preflop
unfolding street_after
preflop_follows = refl

flop_follows : street_after (Some streets.Preflop) (street_name streets.Flop) ≡ Some streets.Flop
unfolding street_after
flop_follows = refl

turn_follows : street_after (Some streets.Flop) (street_name streets.Turn) ≡ Some streets.Turn
unfolding street_after
turn_follows = refl

river_follows : street_after (Some streets.Turn) (street_name streets.River) ≡ Some streets.River
unfolding street_after
river_follows = refl

module _ (setting : PlainHandContext) (trace : Trace) (is : CanBePlayed setting trace) where
  abbrev dialect : Dialect
  dialect = setting.dialect

  abbrev seats : ℕ
  seats = trace.setup.stacks.seats

  abbrev placed : List TracedPlace
  placed = (core_said trace).places

  abbrev moves : List TracedMove
  moves = (core_said trace).moves

  -- what holds after some rounds: the number of the next action, no more moves and boards than
  -- these, and no folds of live seats
  record State (earlier : List PlainStep) (n done boards : ℕ) : Type 0 where
    numbered : count_by is_action earlier + 1 ≡ n
    moves_done : moves_in earlier ≤ done
    others_done : others_in earlier ≤ boards
    live : (seat : ℕ) → AllByRecursion (HasNotFolded setting trace.setup seat) moves → is_folded seat earlier ≡ false

  after_board : (earlier : List PlainStep) (n done boards : ℕ) (cards : List Slot) → State earlier n done boards → State (with_board earlier cards) n done (boards + 1)
  after_board earlier n done boards [] state = record { numbered = state.numbered; moves_done = state.moves_done; others_done = omega (arith, state.others_done); live = state.live }
  after_board earlier n done boards (slot ∷ rest) state =
      let step : PlainStep = board_step (slot ∷ rest) in
      record {
        numbered = omega (arith, state.numbered, count_by-push is_action earlier step);
        moves_done = omega (arith, state.moves_done, count_by-push (λ (x : PlainStep). is_move_effect x.effect) earlier step);
        others_done = omega (arith, state.others_done, count_by-push (λ (x : PlainStep). is_other_effect x.effect) earlier step);
        live = λ seat folded. list_any-push (λ (x : PlainStep). is_fold_of seat x.effect) earlier step ∙ rw (state.live seat folded) refl;
      }

  after_effects : (earlier : List PlainStep) (n index done boards more : ℕ) (effects : List ActionEffect) → State earlier n done boards → moves_among effects ≤ more → others_among effects ≡ 0
      → ((seat : ℕ) → AllByRecursion (HasNotFolded setting trace.setup seat) moves → AllByRecursion (IsNoFold seat) effects)
      → State (earlier ++ steps_of dialect n index 0 effects) (n + length effects) (done + more) boards
  after_effects earlier n index done boards more effects state few none live =
      let steps : List PlainStep = steps_of dialect n index 0 effects in
      record {
        numbered = omega (arith, state.numbered, counts_both is_action earlier steps, actions_of_steps dialect index n 0 effects (omega (arith, state.numbered)));
        moves_done = omega (arith, state.moves_done, counts_both (λ (x : PlainStep). is_move_effect x.effect) earlier steps, moves_of_steps dialect index n 0 effects, few);
        others_done = omega (arith, state.others_done, counts_both (λ (x : PlainStep). is_other_effect x.effect) earlier steps, others_of_steps dialect index n 0 effects, none);
        live = λ seat folded. folded_both seat earlier steps (state.live seat folded) (no_folds dialect n index 0 seat effects (live seat folded));
      }

  -- ---- a round of a board street

  module _ (street : StreetName) (number : ℕ) (deals : has_board_cards street ≡ true) where
    abbrev cards : List Slot
    cards = dealt_slots placed None number

    abbrev effects : List ActionEffect
    effects = effects_on dialect trace number

    good : (round : ℕ) → AllByRecursion (IsGoodMove setting round) effects
    good round = moves_good setting trace.setup round number [] moves is.moves

    board_fits : (last : Option StreetName) (earlier : List PlainStep) (n index done boards : ℕ) (c : List Slot) → length c ≤ 7 → list_any hides_card c ≡ false
        → State earlier n done boards → boards ≤ 3 → done + length effects ≤ length moves → (1 ≤ length c → street_after last (street_name street) ≡ Some street)
        → FitRounds setting last earlier n index (board_effects street c effects)
    board_fits last earlier n index done boards [] few known state three room follows = tt
    board_fits last earlier n index done boards (slot ∷ rest) few known state three room follows =
        let next : State (with_board earlier (slot ∷ rest)) n done (boards + 1) = after_board earlier n done boards (slot ∷ rest) state in (
          record {
            follows = follows (omega arith);
            few = few;
            known = known;
            deals = λ fails. absurd (true≢false (sym deals ∙ fails));
            room = omega (arith, is.count, trace.setup.stacks.greatest, state.others_done, three);
            numbered = state.numbered;
            told = moves_told setting index n 0 (with_board earlier (slot ∷ rest)) effects
                (record { moves = omega (arith, next.moves_done, room, is.few); file = omega (arith, next.moves_done, room, is.file) }) (good index);
          },
          tt,
        )

    board_state : (earlier : List PlainStep) (n index done boards : ℕ) (c : List Slot) → State earlier n done boards
        → State (steps_after dialect earlier n index (board_effects street c effects)) (n + effects_in (board_effects street c effects)) (done + length effects) (boards + 1)
    board_state earlier n index done boards [] state =
        record { numbered = omega (arith, state.numbered); moves_done = omega (arith, state.moves_done); others_done = omega (arith, state.others_done); live = state.live }
    board_state earlier n index done boards (slot ∷ rest) state =
        let counts = moves_counts setting index effects (good index) in
        let next = after_effects (with_board earlier (slot ∷ rest)) n index done (boards + 1) (length effects) effects (after_board earlier n done boards (slot ∷ rest) state) (omega (arith, counts.0)) counts.1
        (λ seat folded. moves_no_folds setting trace.setup seat number [] moves folded) in
        record { numbered = omega (arith, next.numbered); moves_done = next.moves_done; others_done = next.others_done; live = next.live }

    board_open : (last : Option StreetName) (c : List Slot) → IsOpen last → IsOpen (Some street) → IsOpen (last_street last (board_effects street c effects))
    board_open last [] open_last open_next = open_last
    board_open last (slot ∷ rest) open_last open_next = open_next

  -- ---- the first round

  abbrev posts : List ActionEffect
  posts = post_effects trace.setup

  abbrev holes : List ActionEffect
  holes = deal_effects placed (all_seats trace.setup)

  abbrev opening : List ActionEffect
  opening = effects_on dialect trace 1

  pub all_posts : AllByRecursion IsPost posts
  all_posts = all_weaker (IsGoodPost setting 0) IsPost (is_post setting 0) posts is.posts

  few_on : length (effects_on dialect trace 1) + length (effects_on dialect trace 2) + length (effects_on dialect trace 3) + length (effects_on dialect trace 4) ≤ length moves
  few_on = moves_few setting trace.setup [] moves is.moves

  first_good : AllByRecursion (IsGoodMove setting 0) opening
  first_good = moves_good setting trace.setup 0 1 [] moves is.moves

  after_posts : State ([] ++ steps_of dialect 1 0 0 posts) (1 + length posts) 0 0
  after_posts =
      let none = posts_no_moves posts all_posts in
      let start : State [] 1 0 0 = record { numbered = omega arith; moves_done = omega arith; others_done = omega arith; live = λ seat folded. refl } in
      after_effects [] 1 0 0 0 0 posts start (omega (arith, none.0)) none.1 (λ seat folded. all_weaker IsPost (IsNoFold seat) (post_no_fold seat) posts all_posts)

  first_told : AllTold setting 0 1 0 [] (first_effects dialect trace)
  first_told =
      let front : List PlainStep = [] ++ steps_of dialect 1 0 0 posts in
      let middle : List PlainStep = front ++ steps_of dialect (1 + length posts) 0 (0 + length posts) holes in
      let no_cards : (seat : ℕ) → NoDeal seat front = λ seat. no_deals dialect 1 0 0 seat posts (all_weaker IsPost IsNoDeal post_no_deal posts all_posts) in
      let counts = deals_counts placed (all_seats trace.setup) 0 in
      let moves_none : moves_in middle ≤ 0 = omega (arith, counts_both (λ (x : PlainStep). is_move_effect x.effect) front (steps_of dialect (1 + length posts) 0 (0 + length posts) holes), moves_of_steps dialect 0 (1 + length posts) (0 + length posts) holes, counts.0, after_posts.moves_done) in
      told_both setting 0 1 0 [] posts (holes ++ opening) (posts_told setting 0 1 0 [] posts refl refl is.posts)
      (told_both setting 0 (1 + length posts) (0 + length posts) front holes opening
      (deals_told setting 0 (λ seat. dealt_slots placed (Some seat) 1) (λ seat. has_known_card (dealt_slots placed (Some seat) 1)) (1 + length posts) (0 + length posts) 1 seats front refl
      (λ seat from within. (is.players seat from (omega (arith, within)), let count = is.holes seat from (omega (arith, within)) in omega (arith, count, is.few_hole)))
      (λ seat from. (no_cards seat).cards))
      (moves_told setting 0 (1 + length posts + length holes) (0 + length posts + length holes) middle opening
      (record { moves = omega (arith, moves_none, few_on, is.few); file = omega (arith, moves_none, few_on, is.file) }) first_good))

  first_state : State ([] ++ steps_of dialect 1 0 0 (first_effects dialect trace)) (1 + length (first_effects dialect trace)) (length opening) 0
  first_state =
      let start : State [] 1 0 0 = record { numbered = omega arith; moves_done = omega arith; others_done = omega arith; live = λ seat folded. refl } in
      let none = posts_no_moves posts all_posts in
      let counts = moves_counts setting 0 opening first_good in
      let among = counted_three posts holes opening in
      let dealt = deals_counts placed (all_seats trace.setup) 0 in
      let next = after_effects [] 1 0 0 0 (length opening) (first_effects dialect trace) start (omega (arith, among.0, none.0, dealt.0, counts.0)) (omega (arith, among.1, none.1, dealt.1, counts.1))
      (λ seat folded. all_three (IsNoFold seat) posts holes opening (all_weaker IsPost (IsNoFold seat) (post_no_fold seat) posts all_posts) (deals_counts placed (all_seats trace.setup) seat).2 (moves_no_folds setting trace.setup seat 1 [] moves folded)) in
      record { numbered = next.numbered; moves_done = omega (arith, next.moves_done); others_done = next.others_done; live = next.live }
    where
      counted_two : (xs ys : List ActionEffect) → (moves_among (xs ++ ys) ≡ moves_among xs + moves_among ys) × (others_among (xs ++ ys) ≡ others_among xs + others_among ys)
      counted_two [] ys = (omega arith, omega arith)
      counted_two (x ∷ xs) ys = let behind = counted_two xs ys in (omega (arith, behind.0), omega (arith, behind.1))

      counted_three : (xs ys zs : List ActionEffect) → (moves_among (xs ++ (ys ++ zs)) ≡ moves_among xs + moves_among ys + moves_among zs) × (others_among (xs ++ (ys ++ zs)) ≡ others_among xs + others_among ys + others_among zs)
      counted_three xs ys zs = let one = counted_two xs (ys ++ zs) in let two = counted_two ys zs in (omega (arith, one.0, two.0), omega (arith, one.1, two.1))

      all_two : (P : ActionEffect → Type 0) (xs ys : List ActionEffect) → AllByRecursion P xs → AllByRecursion P ys → AllByRecursion P (xs ++ ys)
      all_two P [] ys one other = other
      all_two P (x ∷ xs) ys one other = (one.0, all_two P xs ys one.1 other)

      all_three : (P : ActionEffect → Type 0) (xs ys zs : List ActionEffect) → AllByRecursion P xs → AllByRecursion P ys → AllByRecursion P zs → AllByRecursion P (xs ++ (ys ++ zs))
      all_three P xs ys zs one two three = all_two P xs (ys ++ zs) one (all_two P ys zs two three)

  -- ---- the showdown

  shows_good : (index : ℕ) (before : List PlainStep) → ((seat : ℕ) → AllByRecursion (HasNotFolded setting trace.setup seat) moves → is_folded seat before ≡ false)
      → (first many : ℕ) → 1 ≤ first → first + many ≤ seats + 1 → AllByRecursion (IsGoodShow setting index before) (flat_map (showing_effect trace) (range_with_len first many))
  shows_good index before live first zero low high = tt
  shows_good index before live first (suc many) low high =
      by_flags (flag_of trace.shown first) refl (flag_of trace.mucked first) refl (shows_good index before live (first + 1) many (omega (arith, low)) (omega (arith, high)))
    where
      by_flags : (shown : Bool) → flag_of trace.shown first ≡ shown → (mucked : Bool) → flag_of trace.mucked first ≡ mucked
          → AllByRecursion (IsGoodShow setting index before) (flat_map (showing_effect trace) (range_with_len (first + 1) many))
          → AllByRecursion (IsGoodShow setting index before) ((if shown then Shows first (held_slots placed first) ∷ [] else (if mucked then Mucks first ∷ [] else [])) ++ flat_map (showing_effect trace) (range_with_len (first + 1) many))
      by_flags true e mucked f rest = ((is.players first low (omega (arith, high)), is.held_few first, is.shown_known first low (omega (arith, high)) e), rest)
      by_flags false e true f rest = ((is.players first low (omega (arith, high)), live first (is.mucked_live first low (omega (arith, high)) f)), rest)
      by_flags false e false f rest = rest

  shows_few : (first many : ℕ) → length (flat_map (showing_effect trace) (range_with_len first many)) ≤ many
  shows_few first zero = omega arith
  shows_few first (suc many) = by_flags (flag_of trace.shown first) (flag_of trace.mucked first) (shows_few (first + 1) many)
    where
      by_flags : (shown mucked : Bool) → length (flat_map (showing_effect trace) (range_with_len (first + 1) many)) ≤ many
          → length ((if shown then Shows first (held_slots placed first) ∷ [] else (if mucked then Mucks first ∷ [] else [])) ++ flat_map (showing_effect trace) (range_with_len (first + 1) many)) ≤ suc many
      by_flags true mucked rest = omega (arith, rest)
      by_flags false true rest = omega (arith, rest)
      by_flags false false rest = omega (arith, rest)

  showdown_fits : (last : Option StreetName) (earlier : List PlainStep) (n index done : ℕ) (effects : List ActionEffect) → IsOpen last → State earlier n done 3 → length effects ≤ seats → AllByRecursion (IsGoodShow setting index earlier) effects
      → FitRounds setting last earlier n index (showdown_effects effects)
  showdown_fits last earlier n index done [] open_last state few all = tt
  showdown_fits last earlier n index done (effect ∷ rest) open_last state few all = (
    record {
      follows = showdown_follows last open_last;
      few = omega arith;
      known = refl;
      deals = λ fails. refl;
      room = omega (arith, is.count, trace.setup.stacks.greatest, state.others_done);
      numbered = state.numbered;
      told = shows_told setting index n 0 earlier earlier (effect ∷ rest) (λ seat live. live) (omega (arith, is.count, trace.setup.stacks.greatest, state.others_done, few)) all;
    },
    tt,
  )

  -- ---- all rounds

  abbrev board : ℕ → List Slot
  board number = dealt_slots placed None number

  abbrev flop : List EffectRound
  flop = board_effects streets.Flop (board 2) (effects_on dialect trace 2)

  abbrev turn : List EffectRound
  turn = board_effects streets.Turn (board 3) (effects_on dialect trace 3)

  abbrev river : List EffectRound
  river = board_effects streets.River (board 4) (effects_on dialect trace 4)

  abbrev showdown : List EffectRound
  showdown = showdown_effects (showing_effects trace)

  no_slots : (cards : List Slot) → 1 ≤ length cards → cards ≡ [] → ⊥
  no_slots cards some none = omega (arith, some, ap length none)

  last_flop : (cards : List Slot) (done : List ActionEffect) → (cards ≡ [] → ⊥) → last_street (Some streets.Preflop) (board_effects streets.Flop cards done) ≡ Some streets.Flop
  last_flop [] done some = absurd (some refl)
  last_flop (slot ∷ rest) done some = refl

  last_turn : (last : Option StreetName) (cards : List Slot) (done : List ActionEffect) → (cards ≡ [] → ⊥) → last_street last (board_effects streets.Turn cards done) ≡ Some streets.Turn
  last_turn last [] done some = absurd (some refl)
  last_turn last (slot ∷ rest) done some = refl

  -- the steps of the hand
  abbrev pub steps : List PlainStep
  steps = steps_after dialect [] 1 0 (rounds_of dialect trace)

  abbrev steps_first : List PlainStep
  steps_first = [] ++ steps_of dialect 1 0 0 (first_effects dialect trace)

  abbrev number_first : ℕ
  number_first = 1 + length (first_effects dialect trace)

  abbrev street_flop : Option StreetName
  street_flop = last_street (Some streets.Preflop) flop

  abbrev steps_flop : List PlainStep
  steps_flop = steps_after dialect steps_first number_first (0 + 1) flop

  abbrev number_flop : ℕ
  number_flop = number_first + effects_in flop

  abbrev index_flop : ℕ
  index_flop = 0 + 1 + length flop

  abbrev street_turn : Option StreetName
  street_turn = last_street street_flop turn

  abbrev steps_turn : List PlainStep
  steps_turn = steps_after dialect steps_flop number_flop index_flop turn

  abbrev number_turn : ℕ
  number_turn = number_flop + effects_in turn

  abbrev index_turn : ℕ
  index_turn = index_flop + length turn

  abbrev street_river : Option StreetName
  street_river = last_street street_turn river

  abbrev steps_river : List PlainStep
  steps_river = steps_after dialect steps_turn number_turn index_turn river

  abbrev number_river : ℕ
  number_river = number_turn + effects_in river

  abbrev index_river : ℕ
  index_river = index_turn + length river

  state_flop : State steps_flop number_flop (length opening + length (effects_on dialect trace 2)) (0 + 1)
  state_flop = board_state streets.Flop 2 refl steps_first number_first (0 + 1) (length opening) 0 (board 2) first_state

  state_turn : State steps_turn number_turn (length opening + length (effects_on dialect trace 2) + length (effects_on dialect trace 3)) (0 + 1 + 1)
  state_turn = board_state streets.Turn 3 refl steps_flop number_flop index_flop (length opening + length (effects_on dialect trace 2)) (0 + 1) (board 3) state_flop

  state_river : State steps_river number_river (length opening + length (effects_on dialect trace 2) + length (effects_on dialect trace 3) + length (effects_on dialect trace 4)) (0 + 1 + 1 + 1)
  state_river = board_state streets.River 4 refl steps_turn number_turn index_turn (length opening + length (effects_on dialect trace 2) + length (effects_on dialect trace 3)) (0 + 1 + 1) (board 4) state_turn

  showdown_here : FitRounds setting street_river steps_river number_river index_river showdown
  showdown_here =
      let open_flop : IsOpen street_flop = board_open streets.Flop 2 refl (Some streets.Preflop) (board 2) tt tt in
      let open_turn : IsOpen street_turn = board_open streets.Turn 3 refl street_flop (board 3) open_flop tt in
      let open_river : IsOpen street_river = board_open streets.River 4 refl street_turn (board 4) open_turn tt in
      showdown_fits street_river steps_river number_river index_river (length opening + length (effects_on dialect trace 2) + length (effects_on dialect trace 3) + length (effects_on dialect trace 4)) (showing_effects trace) open_river state_river (shows_few 1 seats)
      (shows_good index_river steps_river state_river.live 1 seats (omega arith) (omega arith))

  river_here : FitRounds setting street_turn steps_turn number_turn index_turn (river ++ showdown)
  river_here =
      fit_both setting street_turn steps_turn number_turn index_turn river showdown
      (board_fits streets.River 4 refl street_turn steps_turn number_turn index_turn (length opening + length (effects_on dialect trace 2) + length (effects_on dialect trace 3)) (0 + 1 + 1) (board 4) (is.boards_few 4) (is.known 4) state_turn (omega arith) (omega (arith, few_on))
      (λ some. ap (λ (last : Option StreetName). street_after last (street_name streets.River)) (last_turn street_flop (board 3) (effects_on dialect trace 3) (λ none. no_slots (board 4) some (is.river_follows none))) ∙ river_follows))
      showdown_here

  turn_here : FitRounds setting street_flop steps_flop number_flop index_flop (turn ++ (river ++ showdown))
  turn_here =
      fit_both setting street_flop steps_flop number_flop index_flop turn (river ++ showdown)
      (board_fits streets.Turn 3 refl street_flop steps_flop number_flop index_flop (length opening + length (effects_on dialect trace 2)) (0 + 1) (board 3) (is.boards_few 3) (is.known 3) state_flop (omega arith) (omega (arith, few_on))
      (λ some. ap (λ (last : Option StreetName). street_after last (street_name streets.Turn)) (last_flop (board 2) (effects_on dialect trace 2) (λ none. no_slots (board 3) some (is.turn_follows none))) ∙ turn_follows))
      river_here

  later_here : FitRounds setting (Some streets.Preflop) steps_first number_first (0 + 1) (later_rounds dialect trace)
  later_here =
      fit_both setting (Some streets.Preflop) steps_first number_first (0 + 1) flop (turn ++ (river ++ showdown))
      (board_fits streets.Flop 2 refl (Some streets.Preflop) steps_first number_first (0 + 1) (length opening) 0 (board 2) (is.boards_few 2) (is.known 2) first_state (omega arith) (omega (arith, few_on)) (λ some. flop_follows))
      turn_here

  -- the rounds of the hand fit
  pub rounds_fit : FitRounds setting None [] 1 0 (rounds_of dialect trace)
  rounds_fit = (
    record {
      follows = preflop_follows;
      few = omega arith;
      known = refl;
      deals = λ fails. refl;
      room = omega (arith, is.count, trace.setup.stacks.greatest);
      numbered = refl;
      told = first_told;
    },
    later_here,
  )

  -- ---- its moves

  shows_no_moves : (all : List ℕ) → moves_among (flat_map (showing_effect trace) all) ≡ 0
  shows_no_moves [] = refl
  shows_no_moves (seat ∷ rest) = by_flags (flag_of trace.shown seat) (flag_of trace.mucked seat) (shows_no_moves rest)
    where
      by_flags : (shown mucked : Bool) → moves_among (flat_map (showing_effect trace) rest) ≡ 0
          → moves_among ((if shown then Shows seat (held_slots placed seat) ∷ [] else (if mucked then Mucks seat ∷ [] else [])) ++ flat_map (showing_effect trace) rest) ≡ 0
      by_flags true mucked later = omega (arith, later)
      by_flags false true later = omega (arith, later)
      by_flags false false later = later

  last_moves : (done : List ActionEffect) → moves_among done ≡ 0 → moves_in (steps_after dialect steps_river number_river index_river (showdown_effects done)) ≤ moves_in steps_river
  last_moves [] none = omega arith
  last_moves (effect ∷ rest) none =
      omega (arith, counts_both (λ (x : PlainStep). is_move_effect x.effect) steps_river (steps_of dialect number_river index_river 0 (effect ∷ rest)), moves_of_steps dialect index_river number_river 0 (effect ∷ rest), none)

  -- no more moves are read than were made
  pub few_moves : moves_in steps ≤ length moves
  few_moves =
      let split : steps ≡ steps_after dialect steps_river number_river index_river showdown =
      steps_after_both dialect steps_first number_first (0 + 1) flop (turn ++ (river ++ showdown))
      ∙ steps_after_both dialect steps_flop number_flop index_flop turn (river ++ showdown)
      ∙ steps_after_both dialect steps_turn number_turn index_turn river showdown in
      omega (arith, ap moves_in split, last_moves (showing_effects trace) (shows_no_moves (all_seats trace.setup)), state_river.moves_done, few_on)
