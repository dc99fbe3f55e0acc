-- What was done, chunk by chunk, can be read: posts first, then deals, then moves, and shows after
-- them.
use Rattle.std.proofs.Common.{◌≡◌, ℕ, zero, suc, ◌+◌, ◌<◌, ◌≤◌, Bool, true, false, nat_lt, cond, List, [], ◌∷◌, ◌++◌, length, count_by, pos, Some, refl, sym, ap, ap₂, subst, ◌∙◌, arith, append_assoc}
use Rattle.std.specs.List.{AllByRecursion, flat_map, list_any, range_with_len}
use Rattle.std.proofs.lemmas.Bool.{lt-ltb, ne_eqb}
use Rattle.std.proofs.lemmas.Grind.{flat_map-append}
use Rattle.std.proofs.lemmas.List.{append-nil}
use Rattle.card_set.proofs.Finding.{list_any-push}
use Rattle.card_set.proofs.Counting.{count_by-cons, count_by-push}
use Rattle.card_set.specs.Known.{hides_card}
use Rattle.card_set.specs.declared.card.Slot.{Slot}
use Rattle.chip_ledger.specs.declared.numbers.TheConstants.{MOST_CHIPS}
use Rattle.play_event.specs.declared.hand_limits.TheConstants.{MOST_MOVES, MOST_OTHER_EVENTS}
use Rattle.first_fault.specs.declared.limits.TheConstants.{MOST_FILE_MOVES}
use Rattle.ohh_members.specs.declared.dialect.Dialect.{Dialect}
use Rattle.ohh_members.specs.Values.{seat_of}
use Rattle.ohh_rounds.specs.NamedBlinds.{seat_count}
use Rattle.ohh_rounds.specs.declared.post.ActionLocation.{ActionLocation}
use Rattle.ohh_rounds.specs.HandContext.{PlainHandContext}
use Rattle.ohh_rounds.specs.Steps.{PlainStep, dealt_in, dealt_to, is_action, is_fold_of, is_folded, is_move_effect, is_other_effect, moves_in, others_in}
use Rattle.ohh_format.proofs.Effects.{ActionEffect, Bets, Calls, Checks, Deals, Folds, Mucks, Posts, Raises, Shows}
use Rattle.ohh_format.proofs.StepsAgain.{AllTold, HasMove, step_of, steps_of, told}
use Rattle.first_fault.specs.Numbers.{saturated}

-- ---- what deeds count as

-- a move
abbrev pub moves_one : ActionEffect → ℕ
moves_one (Posts kind seat amount left) = 0
moves_one (Deals seat cards) = 0
moves_one (Folds seat) = 1
moves_one (Checks seat) = 1
moves_one (Calls seat amount left) = 1
moves_one (Bets seat amount left) = 1
moves_one (Raises seat amount left) = 1
moves_one (Shows seat cards) = 0
moves_one (Mucks seat) = 0

-- another event
abbrev pub others_one : ActionEffect → ℕ
others_one (Posts kind seat amount left) = 0
others_one (Deals seat cards) = 0
others_one (Folds seat) = 0
others_one (Checks seat) = 0
others_one (Calls seat amount left) = 0
others_one (Bets seat amount left) = 0
others_one (Raises seat amount left) = 0
others_one (Shows seat cards) = 1
others_one (Mucks seat) = 1

abbrev pub moves_among : List ActionEffect → ℕ
moves_among [] = 0
moves_among (effect ∷ rest) = moves_one effect + moves_among rest

abbrev pub others_among : List ActionEffect → ℕ
others_among [] = 0
others_among (effect ∷ rest) = others_one effect + others_among rest

one_move : (dialect : Dialect) (place : ActionLocation) (effect : ActionEffect) → cond (is_move_effect (told dialect place effect)) 1 0 ≡ moves_one effect
one_move dialect place (Posts kind seat amount left) = refl
one_move dialect place (Deals seat cards) = refl
one_move dialect place (Folds seat) = refl
one_move dialect place (Checks seat) = refl
one_move dialect place (Calls seat amount left) = refl
one_move dialect place (Bets seat amount left) = refl
one_move dialect place (Raises seat amount left) = refl
one_move dialect place (Shows seat cards) = refl
one_move dialect place (Mucks seat) = refl

one_other : (dialect : Dialect) (place : ActionLocation) (effect : ActionEffect) → cond (is_other_effect (told dialect place effect)) 1 0 ≡ others_one effect
one_other dialect place (Posts kind seat amount left) = refl
one_other dialect place (Deals seat cards) = refl
one_other dialect place (Folds seat) = refl
one_other dialect place (Checks seat) = refl
one_other dialect place (Calls seat amount left) = refl
one_other dialect place (Bets seat amount left) = refl
one_other dialect place (Raises seat amount left) = refl
one_other dialect place (Shows seat cards) = refl
one_other dialect place (Mucks seat) = refl

-- the counts of steps, one after the other
pub counts_both : (p : PlainStep → Bool) (xs ys : List PlainStep) → count_by p (xs ++ ys) ≡ count_by p xs + count_by p ys
counts_both p [] ys = omega arith
counts_both p (x ∷ xs) ys = omega (arith, count_by-cons p x (xs ++ ys), count_by-cons p x xs, counts_both p xs ys)

module _ (dialect : Dialect) (round : ℕ) where
  pub moves_of_steps : (n index : ℕ) (effects : List ActionEffect) → moves_in (steps_of dialect n round index effects) ≡ moves_among effects
  moves_of_steps n index [] = refl
  moves_of_steps n index (effect ∷ rest) =
      omega (
        arith,
        count_by-cons (λ (step : PlainStep). is_move_effect step.effect) (step_of dialect n round index effect) (steps_of dialect (n + 1) round (index + 1) rest),
        one_move dialect (record { round = round; action = index }) effect,
        moves_of_steps (n + 1) (index + 1) rest,
      )

  pub others_of_steps : (n index : ℕ) (effects : List ActionEffect) → others_in (steps_of dialect n round index effects) ≡ others_among effects
  others_of_steps n index [] = refl
  others_of_steps n index (effect ∷ rest) =
      omega (
        arith,
        count_by-cons (λ (step : PlainStep). is_other_effect step.effect) (step_of dialect n round index effect) (steps_of dialect (n + 1) round (index + 1) rest),
        one_other dialect (record { round = round; action = index }) effect,
        others_of_steps (n + 1) (index + 1) rest,
      )

  -- every step is an action
  pub actions_of_steps : (n index : ℕ) (effects : List ActionEffect) → 1 ≤ n → count_by is_action (steps_of dialect n round index effects) ≡ length effects
  actions_of_steps n index [] some = refl
  actions_of_steps n index (effect ∷ rest) some =
      let one : ◌≡◌ {A = ℕ} (cond (nat_lt 0 (saturated n)) 1 0) 1 = rw (lt-ltb 0 (saturated n) (omega (arith, some))) refl in
      omega (arith, count_by-cons is_action (step_of dialect n round index effect) (steps_of dialect (n + 1) round (index + 1) rest), one, actions_of_steps (n + 1) (index + 1) rest (omega arith))

-- ---- that they can be read

module _ (setting : PlainHandContext) (round : ℕ) where
  abbrev steps : ℕ → ℕ → List ActionEffect → List PlainStep
  steps n index effects = steps_of setting.dialect n round index effects

  pub told_both : (n index : ℕ) (earlier : List PlainStep) (some more : List ActionEffect) → AllTold setting round n index earlier some → AllTold setting round (n + length some) (index + length some) (earlier ++ steps n index some) more
      → AllTold setting round n index earlier (some ++ more)
  told_both n index earlier [] more one other =
      subst (λ (l : List PlainStep). AllTold setting round n index l more) (append-nil earlier)
      (subst (λ (k : ℕ). AllTold setting round k index (earlier ++ []) more) (zero_more n) (subst (λ (i : ℕ). AllTold setting round (n + 0) i (earlier ++ []) more) (zero_more index) other))
    where
      zero_more : (k : ℕ) → k + 0 ≡ k
      zero_more k = omega arith
  told_both n index earlier (effect ∷ some) more one other =
      let step : PlainStep = step_of setting.dialect n round index effect in
      let longer : (k : ℕ) → k + length (effect ∷ some) ≡ k + 1 + length some = λ k. omega arith in (
        one.0,
        told_both (n + 1) (index + 1) (earlier ++ step ∷ []) some more one.1
            (subst (λ (l : List PlainStep). AllTold setting round (n + 1 + length some) (index + 1 + length some) l more) (sym (append_assoc earlier (step ∷ []) (steps (n + 1) (index + 1) some)))
            (subst (λ (k : ℕ). AllTold setting round k (index + 1 + length some) (earlier ++ steps n index (effect ∷ some)) more) (longer n)
            (subst (λ (i : ℕ). AllTold setting round (n + length (effect ∷ some)) i (earlier ++ steps n index (effect ∷ some)) more) (longer index) other))),
      )

  -- a post, in chips within the limit of stated amounts
  abbrev pub IsGoodPost : ActionEffect → Type 0
  IsGoodPost (Posts kind seat amount left) = (seat_of setting.ids (pos seat) ≡ Some seat) × (amount ≤ MOST_CHIPS)
  IsGoodPost (Deals seat cards) = ⊥
  IsGoodPost (Folds seat) = ⊥
  IsGoodPost (Checks seat) = ⊥
  IsGoodPost (Calls seat amount left) = ⊥
  IsGoodPost (Bets seat amount left) = ⊥
  IsGoodPost (Raises seat amount left) = ⊥
  IsGoodPost (Shows seat cards) = ⊥
  IsGoodPost (Mucks seat) = ⊥

  -- a move, in chips within the limit of stated amounts
  abbrev pub IsGoodMove : ActionEffect → Type 0
  IsGoodMove (Posts kind seat amount left) = ⊥
  IsGoodMove (Deals seat cards) = ⊥
  IsGoodMove (Folds seat) = seat_of setting.ids (pos seat) ≡ Some seat
  IsGoodMove (Checks seat) = seat_of setting.ids (pos seat) ≡ Some seat
  IsGoodMove (Calls seat amount left) = (seat_of setting.ids (pos seat) ≡ Some seat) × (amount ≤ MOST_CHIPS)
  IsGoodMove (Bets seat amount left) = (seat_of setting.ids (pos seat) ≡ Some seat) × (amount ≤ MOST_CHIPS)
  IsGoodMove (Raises seat amount left) = (seat_of setting.ids (pos seat) ≡ Some seat) × (amount ≤ MOST_CHIPS)
  IsGoodMove (Shows seat cards) = ⊥
  IsGoodMove (Mucks seat) = ⊥

  pushed_moves : (earlier : List PlainStep) (n index : ℕ) (effect : ActionEffect) → moves_in (earlier ++ step_of setting.dialect n round index effect ∷ []) ≡ moves_in earlier + moves_one effect
  pushed_moves earlier n index effect =
      omega (arith, count_by-push (λ (step : PlainStep). is_move_effect step.effect) earlier (step_of setting.dialect n round index effect), one_move setting.dialect (record { round = round; action = index }) effect)

  pushed_others : (earlier : List PlainStep) (n index : ℕ) (effect : ActionEffect) → others_in (earlier ++ step_of setting.dialect n round index effect ∷ []) ≡ others_in earlier + others_one effect
  pushed_others earlier n index effect =
      omega (arith, count_by-push (λ (step : PlainStep). is_other_effect step.effect) earlier (step_of setting.dialect n round index effect), one_other setting.dialect (record { round = round; action = index }) effect)

  pub posts_told : (n index : ℕ) (earlier : List PlainStep) (effects : List ActionEffect) → round ≡ 0 → moves_in earlier ≡ 0 → AllByRecursion IsGoodPost effects → AllTold setting round n index earlier effects
  posts_told n index earlier [] first none all = tt
  posts_told n index earlier (Posts kind seat amount left ∷ rest) first none all = (
    record { player = all.0.0; first = first; early = none; few = all.0.1 },
    posts_told (n + 1) (index + 1) (earlier ++ step_of setting.dialect n round index (Posts kind seat amount left) ∷ []) rest first (omega (arith, none, pushed_moves earlier n index (Posts kind seat amount left))) all.1,
  )
  posts_told n index earlier (Deals seat cards ∷ rest) first none all = absurd all.0
  posts_told n index earlier (Folds seat ∷ rest) first none all = absurd all.0
  posts_told n index earlier (Checks seat ∷ rest) first none all = absurd all.0
  posts_told n index earlier (Calls seat amount left ∷ rest) first none all = absurd all.0
  posts_told n index earlier (Bets seat amount left ∷ rest) first none all = absurd all.0
  posts_told n index earlier (Raises seat amount left ∷ rest) first none all = absurd all.0
  posts_told n index earlier (Shows seat cards ∷ rest) first none all = absurd all.0
  posts_told n index earlier (Mucks seat ∷ rest) first none all = absurd all.0

  -- there is room for this many more moves
  pub record HasRoom (earlier : List PlainStep) (more : ℕ) : Type 0 where
    pub moves : moves_in earlier + more ≤ MOST_MOVES
    pub file : setting.file_moves + moves_in earlier + more ≤ MOST_FILE_MOVES

  one_fits : (earlier : List PlainStep) (seat more : ℕ) → seat_of setting.ids (pos seat) ≡ Some seat → HasRoom earlier (suc more) → HasMove setting round earlier seat
  one_fits earlier seat more player room = record { player = player; moves = omega (arith, room.moves); file = omega (arith, room.file) }

  less_room : (earlier : List PlainStep) (n index more : ℕ) (effect : ActionEffect) → moves_one effect ≡ 1 → HasRoom earlier (suc more) → HasRoom (earlier ++ step_of setting.dialect n round index effect ∷ []) more
  less_room earlier n index more effect one room =
      let pushed = pushed_moves earlier n index effect in
      record { moves = omega (arith, room.moves, pushed, one); file = omega (arith, room.file, pushed, one) }

  pub moves_told : (n index : ℕ) (earlier : List PlainStep) (effects : List ActionEffect) → HasRoom earlier (length effects) → AllByRecursion IsGoodMove effects → AllTold setting round n index earlier effects
  moves_told n index earlier [] room all = tt
  moves_told n index earlier (Folds seat ∷ rest) room all =
      (one_fits earlier seat (length rest) all.0 room, moves_told (n + 1) (index + 1) (earlier ++ step_of setting.dialect n round index (Folds seat) ∷ []) rest (less_room earlier n index (length rest) (Folds seat) refl room) all.1)
  moves_told n index earlier (Checks seat ∷ rest) room all =
      (one_fits earlier seat (length rest) all.0 room, moves_told (n + 1) (index + 1) (earlier ++ step_of setting.dialect n round index (Checks seat) ∷ []) rest (less_room earlier n index (length rest) (Checks seat) refl room) all.1)
  moves_told n index earlier (Calls seat amount left ∷ rest) room all = (
    record { move = one_fits earlier seat (length rest) all.0.0 room; few = all.0.1 },
    moves_told (n + 1) (index + 1) (earlier ++ step_of setting.dialect n round index (Calls seat amount left) ∷ []) rest (less_room earlier n index (length rest) (Calls seat amount left) refl room) all.1,
  )
  moves_told n index earlier (Bets seat amount left ∷ rest) room all = (
    record { move = one_fits earlier seat (length rest) all.0.0 room; few = all.0.1 },
    moves_told (n + 1) (index + 1) (earlier ++ step_of setting.dialect n round index (Bets seat amount left) ∷ []) rest (less_room earlier n index (length rest) (Bets seat amount left) refl room) all.1,
  )
  moves_told n index earlier (Raises seat amount left ∷ rest) room all = (
    record { move = one_fits earlier seat (length rest) all.0.0 room; few = all.0.1 },
    moves_told (n + 1) (index + 1) (earlier ++ step_of setting.dialect n round index (Raises seat amount left) ∷ []) rest (less_room earlier n index (length rest) (Raises seat amount left) refl room) all.1,
  )
  moves_told n index earlier (Posts kind seat amount left ∷ rest) room all = absurd all.0
  moves_told n index earlier (Deals seat cards ∷ rest) room all = absurd all.0
  moves_told n index earlier (Shows seat cards ∷ rest) room all = absurd all.0
  moves_told n index earlier (Mucks seat ∷ rest) room all = absurd all.0

  -- ---- deals

  -- what is dealt to seats, at most one deal per seat
  module _ (cards : ℕ → List Slot) (some : ℕ → Bool) where
    abbrev pub deal_of : ℕ → List ActionEffect
    deal_of seat = cond (some seat) (Deals seat (cards seat) ∷ []) []

    pub deals_told : (n index first many : ℕ) (earlier : List PlainStep) → round ≡ 0
        → ((seat : ℕ) → first ≤ seat → seat < first + many → (seat_of setting.ids (pos seat) ≡ Some seat) × (length (cards seat) ≤ 7))
        → ((seat : ℕ) → first ≤ seat → dealt_to seat earlier ≡ [])
        → AllTold setting round n index earlier (flat_map deal_of (range_with_len first many))
    deals_told n index first zero earlier is_first good none = tt
    deals_told n index first (suc many) earlier is_first good none =
        by_some (some first) (λ k i l later. deals_told k i (first + 1) many l is_first (λ seat from within. good seat (omega (arith, from)) (omega (arith, within))) later)
      where
        by_some : (deals : Bool)
            → ((k i : ℕ) (l : List PlainStep) → ((seat : ℕ) → first + 1 ≤ seat → dealt_to seat l ≡ []) → AllTold setting round k i l (flat_map deal_of (range_with_len (first + 1) many)))
            → AllTold setting round n index earlier (cond deals (Deals first (cards first) ∷ []) [] ++ flat_map deal_of (range_with_len (first + 1) many))
        by_some false later = later n index earlier (λ seat from. none seat (omega (arith, from)))
        by_some true later =
            let step : PlainStep = step_of setting.dialect n round index (Deals first (cards first)) in
            let fine = good first (omega arith) (omega arith) in
            let nothing : length (dealt_to first earlier) ≡ 0 = ap length (none first (omega arith)) in (
              record { player = fine.0; first = is_first; few = omega (arith, fine.1, nothing) },
              later (n + 1) (index + 1) (earlier ++ step ∷ []) (λ seat from.
                  flat_map-append (λ (x : PlainStep). dealt_in seat x.effect) earlier (step ∷ [])
                  ∙ ap₂ (λ (xs ys : List Slot). xs ++ ys) (none seat (omega (arith, from))) (ap (λ (b : Bool). cond b (cards first) [] ++ []) (ne_eqb first seat (λ same. omega (arith, same, from))))),
            )

  -- ---- shows

  -- a show of known cards, or a muck of a seat that has not folded in some steps
  abbrev pub IsGoodShow : List PlainStep → ActionEffect → Type 0
  IsGoodShow before (Posts kind seat amount left) = ⊥
  IsGoodShow before (Deals seat cards) = ⊥
  IsGoodShow before (Folds seat) = ⊥
  IsGoodShow before (Checks seat) = ⊥
  IsGoodShow before (Calls seat amount left) = ⊥
  IsGoodShow before (Bets seat amount left) = ⊥
  IsGoodShow before (Raises seat amount left) = ⊥
  IsGoodShow before (Shows seat cards) = (seat_of setting.ids (pos seat) ≡ Some seat) × (length cards ≤ 7) × (list_any hides_card cards ≡ false)
  IsGoodShow before (Mucks seat) = (seat_of setting.ids (pos seat) ≡ Some seat) × (is_folded seat before ≡ false)

  -- nobody folded between
  abbrev NoFolds : List PlainStep → List PlainStep → Type 0
  NoFolds before earlier = (seat : ℕ) → is_folded seat before ≡ false → is_folded seat earlier ≡ false

  no_more : (before earlier : List PlainStep) (step : PlainStep) → ((seat : ℕ) → is_fold_of seat step.effect ≡ false) → NoFolds before earlier → NoFolds before (earlier ++ step ∷ [])
  no_more before earlier step none fine seat live =
      list_any-push (λ (x : PlainStep). is_fold_of seat x.effect) earlier step ∙ rw (fine seat live, none seat) refl

  pub shows_told : (n index : ℕ) (before earlier : List PlainStep) (effects : List ActionEffect) → NoFolds before earlier → seat_count setting.table + others_in earlier + length effects ≤ MOST_OTHER_EVENTS
      → AllByRecursion (IsGoodShow before) effects → AllTold setting round n index earlier effects
  shows_told n index before earlier [] fine room all = tt
  shows_told n index before earlier (Shows seat cards ∷ rest) fine room all =
      let step : PlainStep = step_of setting.dialect n round index (Shows seat cards) in
      let pushed = pushed_others earlier n index (Shows seat cards) in (
        record { other = record { player = all.0.0; others = omega (arith, room) }; few = all.0.1; known = all.0.2 },
        shows_told (n + 1) (index + 1) before (earlier ++ step ∷ []) rest (no_more before earlier step (λ other. refl) fine) (omega (arith, room, pushed)) all.1,
      )
  shows_told n index before earlier (Mucks seat ∷ rest) fine room all =
      let step : PlainStep = step_of setting.dialect n round index (Mucks seat) in
      let pushed = pushed_others earlier n index (Mucks seat) in (
        record { other = record { player = all.0.0; others = omega (arith, room) }; live = fine seat all.0.1 },
        shows_told (n + 1) (index + 1) before (earlier ++ step ∷ []) rest (no_more before earlier step (λ other. refl) fine) (omega (arith, room, pushed)) all.1,
      )
  shows_told n index before earlier (Posts kind seat amount left ∷ rest) fine room all = absurd all.0
  shows_told n index before earlier (Deals seat cards ∷ rest) fine room all = absurd all.0
  shows_told n index before earlier (Folds seat ∷ rest) fine room all = absurd all.0
  shows_told n index before earlier (Checks seat ∷ rest) fine room all = absurd all.0
  shows_told n index before earlier (Calls seat amount left ∷ rest) fine room all = absurd all.0
  shows_told n index before earlier (Bets seat amount left ∷ rest) fine room all = absurd all.0
  shows_told n index before earlier (Raises seat amount left ∷ rest) fine room all = absurd all.0
