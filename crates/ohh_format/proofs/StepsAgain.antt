-- Actions that were written read as the steps of what was done.
use Rattle.std.proofs.Common.{◌≡◌, ℕ, suc, ◌+◌, ◌<◌, ◌≤◌, true, false, nat_lt, cond, List, [], ◌∷◌, ◌++◌, length, map, count_by, pos, Some, Result, Ok, Err, refl, sym, ap, ap₂, ◌∙◌, arith, append_assoc}
use Rattle.std.specs.List.{list_any}
use Rattle.std.proofs.lemmas.Bool.{eq-eqb, le-leb, lt-leb, lt-ltb}
use Rattle.std.proofs.lemmas.List.{append-nil, length-map}
use Rattle.serde_json.specs.Data.{Data, string}
use Rattle.card_set.proofs.Counting.{count_by-push}
use Rattle.card_set.specs.Known.{hides_card, known_among}
use Rattle.card_set.specs.Spelling.{slot_spelling}
use Rattle.card_set.specs.declared.card.Slot.{Slot}
use Rattle.chip_ledger.specs.declared.numbers.TheConstants.{MOST_CHIPS}
use Rattle.play_event.specs.PlayedScript.{is_move_event}
use Rattle.play_event.specs.declared.hand_limits.TheConstants.{MOST_MOVES, MOST_OTHER_EVENTS}
use Rattle.first_fault.specs.declared.limits.TheConstants.{MOST_FILE_MOVES}
use Rattle.first_fault.specs.Reading.{◌>>=◌, added_from}
use Rattle.play_event.specs.declared.event.Spelled.TheVariants as spelled
use Rattle.play_event.specs.Said as said
use Rattle.play_event.specs.Said.{Said}
use Rattle.ohh_members.specs.declared.dialect.Dialect.{Dialect}
use Rattle.ohh_members.specs.declared.fault.ActionMember.TheVariants as members
use Rattle.ohh_members.specs.declared.fault.MemberFault.{MemberFault}
use Rattle.ohh_members.specs.declared.fault.Path.{Path}
use Rattle.ohh_members.specs.Values.{integer_said, number_said, object_said, player_said, required_value, seat_of, text_said}
use Rattle.ohh_writing.specs.Actions.{PlainAction}
use Rattle.ohh_writing.specs.Tree.{action_tree, action_trees}
use Rattle.ohh_rounds.specs.declared.post.ActionLocation.{ActionLocation}
use Rattle.ohh_rounds.specs.declared.post.PostKind.{PostKind}
use Rattle.ohh_rounds.specs.declared.post.PostKind.TheVariants as kinds
use Rattle.ohh_rounds.specs.NamedBlinds.{seat_count}
use Rattle.ohh_rounds.specs.Actions.{at_action, called, chips_said, dealt_cards, effect_said, event_counted, listed_cards, members_said, posted, raise_by, raised, seat_said, shown, step_said, word_said}
use Rattle.ohh_rounds.specs.Rounds.{action_added}
use Rattle.ohh_rounds.specs.HandContext.{PlainHandContext}
use Rattle.ohh_rounds.specs.Steps.{PlainActionEffect, PlainStep, Posted, Dealt, Happened, dealt_to, is_folded, is_action, moves_in, next_number, others_in}
use Rattle.ohh_members.specs.Words.{word_named}
use Rattle.ohh_format.proofs.CardLists.{card_texts, cards_again, few_again, slots_again}
use Rattle.ohh_format.proofs.Effects.{ActionEffect, Bets, Calls, Checks, Deals, Folds, Mucks, Posts, Raises, Shows, action_of}
use Rattle.first_fault.specs.Numbers.{saturated}

-- what a step says of what was done, at its place
abbrev pub told : Dialect → ActionLocation → ActionEffect → PlainActionEffect
told dialect place (Posts kind seat amount left) = Posted (record { kind = kind; seat = seat; amount = amount; early = true; place = place })
told dialect place (Deals seat cards) = Dealt seat cards
told dialect place (Folds seat) = Happened (said.Fold (Some seat))
told dialect place (Checks seat) = Happened (said.Call (Some seat) (Some 0))
told dialect place (Calls seat amount left) = Happened (said.Call (Some seat) (Some amount))
told dialect place (Bets seat amount left) = Happened (said.Raise (Some seat) (spelled.Added amount))
told dialect place (Raises seat amount left) = Happened (said.Raise (Some seat) (raise_by dialect amount))
told dialect place (Shows seat cards) = Happened (said.Show seat (known_among cards))
told dialect place (Mucks seat) = Happened (said.Muck seat)

-- the step of what was done, by the number of its action, its round and its index there
abbrev pub step_of : Dialect → ℕ → ℕ → ℕ → ActionEffect → PlainStep
step_of dialect n round index effect = record { number = saturated n; effect = told dialect (record { round = round; action = index }) effect }

-- the steps of what was done in a round; the first has this number and this index
abbrev pub steps_of : Dialect → ℕ → ℕ → ℕ → List ActionEffect → List PlainStep
steps_of dialect n round index [] = []
steps_of dialect n round index (effect ∷ rest) = step_of dialect n round index effect ∷ steps_of dialect (n + 1) round (index + 1) rest

module _ (setting : PlainHandContext) (round : ℕ) where
  -- a player is one of the hand
  abbrev IsPlayer : ℕ → Type 0
  IsPlayer seat = seat_of setting.ids (pos seat) ≡ Some seat

  -- there is room for one more move, and for one more other event
  pub record HasMove (earlier : List PlainStep) (seat : ℕ) : Type 0 where
    pub player : IsPlayer seat
    pub moves : moves_in earlier < MOST_MOVES
    pub file : setting.file_moves + moves_in earlier < MOST_FILE_MOVES

  pub record HasChips (earlier : List PlainStep) (seat amount : ℕ) : Type 0 where
    pub move : HasMove earlier seat
    pub few : amount ≤ MOST_CHIPS

  pub record HasOther (earlier : List PlainStep) (seat : ℕ) : Type 0 where
    pub player : IsPlayer seat
    pub others : seat_count setting.table + others_in earlier < MOST_OTHER_EVENTS

  pub record HasPost (earlier : List PlainStep) (seat amount : ℕ) : Type 0 where
    pub player : IsPlayer seat
    pub first : round ≡ 0
    pub early : moves_in earlier ≡ 0
    pub few : amount ≤ MOST_CHIPS

  pub record HasDeal (earlier : List PlainStep) (seat : ℕ) (cards : List Slot) : Type 0 where
    pub player : IsPlayer seat
    pub first : round ≡ 0
    pub few : length (dealt_to seat earlier) + length cards ≤ 7

  pub record HasShow (earlier : List PlainStep) (seat : ℕ) (cards : List Slot) : Type 0 where
    pub other : HasOther earlier seat
    pub few : length cards ≤ 7
    pub known : list_any hides_card cards ≡ false

  pub record HasMuck (earlier : List PlainStep) (seat : ℕ) : Type 0 where
    pub other : HasOther earlier seat
    pub live : is_folded seat earlier ≡ false

  -- what was done can be read after these steps
  abbrev pub CanBeTold : List PlainStep → ActionEffect → Type 0
  CanBeTold earlier (Posts kind seat amount left) = HasPost earlier seat amount
  CanBeTold earlier (Deals seat cards) = HasDeal earlier seat cards
  CanBeTold earlier (Folds seat) = HasMove earlier seat
  CanBeTold earlier (Checks seat) = HasMove earlier seat
  CanBeTold earlier (Calls seat amount left) = HasChips earlier seat amount
  CanBeTold earlier (Bets seat amount left) = HasChips earlier seat amount
  CanBeTold earlier (Raises seat amount left) = HasChips earlier seat amount
  CanBeTold earlier (Shows seat cards) = HasShow earlier seat cards
  CanBeTold earlier (Mucks seat) = HasMuck earlier seat

  -- the step that is read
  abbrev Read : List PlainStep → ℕ → ℕ → ActionEffect → Type 0
  Read earlier index m effect =
      step_said setting earlier (record { round = round; action = index }) (action_tree m (action_of effect))
      ≡ Ok (record { number = next_number earlier; effect = told setting.dialect (record { round = round; action = index }) effect })

  post_read : (earlier : List PlainStep) (index m : ℕ) (kind : PostKind) (seat amount left : ℕ) → HasPost earlier seat amount → Read earlier index m (Posts kind seat amount left)
  unfolding step_said members_said word_said word_named seat_said effect_said posted chips_said object_said required_value text_said player_said integer_said number_said
  post_read earlier index m kinds.Ante seat amount left has = rw (has.player, le-leb 0 amount (omega arith), le-leb amount MOST_CHIPS has.few, eq-eqb round 0 has.first, eq-eqb (moves_in earlier) 0 has.early) refl
  post_read earlier index m kinds.SmallBlind seat amount left has = rw (has.player, le-leb 0 amount (omega arith), le-leb amount MOST_CHIPS has.few, eq-eqb round 0 has.first, eq-eqb (moves_in earlier) 0 has.early) refl
  post_read earlier index m kinds.BigBlind seat amount left has = rw (has.player, le-leb 0 amount (omega arith), le-leb amount MOST_CHIPS has.few, eq-eqb round 0 has.first, eq-eqb (moves_in earlier) 0 has.early) refl
  post_read earlier index m kinds.Straddle seat amount left has = rw (has.player, le-leb 0 amount (omega arith), le-leb amount MOST_CHIPS has.few, eq-eqb round 0 has.first, eq-eqb (moves_in earlier) 0 has.early) refl

  deal_read : (earlier : List PlainStep) (index m seat : ℕ) (cards : List Slot) → HasDeal earlier seat cards → Read earlier index m (Deals seat cards)
  unfolding step_said members_said word_said word_named seat_said effect_said dealt_cards listed_cards object_said required_value text_said player_said integer_said
  deal_read earlier index m seat cards has =
      let path = at_action (record { round = round; action = index }) members.Cards in
      let short : length cards ≤ 7 = omega (arith, has.few) in
      let count = length-map cards (λ (slot : Slot). string (slot_spelling slot)) in
      rw (
        eq-eqb round 0 has.first,
        has.player,
        few_again path cards short,
        le-leb (length (dealt_to seat earlier) + length (card_texts cards)) 7 (omega (arith, has.few, count)),
        slots_again path cards short,
      ) refl

  move_fits : (earlier : List PlainStep) (seat : ℕ) (path : Path) (event : Said) → HasMove earlier seat → is_move_event event ≡ true → event_counted setting earlier path event ≡ Ok tt
  unfolding event_counted
  move_fits earlier seat path event has is =
      rw (is, lt-leb MOST_MOVES (moves_in earlier) has.moves, lt-leb MOST_FILE_MOVES (setting.file_moves + moves_in earlier) has.file) refl

  other_fits : (earlier : List PlainStep) (seat : ℕ) (path : Path) (event : Said) → HasOther earlier seat → is_move_event event ≡ false → event_counted setting earlier path event ≡ Ok tt
  unfolding event_counted
  other_fits earlier seat path event has is = rw (is, lt-leb MOST_OTHER_EVENTS (seat_count setting.table + others_in earlier) has.others) refl

  here : ℕ → Path
  here index = at_action (record { round = round; action = index }) members.Itself

  fold_read : (earlier : List PlainStep) (index m seat : ℕ) → HasMove earlier seat → Read earlier index m (Folds seat)
  unfolding step_said members_said word_said word_named seat_said effect_said object_said required_value text_said player_said integer_said here
  fold_read earlier index m seat has = rw (has.player, move_fits earlier seat (here index) (said.Fold (Some seat)) has refl) refl

  check_read : (earlier : List PlainStep) (index m seat : ℕ) → HasMove earlier seat → Read earlier index m (Checks seat)
  unfolding step_said members_said word_said word_named seat_said effect_said object_said required_value text_said player_said integer_said here
  check_read earlier index m seat has = rw (has.player, move_fits earlier seat (here index) (said.Call (Some seat) (Some 0)) has refl) refl

  call_read : (earlier : List PlainStep) (index m seat amount left : ℕ) → HasChips earlier seat amount → Read earlier index m (Calls seat amount left)
  unfolding step_said members_said word_said word_named seat_said effect_said called chips_said object_said required_value text_said player_said integer_said number_said here
  call_read earlier index m seat amount left has =
      rw (has.move.player, le-leb 0 amount (omega arith), le-leb amount MOST_CHIPS has.few, move_fits earlier seat (here index) (said.Call (Some seat) (Some amount)) has.move refl) refl

  bet_read : (earlier : List PlainStep) (index m seat amount left : ℕ) → HasChips earlier seat amount → Read earlier index m (Bets seat amount left)
  unfolding step_said members_said word_said word_named seat_said effect_said raised chips_said object_said required_value text_said player_said integer_said number_said here
  bet_read earlier index m seat amount left has =
      rw (has.move.player, le-leb 0 amount (omega arith), le-leb amount MOST_CHIPS has.few, move_fits earlier seat (here index) (said.Raise (Some seat) (spelled.Added amount)) has.move refl) refl

  raise_read : (earlier : List PlainStep) (index m seat amount left : ℕ) → HasChips earlier seat amount → Read earlier index m (Raises seat amount left)
  unfolding step_said members_said word_said word_named seat_said effect_said raised chips_said object_said required_value text_said player_said integer_said number_said here
  raise_read earlier index m seat amount left has =
      rw (has.move.player, le-leb 0 amount (omega arith), le-leb amount MOST_CHIPS has.few, move_fits earlier seat (here index) (said.Raise (Some seat) (raise_by setting.dialect amount)) has.move refl) refl

  show_read : (earlier : List PlainStep) (index m seat : ℕ) (cards : List Slot) → HasShow earlier seat cards → Read earlier index m (Shows seat cards)
  unfolding step_said members_said word_said word_named seat_said effect_said shown object_said required_value text_said player_said integer_said here
  show_read earlier index m seat cards has =
      let path = at_action (record { round = round; action = index }) members.Cards in
      rw (has.other.player, cards_again path cards has.few has.known, other_fits earlier seat (here index) (said.Show seat (known_among cards)) has.other refl) refl

  muck_read : (earlier : List PlainStep) (index m seat : ℕ) → HasMuck earlier seat → Read earlier index m (Mucks seat)
  unfolding step_said members_said word_said word_named seat_said effect_said object_said required_value text_said player_said integer_said here
  muck_read earlier index m seat has = rw (has.other.player, has.live, other_fits earlier seat (here index) (said.Muck seat) has.other refl) refl

  one_read : (earlier : List PlainStep) (index m : ℕ) (effect : ActionEffect) → CanBeTold earlier effect → Read earlier index m effect
  one_read earlier index m (Posts kind seat amount left) has = post_read earlier index m kind seat amount left has
  one_read earlier index m (Deals seat cards) has = deal_read earlier index m seat cards has
  one_read earlier index m (Folds seat) has = fold_read earlier index m seat has
  one_read earlier index m (Checks seat) has = check_read earlier index m seat has
  one_read earlier index m (Calls seat amount left) has = call_read earlier index m seat amount left has
  one_read earlier index m (Bets seat amount left) has = bet_read earlier index m seat amount left has
  one_read earlier index m (Raises seat amount left) has = raise_read earlier index m seat amount left has
  one_read earlier index m (Shows seat cards) has = show_read earlier index m seat cards has
  one_read earlier index m (Mucks seat) has = muck_read earlier index m seat has

  -- what was done, each after the steps before it
  abbrev pub AllTold : ℕ → ℕ → List PlainStep → List ActionEffect → Type 0
  AllTold n index earlier [] = Unit {0}
  AllTold n index earlier (effect ∷ rest) =
      CanBeTold earlier effect × AllTold (n + 1) (index + 1) (earlier ++ step_of setting.dialect n round index effect ∷ []) rest

  counted_action : (earlier : List PlainStep) (n : ℕ) (effect : PlainActionEffect) → count_by is_action earlier + 1 ≡ n → count_by is_action (earlier ++ record { number = saturated n; effect = effect } ∷ []) + 1 ≡ n + 1
  counted_action earlier n effect at =
      let step : PlainStep = record { number = saturated n; effect = effect } in
      let some : nat_lt 0 (saturated n) ≡ true = lt-ltb 0 (saturated n) (omega (arith, at)) in
      omega (arith, at, count_by-push is_action earlier step, ap {B = ℕ} (λ b. cond b 1 0) some)

  -- the actions of a round
  pub actions_read : (earlier : List PlainStep) (n index m : ℕ) (effects : List ActionEffect) → count_by is_action earlier + 1 ≡ n → AllTold n index earlier effects
      → added_from (action_added setting round) earlier index (action_trees m (map action_of effects)) ≡ Ok (earlier ++ steps_of setting.dialect n round index effects)
  unfolding added_from
  actions_read earlier n index m [] at all = ap Ok (sym (append-nil earlier))
  actions_read earlier n index m (effect ∷ rest) at all =
      let step : PlainStep = step_of setting.dialect n round index effect in
      let number : next_number earlier ≡ saturated n = ap saturated at in
      rw (one_read earlier index m effect all.0, number)
      (actions_read (earlier ++ step ∷ []) (n + 1) (index + 1) (m + 1) rest (counted_action earlier n step.effect at) all.1
      ∙ ap Ok (append_assoc earlier (step ∷ []) (steps_of setting.dialect (n + 1) round (index + 1) rest)))

  first_behind : (index : ℕ) (x : Data) (xs ys : List Data) (found : Result (List PlainStep) MemberFault)
      → ((after : List PlainStep) → added_from (action_added setting round) after (index + 1) (xs ++ ys) ≡ (added_from (action_added setting round) after (index + 1) xs >>= λ mid. added_from (action_added setting round) mid (index + 1 + length xs) ys))
      → (found >>= λ after. added_from (action_added setting round) after (index + 1) (xs ++ ys)) ≡ ((found >>= λ after. added_from (action_added setting round) after (index + 1) xs) >>= λ mid. added_from (action_added setting round) mid (index + length (x ∷ xs)) ys)
  first_behind index x xs ys (Err fault) later = refl
  first_behind index x xs ys (Ok after) later = later after ∙ ap (λ (n : ℕ). added_from (action_added setting round) after (index + 1) xs >>= λ mid. added_from (action_added setting round) mid n ys) (omega arith)

  behind : (earlier : List PlainStep) (index : ℕ) (xs ys : List Data) → added_from (action_added setting round) earlier index (xs ++ ys) ≡ (added_from (action_added setting round) earlier index xs >>= λ mid. added_from (action_added setting round) mid (index + length xs) ys)
  unfolding added_from
  behind earlier index [] ys = ap (λ n. added_from (action_added setting round) earlier n ys) (omega arith)
  behind earlier index (x ∷ xs) ys = first_behind index x xs ys (action_added setting round earlier index x) (λ after. behind after (index + 1) xs ys)

  -- items after others
  pub added_both : (earlier middle after : List PlainStep) (index : ℕ) (xs ys : List Data) → added_from (action_added setting round) earlier index xs ≡ Ok middle
      → added_from (action_added setting round) middle (index + length xs) ys ≡ Ok after
      → added_from (action_added setting round) earlier index (xs ++ ys) ≡ Ok after
  added_both earlier middle after index xs ys one two =
      behind earlier index xs ys ∙ ap (λ (found : Result (List PlainStep) MemberFault). found >>= λ mid. added_from (action_added setting round) mid (index + length xs) ys) one ∙ two

-- the trees of actions after others
pub trees_both : (m : ℕ) (some more : List PlainAction) → action_trees m (some ++ more) ≡ action_trees m some ++ action_trees (m + length some) more
trees_both m [] more = ap (λ n. action_trees n more) (omega arith)
trees_both m (action ∷ some) more =
    ap (λ (l : List Data). action_tree m action ∷ l) (trees_both (m + 1) some more ∙ ap (λ n. action_trees (m + 1) some ++ action_trees n more) (omega arith))

pub trees_count : (m : ℕ) (actions : List PlainAction) → length (action_trees m actions) ≡ length actions
trees_count m [] = refl
trees_count m (action ∷ rest) = ap suc (trees_count (m + 1) rest)

-- steps after others
pub steps_both : (dialect : Dialect) (n round index : ℕ) (some more : List ActionEffect) → steps_of dialect n round index (some ++ more) ≡ steps_of dialect n round index some ++ steps_of dialect (n + length some) round (index + length some) more
steps_both dialect n round index [] more = ap₂ (λ (n index : ℕ). steps_of dialect n round index more) (omega arith) (omega arith)
steps_both dialect n round index (effect ∷ some) more =
    ap (λ (l : List PlainStep). step_of dialect n round index effect ∷ l)
    (steps_both dialect (n + 1) round (index + 1) some more
    ∙ ap₂ (λ (k i : ℕ). steps_of dialect (n + 1) round (index + 1) some ++ steps_of dialect k round i more) (omega arith) (omega arith))
