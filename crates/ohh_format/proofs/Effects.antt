-- The actions of a hand that is written, each by what is done: posts, deals, moves, and shows.
use Rattle.std.proofs.Common.{◌≡◌, ℕ, ◌-◌, ◌==◌, ◌&&◌, nat_lt, Bool, true, false, if◌then◌else◌, List, [], ◌∷◌, ◌++◌, map, Some, refl, sym, ap, ap₂, ◌∙◌}
use Rattle.std.specs.List.{flat_map}
use Rattle.std.proofs.lemmas.List.{map-append}
use Rattle.card_set.specs.declared.card.Slot.{Slot}
use Rattle.chip_ledger.specs.LiveRow.{flag_of}
use Rattle.chip_ledger.specs.SeatRow.{amount_of}
use Rattle.play_event.specs.declared.setup.Setup.{Setup}
use Rattle.play_event.specs.Chips.{blind_posted, chips_left, posted}
use Rattle.play_event.specs.Past.{Act, BroughtIn, Called, Folded, Move, Raised}
use Rattle.play_event.specs.Seats.{all_seats}
use Rattle.play_event.specs.Trace.{TracedMove, TracedPlace}
use Rattle.play_event.specs.CanonScript.{dealt_slots, held_slots, plain_move}
use Rattle.hand_canon.specs.TraceRows.{core_said}
use Rattle.hand_canon.specs.declared.trace.Trace.{Trace}
use Rattle.ohh_members.specs.declared.dialect.Dialect.{Dialect}
use Rattle.ohh_members.specs.declared.words.Word.{Word}
use Rattle.ohh_members.specs.declared.words.Word.TheVariants as words
use Rattle.ohh_writing.specs.Actions.{PlainAction, act_written, alone, ante_post, blind_post, call_written, deal_written, deals, has_known_card, move_written, moves_written, posts, raise_amount, raise_written, seat_of_big_blind, seat_of_small_blind, showing, showings, straddle_post, with_cards, with_chips}
use Rattle.ohh_rounds.specs.declared.post.PostKind.{PostKind}
use Rattle.ohh_rounds.specs.declared.post.PostKind.TheVariants as kinds

-- what is done
pub data ActionEffect : Type 0 where
  Posts : PostKind → ℕ → ℕ → ℕ → ActionEffect
  Deals : ℕ → List Slot → ActionEffect
  Folds : ℕ → ActionEffect
  Checks : ℕ → ActionEffect
  Calls : ℕ → ℕ → ℕ → ActionEffect
  Bets : ℕ → ℕ → ℕ → ActionEffect
  Raises : ℕ → ℕ → ℕ → ActionEffect
  Shows : ℕ → List Slot → ActionEffect
  Mucks : ℕ → ActionEffect

-- the word of a post
abbrev pub post_word : PostKind → Word
post_word kinds.Ante = words.PostAnte
post_word kinds.SmallBlind = words.PostSmallBlind
post_word kinds.BigBlind = words.PostBigBlind
post_word kinds.Straddle = words.Straddle

-- the action for what is done
abbrev pub action_of : ActionEffect → PlainAction
action_of (Posts kind seat amount left) = with_chips (post_word kind) seat amount left
action_of (Deals seat cards) = with_cards words.DealtCards seat cards
action_of (Folds seat) = alone words.Fold seat
action_of (Checks seat) = alone words.Check seat
action_of (Calls seat amount left) = with_chips words.Call seat amount left
action_of (Bets seat amount left) = with_chips words.Bet seat amount left
action_of (Raises seat amount left) = with_chips words.Raise seat amount left
action_of (Shows seat cards) = with_cards words.ShowsCards seat cards
action_of (Mucks seat) = alone words.MucksCards seat

-- if each of some numbers gives the actions of its deeds, all together do
pub flat_effects : (actions : ℕ → List PlainAction) (effects : ℕ → List ActionEffect) → ((n : ℕ) → actions n ≡ map action_of (effects n)) → (ns : List ℕ)
    → flat_map actions ns ≡ map action_of (flat_map effects ns)
flat_effects actions effects each [] = refl
flat_effects actions effects each (n ∷ ns) =
    ap₂ (λ (xs ys : List PlainAction). xs ++ ys) (each n) (flat_effects actions effects each ns) ∙ sym (map-append action_of (effects n) (flat_map effects ns))

-- ---- posts

abbrev pub ante_effect : Setup → ℕ → List ActionEffect
ante_effect setup seat =
    if nat_lt 0 (amount_of setup.antes seat)
    then Posts kinds.Ante seat (amount_of setup.antes seat) (amount_of setup.stacks seat - amount_of setup.antes seat) ∷ []
    else []

abbrev pub blind_effect : Setup → PostKind → ℕ → ActionEffect
blind_effect setup kind seat = Posts kind seat (blind_posted setup seat) (amount_of setup.stacks seat - posted setup seat)

abbrev pub straddle_effect : Setup → ℕ → List ActionEffect
straddle_effect setup seat = if nat_lt 2 seat && nat_lt 0 (amount_of setup.blinds seat) then blind_effect setup kinds.Straddle seat ∷ [] else []

abbrev pub post_effects : Setup → List ActionEffect
post_effects setup =
    flat_map (ante_effect setup) (all_seats setup)
    ++ (blind_effect setup kinds.SmallBlind (seat_of_small_blind setup)
    ∷ blind_effect setup kinds.BigBlind (seat_of_big_blind setup)
    ∷ flat_map (straddle_effect setup) (all_seats setup))

ante_is : (setup : Setup) (seat : ℕ) → ante_post setup seat ≡ map action_of (ante_effect setup seat)
ante_is setup seat = by_ante (nat_lt 0 (amount_of setup.antes seat))
  where
    by_ante : (some : Bool) → (if some then with_chips words.PostAnte seat (amount_of setup.antes seat) (amount_of setup.stacks seat - amount_of setup.antes seat) ∷ [] else [])
        ≡ map action_of (if some then Posts kinds.Ante seat (amount_of setup.antes seat) (amount_of setup.stacks seat - amount_of setup.antes seat) ∷ [] else [])
    by_ante true = refl
    by_ante false = refl

straddle_is : (setup : Setup) (seat : ℕ) → straddle_post setup seat ≡ map action_of (straddle_effect setup seat)
straddle_is setup seat = by_blind (nat_lt 2 seat && nat_lt 0 (amount_of setup.blinds seat))
  where
    by_blind : (some : Bool) → (if some then blind_post setup words.Straddle seat ∷ [] else []) ≡ map action_of (if some then blind_effect setup kinds.Straddle seat ∷ [] else [])
    by_blind true = refl
    by_blind false = refl

pub posts_are : (setup : Setup) → posts setup ≡ map action_of (post_effects setup)
posts_are setup =
    let blinds : List ActionEffect = blind_effect setup kinds.SmallBlind (seat_of_small_blind setup) ∷ blind_effect setup kinds.BigBlind (seat_of_big_blind setup) ∷ flat_map (straddle_effect setup) (all_seats setup) in
    ap₂ (λ (xs ys : List PlainAction). xs ++ (blind_post setup words.PostSmallBlind (seat_of_small_blind setup) ∷ blind_post setup words.PostBigBlind (seat_of_big_blind setup) ∷ ys))
    (flat_effects (ante_post setup) (ante_effect setup) (ante_is setup) (all_seats setup))
    (flat_effects (straddle_post setup) (straddle_effect setup) (straddle_is setup) (all_seats setup))
    ∙ sym (map-append action_of (flat_map (ante_effect setup) (all_seats setup)) blinds)

-- ---- deals

abbrev pub deal_effect : List TracedPlace → ℕ → List ActionEffect
deal_effect placed seat = if has_known_card (dealt_slots placed (Some seat) 1) then Deals seat (dealt_slots placed (Some seat) 1) ∷ [] else []

abbrev pub deal_effects : List TracedPlace → List ℕ → List ActionEffect
deal_effects placed seats = flat_map (deal_effect placed) seats

deal_is : (placed : List TracedPlace) (seat : ℕ) → deal_written seat (dealt_slots placed (Some seat) 1) ≡ map action_of (deal_effect placed seat)
deal_is placed seat = by_known (dealt_slots placed (Some seat) 1) (has_known_card (dealt_slots placed (Some seat) 1))
  where
    by_known : (cards : List Slot) (some : Bool) → (if some then with_cards words.DealtCards seat cards ∷ [] else []) ≡ map action_of (if some then Deals seat cards ∷ [] else [])
    by_known cards true = refl
    by_known cards false = refl

pub deals_are : (setup : Setup) (placed : List TracedPlace) → deals setup placed ≡ map action_of (deal_effects placed (all_seats setup))
deals_are setup placed = flat_effects (λ seat. deal_written seat (dealt_slots placed (Some seat) 1)) (deal_effect placed) (deal_is placed) (all_seats setup)

-- ---- moves

abbrev pub call_effect : TracedMove → ℕ → ActionEffect
call_effect move left = if move.price == move.from then Checks move.seat else Calls move.seat (move.to - move.from) left

abbrev pub raise_effect : Dialect → TracedMove → ℕ → ActionEffect
raise_effect dialect move left =
    if move.price == 0 then Bets move.seat (move.to - move.from) left else Raises move.seat (raise_amount dialect move) left

abbrev pub act_effect : Dialect → Act → TracedMove → ℕ → List ActionEffect
act_effect dialect Folded move left = Folds move.seat ∷ []
act_effect dialect Called move left = call_effect move left ∷ []
act_effect dialect Raised move left = raise_effect dialect move left ∷ []
act_effect dialect BroughtIn move left = []

abbrev pub move_effect : Dialect → Setup → List Move → TracedMove → List ActionEffect
move_effect dialect setup before move = act_effect dialect move.act move (chips_left setup (plain_move move ∷ before) move.seat)

abbrev pub move_effects : Dialect → Setup → ℕ → List Move → List TracedMove → List ActionEffect
move_effects dialect setup street before [] = []
move_effects dialect setup street before (move ∷ rest) =
    (if move.street == street then move_effect dialect setup before move else [])
    ++ move_effects dialect setup street (plain_move move ∷ before) rest

call_is : (move : TracedMove) (left : ℕ) → call_written move left ≡ action_of (call_effect move left)
call_is move left = by_current_bet (move.price == move.from)
  where
    by_current_bet : (same : Bool) → (if same then alone words.Check move.seat else with_chips words.Call move.seat (move.to - move.from) left) ≡ action_of (if same then Checks move.seat else Calls move.seat (move.to - move.from) left)
    by_current_bet true = refl
    by_current_bet false = refl

raise_is : (dialect : Dialect) (move : TracedMove) (left : ℕ) → raise_written dialect move left ≡ action_of (raise_effect dialect move left)
raise_is dialect move left = by_current_bet (raise_amount dialect move) (move.price == 0)
  where
    by_current_bet : (amount : ℕ) (none : Bool) → (if none then with_chips words.Bet move.seat (move.to - move.from) left else with_chips words.Raise move.seat amount left)
        ≡ action_of (if none then Bets move.seat (move.to - move.from) left else Raises move.seat amount left)
    by_current_bet amount true = refl
    by_current_bet amount false = refl

act_is : (dialect : Dialect) (act : Act) (move : TracedMove) (left : ℕ) → act_written dialect act move left ≡ map action_of (act_effect dialect act move left)
act_is dialect Folded move left = refl
act_is dialect Called move left = ap (λ (action : PlainAction). action ∷ []) (call_is move left)
act_is dialect Raised move left = ap (λ (action : PlainAction). action ∷ []) (raise_is dialect move left)
act_is dialect BroughtIn move left = refl

pub moves_are : (dialect : Dialect) (setup : Setup) (street : ℕ) (before : List Move) (moves : List TracedMove) → moves_written dialect setup street before moves ≡ map action_of (move_effects dialect setup street before moves)
moves_are dialect setup street before [] = refl
moves_are dialect setup street before (move ∷ rest) =
    ap₂ (λ (xs ys : List PlainAction). xs ++ ys) (by_street (move.street == street) (act_is dialect move.act move (chips_left setup (plain_move move ∷ before) move.seat))) (moves_are dialect setup street (plain_move move ∷ before) rest)
    ∙ sym (map-append action_of (if move.street == street then move_effect dialect setup before move else []) (move_effects dialect setup street (plain_move move ∷ before) rest))
  where
    by_street : (on : Bool) → move_written dialect setup before move ≡ map action_of (move_effect dialect setup before move)
        → (if on then move_written dialect setup before move else []) ≡ map action_of (if on then move_effect dialect setup before move else [])
    by_street true is = is
    by_street false is = refl

-- ---- the showdown

abbrev pub showing_effect : Trace → ℕ → List ActionEffect
showing_effect trace seat =
    if flag_of trace.shown seat then Shows seat (held_slots (core_said trace).places seat) ∷ []
    else (if flag_of trace.mucked seat then Mucks seat ∷ [] else [])

abbrev pub showing_effects : Trace → List ActionEffect
showing_effects trace = flat_map (showing_effect trace) (all_seats trace.setup)

showing_is : (trace : Trace) (seat : ℕ) → showing trace seat ≡ map action_of (showing_effect trace seat)
showing_is trace seat = by_flags (held_slots (core_said trace).places seat) (flag_of trace.shown seat) (flag_of trace.mucked seat)
  where
    by_flags : (cards : List Slot) (shown mucked : Bool) → (if shown then with_cards words.ShowsCards seat cards ∷ [] else (if mucked then alone words.MucksCards seat ∷ [] else []))
        ≡ map action_of (if shown then Shows seat cards ∷ [] else (if mucked then Mucks seat ∷ [] else []))
    by_flags cards true mucked = refl
    by_flags cards false true = refl
    by_flags cards false false = refl

pub showings_are : (trace : Trace) → showings trace ≡ map action_of (showing_effects trace)
showings_are trace = flat_effects (showing trace) (showing_effect trace) (showing_is trace) (all_seats trace.setup)
