-- What is due after a move, and what is due when the next street begins.
use Rattle.std.proofs.Common.{◌≡◌, ℕ, ◌+◌, ◌-◌, ◌<◌, ◌≤◌, Bool, true, false, ◌&&◌, ◌||◌, not, nat_lt, nat_le, if◌then◌else◌, List, ◌∷◌, Option, Some, None, is_some, unwrap_or, refl, sym, ap, ◌∙◌, arith}
use Rattle.std.proofs.lemmas.Bool.{and_parts, or_parts, and_from, or_from, ltb-false, leb-false, true≢false}
use Rattle.std.proofs.lemmas.Option.{same_Some}
use Rattle.std.specs.List.{list_any}
use Rattle.card_set.proofs.Any.{list_any-weaker, none_passes}
use Rattle.card_set.proofs.Counting.{counted_some}
use Rattle.card_set.proofs.Finding.{some_found, none_stronger}
use Rattle.play_event.proofs.StreetLaws.{due_is_first}
use Rattle.play_event.specs.Dealing.{is_deal_due, is_draw_due, hole_cards_owed, board_cards_owed, next_to_draw, has_drawn, replacements_owed, hole_cards_dealt}
use Rattle.play_event.specs.Due.{turn, due_on, first_due, showdown, is_bring_in_due, is_move_due, is_unfinished}
use Rattle.play_event.specs.Games.{hole_cards_on, board_cards_on, street_count}
use Rattle.play_event.specs.Laws.{IsFirstStreet}
use Rattle.play_event.specs.Past.{Past, Move, Moved, moves_of, newest_street}
use Rattle.play_event.specs.CurrentBet.{to_call}
use Rattle.play_event.specs.Seats.{is_live, live_count, all_seats}
use Rattle.play_event.specs.Streets.{has_draw}
use Rattle.play_event.specs.declared.reason.Due.TheVariants as dues
use Rattle.play_event.specs.declared.reason.Due.{Due}
use Rattle.play_event.specs.declared.setup.Setup.{Setup}
use Rattle.play_laws.proofs.Later.{none_dealt, none_boarded, none_drawn}
use Rattle.play_laws.proofs.StreetTables.{each_street}
use Rattle.play_event.specs.TurnTargets.{is_bet_due}
use Rattle.play_laws.specs.Walk.{has_nothing_later, street_cards}
use Rattle.play_event.proofs.StillAble.{still_live}
use Rattle.play_event.proofs.DueStreets.{first_quiet}

-- what is due on a street by the cases in their order
abbrev pub due_by : ℕ → (deal draw bring_in move : Bool) → Option Due
due_by street deal draw bring_in move =
    if deal then Some (dues.Deal street) else if draw then Some (dues.Draw street) else if bring_in then Some dues.BringIn else if move then Some dues.Move else None

bets_differ : {A : Type 0} (due other : Due) → due ≡ other → is_bet_due due ≡ true → is_bet_due other ≡ false → A
bets_differ due other same is is_not = absurd (true≢false (sym is ∙ ap is_bet_due same ∙ is_not))

-- if betting is due, no card is due
dealt_by : (street : ℕ) (deal draw bring_in move : Bool) (due : Due) → due_by street deal draw bring_in move ≡ Some due → is_bet_due due ≡ true → (deal ≡ false) × (draw ≡ false)
dealt_by street true draw bring_in move due is bets = bets_differ due (dues.Deal street) (sym (same_Some (dues.Deal street) due is)) bets refl
dealt_by street false true bring_in move due is bets = bets_differ due (dues.Draw street) (sym (same_Some (dues.Draw street) due is)) bets refl
dealt_by street false false bring_in move due is bets = (refl, refl)

-- no card is due on the street
pub record AreDealt (setup : Setup) (past : Past) (street : ℕ) : Type 0 where
  pub dealt : is_deal_due setup past street ≡ false
  pub drawn : is_draw_due setup past street ≡ false

pub cards_are_dealt : (setup : Setup) (past : Past) (street : ℕ) (due : Due) → turn setup past ≡ (street, due) → is_bet_due due ≡ true → is_unfinished due ≡ true → AreDealt setup past street
cards_are_dealt setup past street due is bets unfinished =
    let first : IsFirstStreet (due_on setup past) (newest_street past) street due = due_is_first setup past street due is unfinished in
    let parts = dealt_by street (is_deal_due setup past street) (is_draw_due setup past street) (is_bring_in_due setup (moves_of past) street) (is_move_due setup (moves_of past) street) due first.is_due bets in
    record { dealt = parts.0; drawn = parts.1 }

owed_by : (after before : Bool) (n : ℕ) → (after ≡ true → before ≡ true) → nat_lt 0 (if after then n else 0) ≡ true → nat_lt 0 (if before then n else 0) ≡ true
owed_by true before n still is = ap (λ b. nat_lt 0 (if b then n else 0)) (still refl) ∙ is
owed_by false before n still is = absurd (true≢false (sym is))

-- a seat that draws on a street: it is live, and did not draw there
abbrev draws_there : Past → ℕ → ℕ → Bool
draws_there past street seat = is_live (moves_of past) seat && not (has_drawn past street seat)

draws_fewer : (setup : Setup) (past : Past) (move : Move) (street : ℕ) → is_some (next_to_draw setup past street) ≡ false → is_some (next_to_draw setup (Moved move ∷ past) street) ≡ false
draws_fewer setup past move street none =
    some_found (draws_there (Moved move ∷ past) street) (all_seats setup)
    ∙ none_stronger (draws_there (Moved move ∷ past) street) (draws_there past street)
    (λ seat is. let both = and_parts (is_live (move ∷ moves_of past) seat) (not (has_drawn past street seat)) is in and_from (is_live (moves_of past) seat) (not (has_drawn past street seat)) (still_live move (moves_of past) seat both.0) both.1)
    (all_seats setup)
    (sym (some_found (draws_there past street) (all_seats setup)) ∙ none)

drawn_by : (on : Bool) (before after : Option ℕ) (owes : Bool) → (is_some before ≡ false → is_some after ≡ false) → (on && (is_some before || owes)) ≡ false → (on && (is_some after || owes)) ≡ false
drawn_by false before after owes fewer is = refl
drawn_by true before after owes fewer is = let parts = or_parts (is_some before) owes is in or_from (is_some after) owes (fewer parts.0) parts.1

-- a move makes no card due
pub dealt_still : (setup : Setup) (past : Past) (move : Move) (street : ℕ) → AreDealt setup past street → AreDealt setup (Moved move ∷ past) street
dealt_still setup past move street are =
    let moves = moves_of past in
    let owes : ℕ → Bool = λ seat. nat_lt 0 (hole_cards_owed setup past street seat) in
    let owes_after : ℕ → Bool = λ seat. nat_lt 0 (hole_cards_owed setup (Moved move ∷ past) street seat) in
    let parts = or_parts (list_any owes (all_seats setup)) (nat_lt 0 (board_cards_owed setup past street)) are.dealt in
    let none : list_any owes_after (all_seats setup) ≡ false =
    none_stronger owes_after owes (λ seat is. owed_by (is_live (move ∷ moves) seat) (is_live moves seat) (hole_cards_on setup.code street - hole_cards_dealt past street seat) (still_live move moves seat) is) (all_seats setup) parts.0 in
    record {
      dealt = or_from (list_any owes_after (all_seats setup)) (nat_lt 0 (board_cards_owed setup past street)) none parts.1;
      drawn = drawn_by (has_draw setup.code street) (next_to_draw setup past street) (next_to_draw setup (Moved move ∷ past) street) (list_any (λ seat. nat_lt 0 (replacements_owed past street seat)) (all_seats setup)) (draws_fewer setup past move street) are.drawn;
    }

-- if two seats are live, one is
pub one_live : (setup : Setup) (moves : List Move) → nat_le (live_count setup moves) 1 ≡ false → list_any (is_live moves) (all_seats setup) ≡ true
one_live setup moves more = counted_some (is_live moves) (all_seats setup) (let two : 1 < live_count setup moves = leb-false (live_count setup moves) 1 more in omega (arith, two))

pub nothing_owed_by : (live : Bool) (to_call dealt : ℕ) → to_call ≡ 0 → nat_lt 0 (if live then to_call - dealt else 0) ≡ false
nothing_owed_by true to_call dealt none = let zero_left : to_call - dealt ≡ 0 = omega (arith, none) in ap (nat_lt 0) zero_left
nothing_owed_by false to_call dealt none = refl

-- on a street after all events the street's cards are due
module _ (setup : Setup) (past : Past) (street next : ℕ) (early : has_nothing_later past street ≡ true) (later : street < next) (within : next ≤ street_count setup.code) (more : nat_le (live_count setup (moves_of past)) 1 ≡ false) where
  some_live : list_any (is_live (moves_of past)) (all_seats setup) ≡ true
  some_live = one_live setup (moves_of past) more

  hole_due : nat_lt 0 (hole_cards_on setup.code next) ≡ true → is_deal_due setup past next ≡ true
  hole_due some =
      ap (λ b. b || nat_lt 0 (board_cards_owed setup past next)) (
      list_any-weaker (is_live (moves_of past)) (λ seat. nat_lt 0 (hole_cards_owed setup past next seat))
      (λ seat live.
      ap (λ l. nat_lt 0 (if l then hole_cards_on setup.code next - hole_cards_dealt past next seat else 0)) live
      ∙ ap (λ n. nat_lt 0 (hole_cards_on setup.code next - n)) (none_dealt past street next seat early later)
      ∙ ap (nat_lt 0) (let same : hole_cards_on setup.code next - 0 ≡ hole_cards_on setup.code next = omega arith in same)
      ∙ some)
      (all_seats setup) some_live
      )

  board_due : nat_lt 0 (board_cards_on setup.code next) ≡ true → is_deal_due setup past next ≡ true
  board_due some =
      ap (λ b. list_any (λ seat. nat_lt 0 (hole_cards_owed setup past next seat)) (all_seats setup) || b) (
      ap (λ n. nat_lt 0 (board_cards_on setup.code next - n)) (none_boarded past street next early later)
      ∙ ap (nat_lt 0) (let same : board_cards_on setup.code next - 0 ≡ board_cards_on setup.code next = omega arith in same)
      ∙ some
      )
      ∙ or_true (list_any (λ seat. nat_lt 0 (hole_cards_owed setup past next seat)) (all_seats setup))
    where
      or_true : (b : Bool) → (b || true) ≡ true
      or_true true = refl
      or_true false = refl

  draws_here : has_draw setup.code next ≡ true → is_draw_due setup past next ≡ true
  draws_here draws =
      ap (λ d. d && (is_some (next_to_draw setup past next) || list_any (λ seat. nat_lt 0 (replacements_owed past next seat)) (all_seats setup))) draws
      ∙ ap (λ d. d || list_any (λ seat. nat_lt 0 (replacements_owed past next seat)) (all_seats setup)) (
      some_found (λ seat. is_live (moves_of past) seat && not (has_drawn past next seat)) (all_seats setup)
      ∙ list_any-weaker (is_live (moves_of past)) (λ seat. is_live (moves_of past) seat && not (has_drawn past next seat))
      (λ seat live. ap (λ l. l && not (has_drawn past next seat)) live ∙ ap not (none_drawn past street next seat early later)) (all_seats setup) some_live
      )

  nothing_dealt_here : nat_lt 0 (hole_cards_on setup.code next) ≡ false → nat_lt 0 (board_cards_on setup.code next) ≡ false → is_deal_due setup past next ≡ false
  nothing_dealt_here no_hole no_board =
      let none : hole_cards_on setup.code next ≡ 0 = omega (arith, ltb-false 0 (hole_cards_on setup.code next) no_hole) in
      let none_board : board_cards_owed setup past next ≡ 0 = omega (arith, ltb-false 0 (board_cards_on setup.code next) no_board) in
      or_from (list_any (λ seat. nat_lt 0 (hole_cards_owed setup past next seat)) (all_seats setup)) (nat_lt 0 (board_cards_owed setup past next))
      (none_passes (λ seat. nat_lt 0 (hole_cards_owed setup past next seat)) (all_seats setup) (λ seat. nothing_owed_by (is_live (moves_of past) seat) (hole_cards_on setup.code next) (hole_cards_dealt past next seat) none))
      (ap (nat_lt 0) none_board)

  abbrev cards_by : Bool → Bool → Bool → Bool
  cards_by draws hole board = if draws then not hole && not board else (hole || board)

  cards_due_by : (draws hole board : Bool) → has_draw setup.code next ≡ draws → nat_lt 0 (hole_cards_on setup.code next) ≡ hole → nat_lt 0 (board_cards_on setup.code next) ≡ board → cards_by draws hole board ≡ true → due_on setup past next ≡ Some (if draws then dues.Draw next else dues.Deal next)
  cards_due_by true true board draws_is hole_is board_is fits = absurd (true≢false (sym fits))
  cards_due_by true false true draws_is hole_is board_is fits = absurd (true≢false (sym fits))
  cards_due_by true false false draws_is hole_is board_is fits =
      ap (λ d. due_by next d (is_draw_due setup past next) (is_bring_in_due setup (moves_of past) next) (is_move_due setup (moves_of past) next)) (nothing_dealt_here hole_is board_is)
      ∙ ap (λ d. due_by next false d (is_bring_in_due setup (moves_of past) next) (is_move_due setup (moves_of past) next)) (draws_here draws_is)
  cards_due_by false true board draws_is hole_is board_is fits =
      ap (λ d. due_by next d (is_draw_due setup past next) (is_bring_in_due setup (moves_of past) next) (is_move_due setup (moves_of past) next)) (hole_due hole_is)
  cards_due_by false false true draws_is hole_is board_is fits =
      ap (λ d. due_by next d (is_draw_due setup past next) (is_bring_in_due setup (moves_of past) next) (is_move_due setup (moves_of past) next)) (board_due board_is)
  cards_due_by false false false draws_is hole_is board_is fits = absurd (true≢false (sym fits))

  pub cards_come : due_on setup past next ≡ Some (street_cards setup.code next)
  cards_come = cards_due_by (has_draw setup.code next) (nat_lt 0 (hole_cards_on setup.code next)) (nat_lt 0 (board_cards_on setup.code next)) refl refl refl (each_street setup.code next (omega (arith, later)) within)

pub quiet_is_showdown : (setup : Setup) (past : Past) → nat_le (live_count setup (moves_of past)) 1 ≡ false → ((between : ℕ) → newest_street past ≤ between → between ≤ street_count setup.code → due_on setup past between ≡ None) → newest_street past ≤ street_count setup.code + 1 → turn setup past ≡ (street_count setup.code, showdown setup past)
unfolding turn
quiet_is_showdown setup past more quiet within =
    ap (λ b. if b then (newest_street past, dues.Over) else unwrap_or (first_due (due_on setup past) (street_count setup.code + 1 - newest_street past) (newest_street past)) (street_count setup.code, showdown setup past)) more
    ∙ ap (λ o. unwrap_or o (street_count setup.code, showdown setup past)) (first_quiet (due_on setup past) (street_count setup.code + 1 - newest_street past) (newest_street past) (λ between low high. quiet between low (omega (arith, high, within))))

pub few_is_over : (setup : Setup) (past : Past) → nat_le (live_count setup (moves_of past)) 1 ≡ true → turn setup past ≡ (newest_street past, dues.Over)
unfolding turn
few_is_over setup past few =
    ap (λ b. if b then (newest_street past, dues.Over) else unwrap_or (first_due (due_on setup past) (street_count setup.code + 1 - newest_street past) (newest_street past)) (street_count setup.code, showdown setup past)) few
