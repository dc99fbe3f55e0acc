-- A hand with few seats, whose draws discard at most two cards each, needs no more cards than the
-- deck has; and it has few discards.
use Rattle.std.proofs.Common.{◌≡◌, ℕ, ◌+◌, ◌*◌, ◌-◌, ◌≤◌, Bool, true, false, ◌&&◌, ◌||◌, ◌==◌, cond, if◌then◌else◌, List, [], ◌∷◌, length, refl, ap, subst, ◌∙◌, arith}
use Rattle.std.proofs.lemmas.Bool.{and_parts, eq-eqb, eqb-true}
use Rattle.card_places.specs.Room.{sum_from}
use Rattle.card_places.proofs.Sums.{sum_least, sum_more, sum_most}
use Rattle.card_set.specs.declared.card.Card.{Card}
use Rattle.card_set.specs.declared.card.Slot.{Slot}
use Rattle.play_event.specs.declared.code.Code.{Code}
use Rattle.play_event.specs.declared.code.Code.TheVariants as games
use Rattle.play_event.specs.declared.setup.Setup.{Setup}
use Rattle.play_event.specs.Dealing.{board_cards_dealt, board_cards_owed, cards_discarded, cards_owed, has_drawn, hole_cards_dealt}
use Rattle.play_event.specs.Games.{board_cards_on, hole_cards_on, street_count}
use Rattle.play_event.specs.Past.{Boarded, Dealt, Discarded, Move, Moved, Mucked, Past, Shown, moves_of}
use Rattle.play_event.specs.Seats.{is_live}
use Rattle.play_event.specs.Streets.{deck_of, has_draw}
use Rattle.chip_ledger.specs.Seat.{IsSeatOf}

-- how many cards were dealt
abbrev pub cards_out : Past → ℕ
cards_out [] = 0
cards_out (Dealt street seat cards ∷ before) = length cards + cards_out before
cards_out (Boarded street cards ∷ before) = length cards + cards_out before
cards_out (Moved move ∷ before) = cards_out before
cards_out (Discarded street seat cards ∷ before) = cards_out before
cards_out (Shown street seat cards ∷ before) = cards_out before
cards_out (Mucked street seat ∷ before) = cards_out before

-- how many discards there were
abbrev pub discards : Past → ℕ
discards [] = 0
discards (Discarded street seat cards ∷ before) = discards before + 1
discards (Dealt street seat cards ∷ before) = discards before
discards (Boarded street cards ∷ before) = discards before
discards (Moved move ∷ before) = discards before
discards (Shown street seat cards ∷ before) = discards before
discards (Mucked street seat ∷ before) = discards before

-- a street is one of the game
pub record IsStreet (setup : Setup) (street : ℕ) : Type 0 where
  pub first : 1 ≤ street
  pub last : street ≤ street_count setup.code

-- the most cards of a street that a seat is dealt, if it discards at most two
abbrev pub hole_few : Code → ℕ → ℕ
hole_few code street = if has_draw code street then 2 else hole_cards_on code street

abbrev pub on_street : Setup → Past → ℕ → ℕ
on_street setup past street = board_cards_dealt past street + sum_from (hole_cards_dealt past street) 1 setup.stacks.seats

abbrev pub on_all : Setup → Past → ℕ
on_all setup past = sum_from (on_street setup past) 1 (street_count setup.code)

-- what holds of the cards that were dealt
pub record IsFewDealt (setup : Setup) (past : Past) : Type 0 where
  pub all : cards_out past ≤ on_all setup past
  pub holes : (street seat : ℕ) → hole_cards_dealt past street seat ≤ hole_few setup.code street
  pub boards : (street : ℕ) → board_cards_dealt past street ≤ board_cards_on setup.code street
  pub out : (street seat : ℕ) → cards_discarded past street seat ≤ 2

pub none_dealt : (setup : Setup) → IsFewDealt setup []
none_dealt setup = record { all = omega arith; holes = λ street seat. omega arith; boards = λ street. omega arith; out = λ street seat. omega arith }

within_if : (b : Bool) (n k most : ℕ) → k ≤ most → (b ≡ true → n + k ≤ most) → (if b then n else 0) + k ≤ most
within_if true n k most less fits = fits refl
within_if false n k most less fits = omega (arith, less)

more_if : (b : Bool) (n k : ℕ) → k ≤ (if b then n else 0) + k
more_if b n k = omega arith

-- a deal to a seat
pub deal_few : (setup : Setup) (before : Past) (street seat : ℕ) (cards : List Slot) → IsFewDealt setup before → IsStreet setup street → IsSeatOf setup.stacks.seats seat → length cards + hole_cards_dealt before street seat ≤ hole_few setup.code street → IsFewDealt setup (Dealt street seat cards ∷ before)
deal_few setup before street seat cards few on in_hand fits = record {
  all =
      let own : ◌≡◌ {A = ℕ} (if (street == street) && (seat == seat) then length cards else 0) (length cards) =
      ap (λ b. if b && (seat == seat) then length cards else 0) (eq-eqb street street refl) ∙ ap (λ b. if b then length cards else 0) (eq-eqb seat seat refl) in
      let here : on_street setup before street + length cards ≤ on_street setup after street =
      omega (arith, sum_more (hole_cards_dealt after street) (hole_cards_dealt before street) 1 setup.stacks.seats seat (length cards) (λ k. omega arith) in_hand.first (omega (arith, in_hand.last)) (omega (arith, own))) in
      omega (arith, few.all, sum_more (on_street setup after) (on_street setup before) 1 (street_count setup.code) street (length cards) street_less on.first (omega (arith, on.last)) here);
  holes = λ s k. within_if ((street == s) && (seat == k)) (length cards) (hole_cards_dealt before s k) (hole_few setup.code s) (few.holes s k) (λ is.
      let parts = and_parts (street == s) (seat == k) is in
      subst (λ (t : ℕ). length cards + hole_cards_dealt before t k ≤ hole_few setup.code t) (eqb-true street s parts.0)
      (subst (λ (n : ℕ). length cards + hole_cards_dealt before street n ≤ hole_few setup.code street) (eqb-true seat k parts.1) fits));
  boards = few.boards;
  out = few.out;
}
  where
    after : Past
    after = Dealt street seat cards ∷ before

    street_less : (s : ℕ) → on_street setup before s ≤ on_street setup (Dealt street seat cards ∷ before) s
    street_less s = omega (arith, sum_least (hole_cards_dealt (Dealt street seat cards ∷ before) s) (hole_cards_dealt before s) 1 setup.stacks.seats (λ k from. omega arith))

-- a deal to the board
pub board_few : (setup : Setup) (before : Past) (street : ℕ) (cards : List Card) → IsFewDealt setup before → IsStreet setup street → length cards + board_cards_dealt before street ≤ board_cards_on setup.code street → IsFewDealt setup (Boarded street cards ∷ before)
board_few setup before street cards few on fits = record {
  all =
      let own : ◌≡◌ {A = ℕ} (if street == street then length cards else 0) (length cards) = ap (λ b. if b then length cards else 0) (eq-eqb street street refl) in
      omega (arith, few.all, sum_more (on_street setup (Boarded street cards ∷ before)) (on_street setup before) 1 (street_count setup.code) street (length cards) (λ s. omega arith) on.first (omega (arith, on.last)) (omega (arith, own)));
  holes = few.holes;
  boards = λ s. within_if (street == s) (length cards) (board_cards_dealt before s) (board_cards_on setup.code s) (few.boards s) (λ is.
      subst (λ (t : ℕ). length cards + board_cards_dealt before t ≤ board_cards_on setup.code t) (eqb-true street s is) fits);
  out = few.out;
}

-- a discard of at most two cards by a seat that has discarded none
pub discard_few : (setup : Setup) (before : Past) (street seat : ℕ) (cards : List Slot) → IsFewDealt setup before → cards_discarded before street seat ≡ 0 → length cards ≤ 2 → IsFewDealt setup (Discarded street seat cards ∷ before)
discard_few setup before street seat cards few none two = record {
  all = few.all;
  holes = few.holes;
  boards = few.boards;
  out = λ s k. within_if ((street == s) && (seat == k)) (length cards) (cards_discarded before s k) 2 (few.out s k) (λ is.
      let parts = and_parts (street == s) (seat == k) is in
      omega (arith, two, subst (λ (t : ℕ). cards_discarded before t k ≡ 0) (eqb-true street s parts.0) (subst (λ (n : ℕ). cards_discarded before street n ≡ 0) (eqb-true seat k parts.1) none)));
}

-- a move
pub move_few : (setup : Setup) (before : Past) (move : Move) → IsFewDealt setup before → IsFewDealt setup (Moved move ∷ before)
move_few setup before move few = record { all = few.all; holes = few.holes; boards = few.boards; out = few.out }

-- what is due fits
pub owed_fits : (setup : Setup) (before : Past) (street seat : ℕ) → IsFewDealt setup before → cards_owed setup before street seat + hole_cards_dealt before street seat ≤ hole_few setup.code street
owed_fits setup before street seat few = by_draw (has_draw setup.code street) (few.holes street seat) (few.out street seat)
  where
    live_fits : (live : Bool) (most dealt : ℕ) → dealt ≤ most → (if live then most - dealt else 0) + dealt ≤ most
    live_fits true most dealt less = omega (arith, less)
    live_fits false most dealt less = omega (arith, less)

    by_draw : (draws : Bool) → hole_cards_dealt before street seat ≤ (if draws then 2 else hole_cards_on setup.code street) → cards_discarded before street seat ≤ 2
        → (if draws then (cards_discarded before street seat - hole_cards_dealt before street seat) else (if is_live (moves_of before) seat then hole_cards_on setup.code street - hole_cards_dealt before street seat else 0)) + hole_cards_dealt before street seat ≤ (if draws then 2 else hole_cards_on setup.code street)
    by_draw true less two = omega (arith, less, two)
    by_draw false less two = live_fits (is_live (moves_of before) seat) (hole_cards_on setup.code street) (hole_cards_dealt before street seat) less

pub board_fits : (setup : Setup) (before : Past) (street : ℕ) → IsFewDealt setup before → board_cards_owed setup before street + board_cards_dealt before street ≤ board_cards_on setup.code street
board_fits setup before street few = omega (arith, few.boards street)

-- all streets together, by game
game_few : (code : Code) (seats : ℕ) → seats ≤ 4 → sum_from (λ street. board_cards_on code street + seats * hole_few code street) 1 (street_count code) ≤ deck_of code
game_few games.FT seats few = omega (arith, few)
game_few games.NT seats few = omega (arith, few)
game_few games.NS seats few = omega (arith, few)
game_few games.PO seats few = omega (arith, few)
game_few games.FO8 seats few = omega (arith, few)
game_few games.F7S seats few = omega (arith, few)
game_few games.F7S8 seats few = omega (arith, few)
game_few games.FR seats few = omega (arith, few)
game_few games.N2L1D seats few = omega (arith, few)
game_few games.F2L3D seats few = omega (arith, few)
game_few games.FB seats few = omega (arith, few)

-- the deck has cards enough
pub deck_enough : (setup : Setup) (past : Past) → setup.stacks.seats ≤ 4 → IsFewDealt setup past → cards_out past ≤ deck_of setup.code
deck_enough setup past four few =
    omega (
      arith,
      few.all,
      sum_least (λ street. board_cards_on setup.code street + setup.stacks.seats * hole_few setup.code street) (on_street setup past) 1 (street_count setup.code)
          (λ street from. omega (arith, few.boards street, sum_most (hole_cards_dealt past street) (hole_few setup.code street) 1 setup.stacks.seats (λ seat. few.holes street seat))),
      game_few setup.code setup.stacks.seats four,
    )

-- the seats that drew, street by street
abbrev pub drawn_on : Setup → Past → ℕ → ℕ
drawn_on setup past street = sum_from (λ seat. cond (has_drawn past street seat) 1 0) 1 setup.stacks.seats

abbrev pub all_drawn : Setup → Past → ℕ
all_drawn setup past = sum_from (drawn_on setup past) 1 5

one_if : (b : Bool) → cond b 1 0 ≤ 1
one_if true = omega arith
one_if false = omega arith

less_if : (a b : Bool) → cond b 1 0 ≤ cond (a || b) 1 0
less_if true b = one_if b
less_if false b = omega arith

-- one more discard, by a seat that did not draw on the street
pub one_drawn : (setup : Setup) (before : Past) (street seat : ℕ) (cards : List Slot) → 1 ≤ street → street ≤ 5 → IsSeatOf setup.stacks.seats seat → has_drawn before street seat ≡ false → all_drawn setup before + 1 ≤ all_drawn setup (Discarded street seat cards ∷ before)
one_drawn setup before street seat cards first five in_hand undrawn =
    sum_more (drawn_on setup (Discarded street seat cards ∷ before)) (drawn_on setup before) 1 5 street 1
    (λ s. sum_least (λ k. cond (has_drawn (Discarded street seat cards ∷ before) s k) 1 0) (λ k. cond (has_drawn before s k) 1 0) 1 setup.stacks.seats (λ k from. less_if ((street == s) && (seat == k)) (has_drawn before s k)))
    first (omega (arith, five))
    (sum_more (λ k. cond (has_drawn (Discarded street seat cards ∷ before) street k) 1 0) (λ k. cond (has_drawn before street k) 1 0) 1 setup.stacks.seats seat 1 (λ k. less_if ((street == street) && (seat == k)) (has_drawn before street k)) in_hand.first (omega (arith, in_hand.last)) now)
  where
    now : cond (has_drawn before street seat) 1 0 + 1 ≤ cond (((street == street) && (seat == seat)) || has_drawn before street seat) 1 0
    now =
        let none : ◌≡◌ {A = ℕ} (cond (has_drawn before street seat) 1 0) 0 = ap (λ b. cond b 1 0) undrawn in
        let one : ◌≡◌ {A = ℕ} (cond (((street == street) && (seat == seat)) || has_drawn before street seat) 1 0) 1 =
        ap (λ b. cond ((b && (seat == seat)) || has_drawn before street seat) 1 0) (eq-eqb street street refl) ∙ ap (λ b. cond (b || has_drawn before street seat) 1 0) (eq-eqb seat seat refl) in
        omega (arith, none, one)

pub few_drawn : (setup : Setup) (past : Past) → all_drawn setup past ≤ 5 * setup.stacks.seats
few_drawn setup past =
    omega (arith, sum_most (drawn_on setup past) setup.stacks.seats 1 5 (λ street. omega (arith, sum_most (λ seat. cond (has_drawn past street seat) 1 0) 1 1 setup.stacks.seats (λ seat. one_if (has_drawn past street seat)))))
