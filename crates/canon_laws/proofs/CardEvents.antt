-- When deals, discards, shows and mucks are legal, and what they leave.
use Rattle.std.proofs.Common.{◌≡◌, ℕ, ◌≤◌, ◌<◌, true, false, ◌&&◌, ◌||◌, not, Some, None, List, ◌∷◌, map, length, refl, sym, ◌∙◌, ap, subst, arith, nat_le}
use Rattle.card_set.specs.declared.card.Card.{Card}
use Rattle.card_set.specs.declared.card.Slot.{Slot}
use Rattle.card_set.specs.declared.card.Slot.TheVariants as slots
use Rattle.play_event.specs.declared.reason.Due.{Due}
use Rattle.play_event.specs.declared.reason.Due.TheVariants as dues
use Rattle.play_event.specs.declared.setup.Setup.{Setup}
use Rattle.play_event.specs.declared.setup.Rules.{Rules}
use Rattle.play_event.specs.Games.{street_count}
use Rattle.play_event.specs.Said as said
use Rattle.play_event.specs.Said.{Said}
use Rattle.play_event.specs.Past as past
use Rattle.play_event.specs.Past.{Past, Resolved, moves_of, newest_street, street_of}
use Rattle.play_event.specs.Seats.{live_count}
use Rattle.play_event.specs.Dealing.{cards_owed, board_cards_owed}
use Rattle.play_event.specs.Due.{turn, due_on}
use Rattle.play_event.specs.Table.{places_of}
use Rattle.play_event.specs.Taken.{has_taken_card, has_misplaced_card}
use Rattle.play_event.specs.NameMatching.{after_discard, after_show}
use Rattle.play_event.specs.CardReasons.{is_owed_nothing, is_next_to_draw, may_show, may_show_so_many, is_wrong_deal, is_wrong_count, is_not_held}
use Rattle.play_event.specs.Reasons.{why, all_reasons, is_over, is_due_kind}
use Rattle.play_event.specs.Scripts.{with_event}
use Rattle.play_event.specs.Laws.{NoneHold}
use Rattle.play_event.proofs.StreetLaws.{first_is_due}
use Rattle.play_event.proofs.ReasonLaws.{legal_without_reason}

-- a past has reached a street: nothing is due before it, and two or more seats are live
pub record HasCome (setup : Setup) (before : Past) (street : ℕ) : Type 0 where
  pub several : nat_le (live_count setup (moves_of before)) 1 ≡ false
  pub reached : newest_street before ≤ street
  pub last : street ≤ street_count setup.code
  pub quiet : (between : ℕ) → newest_street before ≤ between → between < street → due_on setup before between ≡ None

-- what is due on the street that it has reached is due
pub due_there : (setup : Setup) (before : Past) (street : ℕ) (due : Due) → HasCome setup before street → due_on setup before street ≡ Some due → turn setup before ≡ (street, due)
due_there setup before street due come is =
    first_is_due setup before street due come.several (record { reached = come.reached; is_due = is; quiet = come.quiet }) come.last

-- and is still due after an event on it that is no move
pub still_there : (setup : Setup) (before : Past) (street : ℕ) (event : Resolved) → HasCome setup before street → street_of event ≡ street → moves_of (event ∷ before) ≡ moves_of before → HasCome setup (event ∷ before) street
still_there setup before street event come on same =
    record {
      several = ap (λ moves. nat_le (live_count setup moves) 1) same ∙ come.several;
      reached = omega (arith, on);
      last = come.last;
      quiet = λ between least most. absurd (omega (arith, on, least, most));
    }

-- the reasons when this is due
abbrev pub NoneHoldAt : Setup → Rules → Past → ℕ × Due → Said → Type 0
NoneHoldAt setup rules before now event = NoneHold (all_reasons setup rules before now event)

-- an event is legal if no reason holds against it
pub legal_at : (setup : Setup) (rules : Rules) (before : Past) (now : ℕ × Due) (event : Said) → turn setup before ≡ now → NoneHoldAt setup rules before now event → why setup rules before event ≡ None
legal_at setup rules before now event turned none =
    let P : ℕ × Due → Type 0 = λ at. NoneHoldAt setup rules before at event in
    legal_without_reason setup rules before event (subst P (sym turned) none)

-- a deal is legal if it is due, its seat is owed this number of cards, and none of them is taken
pub deal_legal : (setup : Setup) (rules : Rules) (before : Past) (street : ℕ) (due : Due) (seat : ℕ) (cards : List Slot) → turn setup before ≡ (street, due) → is_over due ≡ false → is_due_kind setup.code due (said.Hole seat cards) ≡ true → is_owed_nothing setup before street seat ≡ false → is_wrong_deal (cards_owed setup before street seat) (length cards) ≡ false → has_taken_card setup.code (places_of setup.code before) street cards ≡ false → why setup rules before (said.Hole seat cards) ≡ None
deal_legal setup rules before street due seat cards turned going kind owed count free =
    legal_at setup rules before (street, due) (said.Hole seat cards) turned
    (ap (λ b. b && true) going, (ap (λ b. not (b || false)) kind, (owed, (count, (free, (refl, (refl, (refl, (refl, (refl, (refl, (refl, tt))))))))))))

-- what a deal changes
pub deal_placed : (setup : Setup) (before : Past) (street : ℕ) (due : Due) (seat : ℕ) (cards : List Slot) → turn setup before ≡ (street, due) → with_event setup (said.Hole seat cards) before ≡ past.Dealt street seat cards ∷ before
unfolding with_event
deal_placed setup before street due seat cards turned = ap (λ (at : ℕ × Due). past.Dealt at.0 seat cards ∷ before) turned

-- a deal of the board is legal if it is owed and its cards are not taken
pub board_legal : (setup : Setup) (rules : Rules) (before : Past) (street : ℕ) (cards : List Card) → turn setup before ≡ (street, dues.Deal street) → is_due_kind setup.code (dues.Deal street) (said.Board cards) ≡ true → is_wrong_deal (board_cards_owed setup before street) (length cards) ≡ false → has_taken_card setup.code (places_of setup.code before) street (map (λ card. slots.Known card) cards) ≡ false → why setup rules before (said.Board cards) ≡ None
board_legal setup rules before street cards turned kind count free =
    legal_at setup rules before (street, dues.Deal street) (said.Board cards) turned
    (refl, (ap (λ b. not (b || false)) kind, (refl, (count, (free, (refl, (refl, (refl, (refl, (refl, (refl, (refl, tt))))))))))))

-- what it changes
pub board_placed : (setup : Setup) (before : Past) (street : ℕ) (due : Due) (cards : List Card) → turn setup before ≡ (street, due) → with_event setup (said.Board cards) before ≡ past.Boarded street cards ∷ before
unfolding with_event
board_placed setup before street due cards turned = ap (λ (at : ℕ × Due). past.Boarded at.0 cards ∷ before) turned

-- a discard is legal by the seat that draws next, of cards that it holds
pub discard_legal : (setup : Setup) (rules : Rules) (before : Past) (street seat : ℕ) (cards : List Slot) → turn setup before ≡ (street, dues.Draw street) → is_next_to_draw setup before street seat ≡ true → is_wrong_count setup before (places_of setup.code before) street (said.Discard seat cards) ≡ false → has_misplaced_card setup.code (places_of setup.code before) (after_discard street seat cards (places_of setup.code before)) ≡ false → is_not_held setup.code (places_of setup.code before) (said.Discard seat cards) ≡ false → why setup rules before (said.Discard seat cards) ≡ None
discard_legal setup rules before street seat cards turned next count free held =
    legal_at setup rules before (street, dues.Draw street) (said.Discard seat cards) turned
    (refl, (refl, (ap not next, (count, (free, (held, (refl, (refl, (refl, (refl, (refl, (refl, tt))))))))))))

-- what it changes
pub discard_placed : (setup : Setup) (before : Past) (street : ℕ) (due : Due) (seat : ℕ) (cards : List Slot) → turn setup before ≡ (street, due) → with_event setup (said.Discard seat cards) before ≡ past.Discarded street seat cards ∷ before
unfolding with_event
discard_placed setup before street due seat cards turned = ap (λ (at : ℕ × Due). past.Discarded at.0 seat cards ∷ before) turned

-- a show is legal by a seat that has to show, of cards that it holds
pub show_legal : (setup : Setup) (rules : Rules) (before : Past) (street seat : ℕ) (cards : List Card) → turn setup before ≡ (street, dues.Show) → may_show setup before seat ≡ true → may_show_so_many setup before (places_of setup.code before) seat (length cards) ≡ true → has_misplaced_card setup.code (places_of setup.code before) (after_show setup.code seat cards (places_of setup.code before)) ≡ false → is_not_held setup.code (places_of setup.code before) (said.Show seat cards) ≡ false → why setup rules before (said.Show seat cards) ≡ None
show_legal setup rules before street seat cards turned may count free held =
    legal_at setup rules before (street, dues.Show) (said.Show seat cards) turned
    (refl, (refl, (ap not may, (ap not count, (free, (held, (refl, (refl, (refl, (refl, (refl, (refl, tt))))))))))))

-- so is a muck
pub muck_legal : (setup : Setup) (rules : Rules) (before : Past) (street seat : ℕ) → turn setup before ≡ (street, dues.Show) → may_show setup before seat ≡ true → why setup rules before (said.Muck seat) ≡ None
muck_legal setup rules before street seat turned may =
    legal_at setup rules before (street, dues.Show) (said.Muck seat) turned
    (refl, (refl, (ap not may, (refl, (refl, (refl, (refl, (refl, (refl, (refl, (refl, (refl, tt))))))))))))
