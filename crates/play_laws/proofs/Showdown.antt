-- When the showdown is due, and when the hand is over.
use Rattle.std.proofs.Common.{◌≡◌, ℕ, ◌+◌, ◌-◌, ◌≤◌, Bool, true, false, nat_le, if◌then◌else◌, Option, Some, None, unwrap_or, refl, sym, ap, ◌∙◌, arith}
use Rattle.std.proofs.lemmas.Bool.{true≢false, not-false, and_parts, leb-true}
use Rattle.card_set.proofs.Options.{some_is_none}
use Rattle.play_event.proofs.ReasonLaws.{no_reason_holds}
use Rattle.play_event.proofs.StreetLaws.{street_found}
use Rattle.play_event.specs.CardReasons.{is_seat, may_show}
use Rattle.play_event.specs.Dealing.{is_deal_due, is_draw_due}
use Rattle.play_event.specs.Due.{turn, due_on, first_due, showdown, is_bring_in_due, is_move_due}
use Rattle.play_event.specs.Games.{street_count}
use Rattle.play_event.specs.Laws.{IsFirstStreet}
use Rattle.play_event.specs.Past.{Past, moves_of, newest_street}
use Rattle.play_event.specs.Reasons.{why, is_hand_over, is_first_show}
use Rattle.play_event.specs.Said as said
use Rattle.play_event.specs.Said.{Said}
use Rattle.play_event.specs.Seats.{live_count}
use Rattle.play_event.specs.Showing.{has_to_show, is_show_due}
use Rattle.play_event.specs.declared.reason.Due.TheVariants as dues
use Rattle.play_event.specs.declared.reason.Due.{Due}
use Rattle.play_event.specs.declared.setup.Rules.{Rules}
use Rattle.play_event.specs.declared.setup.Setup.{Setup}
use Rattle.play_laws.proofs.CardTurns.{several_live}
use Rattle.chip_ledger.proofs.SeatLists.{none_at}
use Rattle.play_laws.proofs.TurnAfter.{due_by}
use Rattle.play_event.proofs.DueStreets.{none_found}

-- nothing is due on a street
pub nothing_by : (street : ℕ) (deal draw bring_in move : Bool) → due_by street deal draw bring_in move ≡ None → (deal ≡ false) × (draw ≡ false) × (bring_in ≡ false) × (move ≡ false)
nothing_by street true draw bring_in move is = absurd (some_is_none is)
nothing_by street false true bring_in move is = absurd (some_is_none is)
nothing_by street false false true move is = absurd (some_is_none is)
nothing_by street false false false true is = absurd (some_is_none is)
nothing_by street false false false false is = (refl, refl, refl, refl)

pub show_over : dues.Show ≡ dues.Over → ⊥
show_over e = cc

never_show : (street : ℕ) (deal draw bring_in move : Bool) → due_by street deal draw bring_in move ≡ Some dues.Show → ⊥
never_show street true draw bring_in move is = cc
never_show street false true bring_in move is = cc
never_show street false false true move is = cc
never_show street false false false true is = cc
never_show street false false false false is = cc

-- if the showdown is due, it is the last street, and nothing else is due on it
pub record IsLast (setup : Setup) (past : Past) (street : ℕ) : Type 0 where
  pub last : street ≡ street_count setup.code
  pub quiet : newest_street past ≤ street → due_on setup past street ≡ None

last_by : (setup : Setup) (past : Past) (street : ℕ) (found : Option (ℕ × Due)) → first_due (due_on setup past) (street_count setup.code + 1 - newest_street past) (newest_street past) ≡ found → unwrap_or found (street_count setup.code, showdown setup past) ≡ (street, dues.Show) → IsLast setup past street
last_by setup past street (Some there) walked is =
    let first : IsFirstStreet (due_on setup past) (newest_street past) street dues.Show = street_found (due_on setup past) (street_count setup.code + 1 - newest_street past) (newest_street past) street dues.Show (walked ∙ ap Some is) in
    absurd (never_show street (is_deal_due setup past street) (is_draw_due setup past street) (is_bring_in_due setup (moves_of past) street) (is_move_due setup (moves_of past) street) first.is_due)
last_by setup past street None walked is =
    let same : street_count setup.code ≡ street = ap (λ (p : ℕ × Due). p.0) is in
    record {
      last = sym same;
      quiet = λ low. none_found (due_on setup past) (street_count setup.code + 1 - newest_street past) (newest_street past) walked street low (omega (arith, same, low));
    }

pub show_is_last : (setup : Setup) (past : Past) (street : ℕ) → turn setup past ≡ (street, dues.Show) → IsLast setup past street
unfolding turn
show_is_last setup past street is =
    let more : nat_le (live_count setup (moves_of past)) 1 ≡ false = several_live setup past street dues.Show is (λ other. cc) in
    last_by setup past street (first_due (due_on setup past) (street_count setup.code + 1 - newest_street past) (newest_street past)) refl
    (sym (ap (λ b. if b then (newest_street past, dues.Over) else unwrap_or (first_due (due_on setup past) (street_count setup.code + 1 - newest_street past) (newest_street past)) (street_count setup.code, showdown setup past)) more) ∙ is)

-- if several seats are live and the hand is over, each has shown or mucked
never_over : (street : ℕ) (deal draw bring_in move : Bool) → due_by street deal draw bring_in move ≡ Some dues.Over → ⊥
never_over street true draw bring_in move is = cc
never_over street false true bring_in move is = cc
never_over street false false true move is = cc
never_over street false false false true is = cc
never_over street false false false false is = cc

over_by : (shows : Bool) → (if shows then dues.Show else dues.Over) ≡ dues.Over → shows ≡ false
over_by false is = refl
over_by true is = absurd cc

shown_by : (setup : Setup) (past : Past) (street : ℕ) (found : Option (ℕ × Due)) → first_due (due_on setup past) (street_count setup.code + 1 - newest_street past) (newest_street past) ≡ found → unwrap_or found (street_count setup.code, showdown setup past) ≡ (street, dues.Over) → is_show_due setup past ≡ false
shown_by setup past street (Some there) walked is =
    let first : IsFirstStreet (due_on setup past) (newest_street past) street dues.Over = street_found (due_on setup past) (street_count setup.code + 1 - newest_street past) (newest_street past) street dues.Over (walked ∙ ap Some is) in
    absurd (never_over street (is_deal_due setup past street) (is_draw_due setup past street) (is_bring_in_due setup (moves_of past) street) (is_move_due setup (moves_of past) street) first.is_due)
shown_by setup past street None walked is = over_by (is_show_due setup past) (ap (λ (p : ℕ × Due). p.1) is)

pub all_shown : (setup : Setup) (past : Past) (street : ℕ) → turn setup past ≡ (street, dues.Over) → nat_le (live_count setup (moves_of past)) 1 ≡ false → is_show_due setup past ≡ false
unfolding turn
all_shown setup past street is more =
    shown_by setup past street (first_due (due_on setup past) (street_count setup.code + 1 - newest_street past) (newest_street past)) refl
    (sym (ap (λ b. if b then (newest_street past, dues.Over) else unwrap_or (first_due (due_on setup past) (street_count setup.code + 1 - newest_street past) (newest_street past)) (street_count setup.code, showdown setup past)) more) ∙ is)

-- and then no seat may show any more
none_may : (setup : Setup) (past : Past) (seat : ℕ) → is_show_due setup past ≡ false → may_show setup past seat ≡ true → ⊥
none_may setup past seat none may =
    let parts = and_parts (is_seat setup seat) (has_to_show past seat) may in
    let ends = and_parts (nat_le 1 seat) (nat_le seat setup.stacks.seats) parts.0 in
    true≢false (sym parts.1 ∙ none_at (has_to_show past) setup.stacks.seats seat (leb-true 1 seat ends.0) (leb-true seat setup.stacks.seats ends.1) none)

none_first : (setup : Setup) (past : Past) (event : Said) → is_show_due setup past ≡ false → is_first_show setup past event ≡ true → ⊥
none_first setup past (said.Show seat cards) none is = none_may setup past seat none is
none_first setup past (said.Muck seat) none is = none_may setup past seat none is
none_first setup past (said.Hole seat cards) none is = true≢false (sym is)
none_first setup past (said.Board cards) none is = true≢false (sym is)
none_first setup past (said.Fold named) none is = true≢false (sym is)
none_first setup past (said.Call named stated) none is = true≢false (sym is)
none_first setup past (said.Raise named amount) none is = true≢false (sym is)
none_first setup past (said.BringIn named) none is = true≢false (sym is)
none_first setup past (said.Discard seat cards) none is = true≢false (sym is)

-- a legal event after the hand is over is the show or muck of its only live seat
pub one_left : (setup : Setup) (rules : Rules) (past : Past) (event : Said) (street : ℕ) → turn setup past ≡ (street, dues.Over) → why setup rules past event ≡ None → (few : Bool) → nat_le (live_count setup (moves_of past)) 1 ≡ few → nat_le (live_count setup (moves_of past)) 1 ≡ true
one_left setup rules past event street is legal true few = few
one_left setup rules past event street is legal false few =
    let not_over : is_hand_over setup past dues.Over event ≡ false = sym (ap (λ (now : ℕ × Due). is_hand_over setup past now.1 event) is) ∙ (no_reason_holds setup rules past event legal).0 in
    absurd (none_first setup past event (all_shown setup past street is few) (not-false (is_first_show setup past event) not_over))
