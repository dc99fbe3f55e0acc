-- What is due when an event is legal, and on which street it takes place.
use Rattle.std.proofs.Common.{◌≡◌, ℕ, zero, suc, ◌+◌, ◌-◌, ◌≤◌, ◌<◌, Bool, true, false, nat_le, Option, Some, None, refl, sym, ap, subst, arith, unwrap_or, if◌then◌else◌}
use Rattle.std.specs.Option.{option_map}
use Rattle.play_event.specs.declared.reason.Due.{Due}
use Rattle.play_event.specs.declared.reason.Due.TheVariants as dues
use Rattle.play_event.specs.declared.setup.Setup.{Setup}
use Rattle.play_event.specs.Games.{street_count}
use Rattle.play_event.specs.Past.{Past, moves_of, newest_street}
use Rattle.play_event.specs.Seats.{live_count}
use Rattle.play_event.specs.Dealing.{is_deal_due, is_draw_due}
use Rattle.play_event.specs.Due.{turn, due_on, first_due, found_or, showdown, is_bring_in_due, is_move_due, is_unfinished}
use Rattle.card_set.proofs.Options.{some_is_none}
use Rattle.std.proofs.lemmas.Option.{same_Some}
use Rattle.play_event.proofs.StreetLaws.{street_found, due_is_first}
use Rattle.play_event.proofs.DueStreets.{none_found}

-- what is due on a street
pub data IsDue (setup : Setup) (before : Past) (street : ℕ) : Due → Type 0 where
  deal : is_deal_due setup before street ≡ true → IsDue setup before street (dues.Deal street)
  draw : is_deal_due setup before street ≡ false → is_draw_due setup before street ≡ true → IsDue setup before street (dues.Draw street)
  bring : is_deal_due setup before street ≡ false → is_draw_due setup before street ≡ false → is_bring_in_due setup (moves_of before) street ≡ true → IsDue setup before street dues.BringIn
  move : is_deal_due setup before street ≡ false → is_draw_due setup before street ≡ false → is_bring_in_due setup (moves_of before) street ≡ false → is_move_due setup (moves_of before) street ≡ true → IsDue setup before street dues.Move

due_by : (setup : Setup) (before : Past) (street : ℕ) (due : Due) (a b c d : Bool) → is_deal_due setup before street ≡ a → is_draw_due setup before street ≡ b → is_bring_in_due setup (moves_of before) street ≡ c → is_move_due setup (moves_of before) street ≡ d → (if a then Some (dues.Deal street) else if b then Some (dues.Draw street) else if c then Some dues.BringIn else if d then Some dues.Move else None) ≡ Some due → IsDue setup before street due
due_by setup before street due true b c d is_a is_b is_c is_d is = let P : Due → Type 0 = IsDue setup before street in subst P (same_Some (dues.Deal street) due is) (deal is_a)
due_by setup before street due false true c d is_a is_b is_c is_d is = let P : Due → Type 0 = IsDue setup before street in subst P (same_Some (dues.Draw street) due is) (draw is_a is_b)
due_by setup before street due false false true d is_a is_b is_c is_d is = let P : Due → Type 0 = IsDue setup before street in subst P (same_Some dues.BringIn due is) (bring is_a is_b is_c)
due_by setup before street due false false false true is_a is_b is_c is_d is = let P : Due → Type 0 = IsDue setup before street in subst P (same_Some dues.Move due is) (move is_a is_b is_c is_d)
due_by setup before street due false false false false is_a is_b is_c is_d is = absurd (some_is_none (sym is))

-- what is due on a street, as a fact
pub is_due : (setup : Setup) (before : Past) (street : ℕ) (due : Due) → due_on setup before street ≡ Some due → IsDue setup before street due
is_due setup before street due is = due_by setup before street due (is_deal_due setup before street) (is_draw_due setup before street) (is_bring_in_due setup (moves_of before) street) (is_move_due setup (moves_of before) street) refl refl refl refl is

-- nothing is due on a street
pub record IsNotDue (setup : Setup) (before : Past) (street : ℕ) : Type 0 where
  pub no_deal : is_deal_due setup before street ≡ false
  pub no_draw : is_draw_due setup before street ≡ false
  pub no_bring : is_bring_in_due setup (moves_of before) street ≡ false
  pub no_move : is_move_due setup (moves_of before) street ≡ false

not_due_by : (setup : Setup) (before : Past) (street : ℕ) (a b c d : Bool) → is_deal_due setup before street ≡ a → is_draw_due setup before street ≡ b → is_bring_in_due setup (moves_of before) street ≡ c → is_move_due setup (moves_of before) street ≡ d → (if a then Some (dues.Deal street) else if b then Some (dues.Draw street) else if c then Some dues.BringIn else if d then Some dues.Move else None) ≡ None → IsNotDue setup before street
not_due_by setup before street true b c d is_a is_b is_c is_d is = absurd (some_is_none is)
not_due_by setup before street false true c d is_a is_b is_c is_d is = absurd (some_is_none is)
not_due_by setup before street false false true d is_a is_b is_c is_d is = absurd (some_is_none is)
not_due_by setup before street false false false true is_a is_b is_c is_d is = absurd (some_is_none is)
not_due_by setup before street false false false false is_a is_b is_c is_d is = record { no_deal = is_a; no_draw = is_b; no_bring = is_c; no_move = is_d }

-- if nothing is due on a street, no deal, draw, bring-in or move is
pub not_due : (setup : Setup) (before : Past) (street : ℕ) → due_on setup before street ≡ None → IsNotDue setup before street
not_due setup before street is = not_due_by setup before street (is_deal_due setup before street) (is_draw_due setup before street) (is_bring_in_due setup (moves_of before) street) (is_move_due setup (moves_of before) street) refl refl refl refl is

-- the turn: on the street of the past or a later one, with nothing due in between
pub record Reaches (setup : Setup) (before : Past) (street : ℕ) : Type 0 where
  pub on : newest_street before ≤ street
  pub within : street ≤ street_count setup.code
  pub quiet : (between : ℕ) → newest_street before ≤ between → between < street → due_on setup before between ≡ None

-- what is found is found within the streets
within_step : (on : ℕ → Option Due) (rest street found : ℕ) (due : Due) (here : Option Due) → (first_due on rest (street + 1) ≡ Some (found, due) → found < (street + 1) + rest) → found_or (option_map (λ d. (street, d)) here) (first_due on rest (street + 1)) ≡ Some (found, due) → found < street + suc rest
within_step on rest street found due (Some first) later is = omega (arith, ap (λ (p : ℕ × Due). p.0) (same_Some (street, first) (found, due) is))
within_step on rest street found due None later is = omega (arith, later is)

found_within : (on : ℕ → Option Due) (rest street found : ℕ) (due : Due) → first_due on rest street ≡ Some (found, due) → found < street + rest
found_within on zero street found due is = absurd (some_is_none (sym is))
found_within on (suc rest) street found due is = within_step on rest street found due (on street) (found_within on rest (street + 1) found due) is

-- the turn by whether the hand is over and by what is found
abbrev pub turned_by : Setup → Past → Bool → Option (ℕ × Due) → ℕ × Due
turned_by setup before over found = if over then (newest_street before, dues.Over) else unwrap_or found (street_count setup.code, showdown setup before)

reaches_by : (setup : Setup) (before : Past) (over : Bool) (found : Option (ℕ × Due)) → newest_street before ≤ street_count setup.code → found ≡ first_due (due_on setup before) (street_count setup.code + 1 - newest_street before) (newest_street before) → Reaches setup before (turned_by setup before over found).0
reaches_by setup before true found most walked = record { on = omega arith; within = most; quiet = λ between least less. absurd (omega (arith, least, less)) }
reaches_by setup before false None most walked =
    record { on = most; within = omega arith; quiet = λ between least less. none_found (due_on setup before) (street_count setup.code + 1 - newest_street before) (newest_street before) (sym walked) between least (omega (arith, less, most)) }
reaches_by setup before false (Some there) most walked =
    let first = street_found (due_on setup before) (street_count setup.code + 1 - newest_street before) (newest_street before) there.0 there.1 (sym walked) in
    record { on = first.reached; within = omega (arith, most, found_within (due_on setup before) (street_count setup.code + 1 - newest_street before) (newest_street before) there.0 there.1 (sym walked)); quiet = first.quiet }

-- the turn reaches its street
pub turn_reaches : (setup : Setup) (before : Past) → newest_street before ≤ street_count setup.code → Reaches setup before (turn setup before).0
unfolding turn
turn_reaches setup before most = reaches_by setup before (nat_le (live_count setup (moves_of before)) 1) (first_due (due_on setup before) (street_count setup.code + 1 - newest_street before) (newest_street before)) most refl

-- what is due if the turn is that of a deal, a draw, a bring-in or a move
pub unfinished_due : (setup : Setup) (before : Past) (due : Due) → (turn setup before).1 ≡ due → is_unfinished due ≡ true → IsDue setup before (turn setup before).0 due
unfinished_due setup before due is unfinished =
    let first = due_is_first setup before (turn setup before).0 due (ap (λ d. ((turn setup before).0, d)) is) unfinished in
    is_due setup before (turn setup before).0 due first.is_due
