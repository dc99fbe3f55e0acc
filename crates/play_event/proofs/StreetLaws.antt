-- The street on which something is due is the first such street.
use Rattle.std.proofs.Common.{◌≡◌, ℕ, zero, suc, ◌+◌, ◌-◌, ◌≤◌, ◌<◌, Bool, true, false, inl, inr, Option, Some, None, refl, sym, ◌∙◌, ap, arith, nat_le, unwrap_or, if◌then◌else◌}
use Rattle.std.specs.Option.{option_map}
use Rattle.std.proofs.lemmas.Bool.{cases_lt, true≢false}
use Rattle.std.proofs.lemmas.Option.{same_Some}
use Rattle.card_set.proofs.Options.{some_is_none}
use Rattle.play_event.specs.declared.reason.Due.{Due}
use Rattle.play_event.specs.declared.reason.Due.TheVariants as dues
use Rattle.play_event.specs.declared.setup.Setup.{Setup}
use Rattle.play_event.specs.Games.{street_count}
use Rattle.play_event.specs.Past.{Past, moves_of, newest_street}
use Rattle.play_event.specs.Seats.{live_count}
use Rattle.play_event.specs.Showing.{is_show_due}
use Rattle.play_event.specs.Due.{turn, due_on, first_due, found_or, showdown, is_unfinished}
use Rattle.play_event.specs.Laws.{IsFirstStreet}
use Rattle.play_event.specs.declared.code.Code.{Code}
use Rattle.play_event.specs.declared.code.Code.TheVariants as games

-- the first of a number of streets on which something is due
found_step : (on : ℕ → Option Due) (rest street found : ℕ) (due : Due) (here : Option Due) → on street ≡ here → (first_due on rest (street + 1) ≡ Some (found, due) → IsFirstStreet on (street + 1) found due) → found_or (option_map (λ d. (street, d)) here) (first_due on rest (street + 1)) ≡ Some (found, due) → IsFirstStreet on street found due
found_step on rest street found due (Some first) here later is =
    let same : (street, first) ≡ (found, due) = same_Some (street, first) (found, due) is in
    let street_is : street ≡ found = ap (λ p. p.0) same in
    let due_is : first ≡ due = ap (λ p. p.1) same in
    record {
      reached = omega (arith, street_is);
      is_due = ap on (sym street_is) ∙ here ∙ ap Some due_is;
      quiet = λ between least most. absurd (omega (arith, street_is, least, most));
    }
found_step on rest street found due None here later is =
    let found_later = later is in
    record {
      reached = omega (arith, found_later.reached);
      is_due = found_later.is_due;
      quiet = λ between least most. elim (cases_lt street between) [
        | inl above ↦ found_later.quiet between (omega (arith, above)) most
        | inr below ↦ let same : between ≡ street = omega (arith, below, least) in ap on same ∙ here
      ];
    }

pub street_found : (on : ℕ → Option Due) (rest street found : ℕ) (due : Due) → first_due on rest street ≡ Some (found, due) → IsFirstStreet on street found due
street_found on zero street found due is = absurd (some_is_none (sym is))
street_found on (suc rest) street found due is =
    found_step on rest street found due (on street) refl (street_found on rest (street + 1) found due) is

-- and if it is the first such street among them, it is found
first_here : (on : ℕ → Option Due) (rest street found : ℕ) (due : Due) → on street ≡ Some due → street ≡ found → first_due on (suc rest) street ≡ Some (found, due)
first_here on rest street found due here same =
    ap (λ o. found_or (option_map (λ d. (street, d)) o) (first_due on rest (street + 1))) here ∙ ap (λ n. Some (n, due)) same

first_later : (on : ℕ → Option Due) (rest street : ℕ) → on street ≡ None → first_due on (suc rest) street ≡ first_due on rest (street + 1)
first_later on rest street quiet = ap (λ o. found_or (option_map (λ d. (street, d)) o) (first_due on rest (street + 1))) quiet

pub first_street : (on : ℕ → Option Due) (rest street found : ℕ) (due : Due) → IsFirstStreet on street found due → found < street + rest → first_due on rest street ≡ Some (found, due)
first_street on zero street found due first within = absurd (omega (arith, first.reached, within))
first_street on (suc rest) street found due first within = elim (cases_lt street found) [
  | inl above ↦
      first_later on rest street (first.quiet street (omega arith) above)
      ∙ first_street on rest (street + 1) found due (record { reached = omega (arith, above); is_due = first.is_due; quiet = λ between least most. first.quiet between (omega (arith, least)) most }) (omega (arith, within))
  | inr below ↦
      let same : street ≡ found = omega (arith, below, first.reached) in
      first_here on rest street found due (ap on same ∙ first.is_due) same
]

-- a showdown may end the hand
pub shown_unfinished : (b : Bool) → is_unfinished (if b then dues.Show else dues.Over) ≡ false
shown_unfinished true = refl
shown_unfinished false = refl

-- what is due, from the first street on which something is
turn_by : (setup : Setup) (past : Past) (over : Bool) (found : Option (ℕ × Due)) → ℕ × Due
turn_by setup past over found = if over then (newest_street past, dues.Over) else unwrap_or found (street_count setup.code, showdown setup past)

found_due : (setup : Setup) (past : Past) (street : ℕ) (due : Due) (over : Bool) (found : Option (ℕ × Due)) → found ≡ first_due (due_on setup past) (street_count setup.code + 1 - newest_street past) (newest_street past) → turn_by setup past over found ≡ (street, due) → is_unfinished due ≡ true → IsFirstStreet (due_on setup past) (newest_street past) street due
unfolding turn_by
found_due setup past street due true found walked is unfinished =
    absurd (true≢false (sym unfinished ∙ ap is_unfinished (sym (ap (λ p. p.1) is))))
found_due setup past street due false None walked is unfinished =
    absurd (true≢false (sym unfinished ∙ ap is_unfinished (sym (ap (λ p. p.1) is)) ∙ shown_unfinished (is_show_due setup past)))
found_due setup past street due false (Some there) walked is unfinished =
    street_found (due_on setup past) (street_count setup.code + 1 - newest_street past) (newest_street past) street due (sym walked ∙ ap Some is)

pub due_is_first : (setup : Setup) (past : Past) (street : ℕ) (due : Due) → turn setup past ≡ (street, due) → is_unfinished due ≡ true → IsFirstStreet (due_on setup past) (newest_street past) street due
unfolding turn turn_by
due_is_first setup past street due is unfinished =
    found_due setup past street due (nat_le (live_count setup (moves_of past)) 1) (first_due (due_on setup past) (street_count setup.code + 1 - newest_street past) (newest_street past)) refl is unfinished

pub first_is_due : (setup : Setup) (past : Past) (street : ℕ) (due : Due) → nat_le (live_count setup (moves_of past)) 1 ≡ false → IsFirstStreet (due_on setup past) (newest_street past) street due → street ≤ street_count setup.code → turn setup past ≡ (street, due)
unfolding turn
first_is_due setup past street due more first within =
    let here : ℕ × Due = (newest_street past, dues.Over) in
    ap (λ b. if b then here else unwrap_or (first_due (due_on setup past) (street_count setup.code + 1 - newest_street past) (newest_street past)) (street_count setup.code, showdown setup past)) more
    ∙ ap (λ o. unwrap_or o (street_count setup.code, showdown setup past)) (first_street (due_on setup past) (street_count setup.code + 1 - newest_street past) (newest_street past) street due first (omega (arith, first.reached, within)))

-- a game has at most five streets
pub few_streets : (code : Code) → street_count code ≤ 5
few_streets games.FT = omega arith
few_streets _ = omega arith
