-- A raise to a legal target goes above the current bet.
use Rattle.std.proofs.Common.{◌≡◌, ℕ, zero, suc, ◌+◌, ◌-◌, ◌≤◌, ◌<◌, Bool, true, false, ◌&&◌, ◌||◌, ◌==◌, min, nat_le, nat_lt, if◌then◌else◌, inl, inr, List, [], ◌∷◌, length, slice_get, refl, arith}
use Rattle.std.specs.List.{list_all, list_any}
use Rattle.std.specs.Option.{option_map_or}
use Rattle.std.proofs.lemmas.Bool.{and_parts, eqb-true, leb-true, ltb-true, or_cases}
use Rattle.card_set.proofs.Tests.{false_true}
use Rattle.play_event.specs.declared.code.Code.{Code}
use Rattle.play_event.specs.declared.code.Code.TheVariants as games
use Rattle.play_event.specs.declared.limit.Limit.{Limit}
use Rattle.play_event.specs.declared.limit.Limit.TheVariants as limits
use Rattle.play_event.specs.declared.setup.Reopen.{Reopen}
use Rattle.play_event.specs.declared.setup.Reopen.TheVariants as reopens
use Rattle.play_event.specs.declared.setup.Rules.{Rules}
use Rattle.play_event.specs.declared.setup.Setup.{Setup}
use Rattle.play_event.specs.declared.street.Size.{Size}
use Rattle.play_event.specs.declared.street.Size.TheVariants as sizes
use Rattle.play_event.specs.declared.street.Street.{Street}
use Rattle.play_event.specs.Chips.{all_in}
use Rattle.play_event.specs.Games.{game_of, street_count}
use Rattle.play_event.specs.Laws.{AreLegal}
use Rattle.play_event.specs.Past.{Move, moves_of}
use Rattle.play_event.specs.CurrentBet.{full_bet, full_raise, current_bet}
use Rattle.play_event.specs.Said.{Said}
use Rattle.play_event.specs.Scripts.{past_of}
use Rattle.play_event.specs.Streets.{chips_of_size, limit_of, unit}
use Rattle.play_event.specs.Targets.{floor, full_targets, is_legal_target, is_target_in, pot_ceiling}
use Rattle.play_event.specs.ValidSetup.{IsSizeWhere, IsValid, is_fixed_limit}
use Rattle.play_event.proofs.FloorLaws.{above_current_bet}
use Rattle.chip_ledger.specs.Greatest.{greatest}

-- in fixed limit each street has a bet
is_bet : Size → Bool
is_bet sizes.Small = true
is_bet sizes.Big = true
is_bet sizes.Least = false

all_bets : (code : Code) → is_fixed_limit (limit_of code) ≡ true → list_all (λ (s : Street). is_bet s.size) (game_of code).streets ≡ true
unfolding is_bet
all_bets games.FT is = refl
all_bets games.NT is = false_true is
all_bets games.NS is = false_true is
all_bets games.PO is = false_true is
all_bets games.FO8 is = refl
all_bets games.F7S is = refl
all_bets games.F7S8 is = refl
all_bets games.FR is = refl
all_bets games.N2L1D is = false_true is
all_bets games.F2L3D is = refl
all_bets games.FB is = refl

bet_at : (streets : List Street) (index : ℕ) → list_all (λ (s : Street). is_bet s.size) streets ≡ true → index < length streets → is_bet (option_map_or (λ s. s.size) (slice_get streets index) sizes.Least) ≡ true
bet_at [] index all within = absurd (omega (arith, within))
bet_at (first ∷ rest) zero all within = (and_parts (is_bet first.size) (list_all (λ (s : Street). is_bet s.size) rest) all).0
bet_at (first ∷ rest) (suc index) all within = bet_at rest index (and_parts (is_bet first.size) (list_all (λ (s : Street). is_bet s.size) rest) all).1 (omega (arith, within))

some_size : (b : Bool) (chips : ℕ) → b ≡ true → IsSizeWhere b chips → 1 ≤ chips
some_size true chips is size = size.0
some_size false chips is size = false_true is

some_bet : (setup : Setup) (size : Size) → is_bet size ≡ true → 1 ≤ setup.small_bet → 1 ≤ setup.big_bet → 1 ≤ chips_of_size setup size
unfolding is_bet
some_bet setup sizes.Small is small big = small
some_bet setup sizes.Big is small big = big
some_bet setup sizes.Least is small big = false_true is

some_unit : (setup : Setup) (street : ℕ) → IsValid setup → is_fixed_limit (limit_of setup.code) ≡ true → 1 ≤ street → street ≤ street_count setup.code → 1 ≤ unit setup street
some_unit setup street valid fixed first last =
    some_bet setup (option_map_or (λ s. s.size) (slice_get (game_of setup.code).streets (street - 1)) sizes.Least)
    (bet_at (game_of setup.code).streets (street - 1) (all_bets setup.code fixed) (omega (arith, first, last)))
    (some_size (is_fixed_limit (limit_of setup.code)) setup.small_bet fixed valid.small_bet)
    (some_size (is_fixed_limit (limit_of setup.code)) setup.big_bet fixed valid.big_bet)

-- the full targets of fixed limit are above the current bet
module _ (the_current_bet the_unit last target : ℕ) (some : 1 ≤ the_unit) where
  abbrev full_raise_targets : Bool → Bool → List ℕ
  full_raise_targets less above = if less then (the_unit ∷ []) else ((the_current_bet + the_unit) ∷ (if above then ((last + the_unit) ∷ []) else []))

  one_of : (less above : Bool) → nat_lt the_current_bet the_unit ≡ less → nat_lt the_current_bet (last + the_unit) ≡ above → list_any (λ full. target == full) (full_raise_targets less above) ≡ true → the_current_bet < target
  one_of true above is over any = elim (or_cases (target == the_unit) false any) [
    | inl here ↦ omega (arith, eqb-true target the_unit here, ltb-true the_current_bet the_unit is)
    | inr none ↦ false_true none
  ]
  one_of false true is over any = elim (or_cases (target == the_current_bet + the_unit) (target == last + the_unit || false) any) [
    | inl here ↦ omega (arith, some, eqb-true target (the_current_bet + the_unit) here)
    | inr later ↦ elim (or_cases (target == last + the_unit) false later) [
      | inl here ↦ omega (arith, eqb-true target (last + the_unit) here, ltb-true the_current_bet (last + the_unit) over)
      | inr none ↦ false_true none
    ]
  ]
  one_of false false is over any = elim (or_cases (target == the_current_bet + the_unit) false any) [
    | inl here ↦ omega (arith, some, eqb-true target (the_current_bet + the_unit) here)
    | inr none ↦ false_true none
  ]

goes_above : (limit : Limit) (reopen : Reopen) (setup : Setup) (moves : List Move) (street seat target : ℕ)
    → (is_fixed_limit limit ≡ false → current_bet setup moves street < floor reopen setup moves street)
    → (is_fixed_limit limit ≡ false → 1 ≤ full_raise setup moves street)
    → (is_fixed_limit limit ≡ true → 1 ≤ unit setup street)
    → current_bet setup moves street < all_in setup moves street seat → is_target_in limit reopen setup moves street seat target ≡ true
    → current_bet setup moves street < target
goes_above limits.No reopen setup moves street seat target above full some chips is = elim (or_cases (nat_le (floor reopen setup moves street) target && nat_le target (all_in setup moves street seat)) (target == all_in setup moves street seat) is) [
  | inl within ↦ omega (arith, above refl, leb-true (floor reopen setup moves street) target (and_parts (nat_le (floor reopen setup moves street) target) (nat_le target (all_in setup moves street seat)) within).0)
  | inr all ↦ omega (arith, chips, eqb-true target (all_in setup moves street seat) all)
]
goes_above limits.Pot reopen setup moves street seat target above full some chips is =
    let least = current_bet setup moves street + full_raise setup moves street in
    let most = min (all_in setup moves street seat) (pot_ceiling setup moves street seat) in
    elim (or_cases (nat_le least target && nat_le target most) ((target == all_in setup moves street seat) && nat_le target (pot_ceiling setup moves street seat)) is) [
      | inl within ↦ omega (arith, full refl, leb-true least target (and_parts (nat_le least target) (nat_le target most) within).0)
      | inr all ↦ omega (arith, chips, eqb-true target (all_in setup moves street seat) (and_parts (target == all_in setup moves street seat) (nat_le target (pot_ceiling setup moves street seat)) all).0)
    ]
goes_above limits.Fixed reopen setup moves street seat target above full some chips is =
    let fits = list_any (λ full. target == full) (full_targets setup moves street) in
    let the_current_bet = current_bet setup moves street in
    let the_unit = unit setup street in
    let last = full_bet setup moves street in
    elim (or_cases (fits && nat_le target (all_in setup moves street seat)) ((target == all_in setup moves street seat) && nat_lt target (greatest (full_targets setup moves street))) is) [
      | inl within ↦ one_of the_current_bet the_unit last target (some refl) (nat_lt the_current_bet the_unit) (nat_lt the_current_bet (last + the_unit)) refl refl (and_parts fits (nat_le target (all_in setup moves street seat)) within).0
      | inr all ↦ omega (arith, chips, eqb-true target (all_in setup moves street seat) (and_parts (target == all_in setup moves street seat) (nat_lt target (greatest (full_targets setup moves street))) all).0)
    ]

-- a legal target is above the current bet
pub raises_above : (setup : Setup) (rules : Rules) (events : List Said) (street seat target : ℕ) → IsValid setup → AreLegal setup rules events → 1 ≤ street → street ≤ street_count setup.code
    → current_bet setup (moves_of (past_of setup events)) street < all_in setup (moves_of (past_of setup events)) street seat
    → is_legal_target rules.reopen setup (moves_of (past_of setup events)) street seat target ≡ true
    → current_bet setup (moves_of (past_of setup events)) street < target
raises_above setup rules events street seat target valid legal first last chips is =
    goes_above (limit_of setup.code) rules.reopen setup (moves_of (past_of setup events)) street seat target
    (λ unfixed. above_current_bet setup rules events valid unfixed legal rules.reopen street)
    (λ unfixed. let above = above_current_bet setup rules events valid unfixed legal reopens.Full street in omega (arith, above))
    (λ fixed. some_unit setup street valid fixed first last) chips is
