-- The lowest and the highest legal target are legal, in each limit, and no legal target is outside
-- them.
use Rattle.std.proofs.Common.{◌≡◌, ℕ, ◌+◌, ◌<◌, ◌≤◌, Bool, true, false, ◌&&◌, ◌||◌, ◌==◌, nat_lt, nat_le, min, max, if◌then◌else◌, inl, inr, List, [], ◌∷◌, Option, Some, None, refl, sym, ap, ◌∙◌, arith}
use Rattle.std.specs.List.{list_any}
use Rattle.std.proofs.lemmas.Bool.{cases_lt, lt-ltb, ltb-true, le-leb, leb-true, eq-eqb, eqb-true, and_parts, and_from, or_left, or_right, or_cases, true≢false}
use Rattle.chip_ledger.specs.Greatest.{greatest}
use Rattle.play_event.specs.declared.setup.Setup.{Setup}
use Rattle.play_event.specs.declared.setup.Reopen.{Reopen}
use Rattle.play_event.specs.declared.setup.Rules.{Rules}
use Rattle.play_event.specs.declared.limit.Limit.{Limit}
use Rattle.play_event.specs.declared.limit.Limit.TheVariants as limits
use Rattle.play_event.specs.Streets.{limit_of, unit}
use Rattle.play_event.specs.Past.{Move}
use Rattle.play_event.specs.Chips.{all_in}
use Rattle.play_event.specs.CurrentBet.{current_bet, full_raise, full_bet}
use Rattle.play_event.specs.Targets.{floor, pot_ceiling, full_targets, smallest, is_target_in, least_target_in, greatest_target_in, is_legal_target, least_target, greatest_target, is_legal_by, least_by, greatest_by}
use Rattle.play_event.specs.TurnTargets.{AreTargets}

-- one full target, or two
abbrev full_list : ℕ → Option ℕ → List ℕ
full_list first None = first ∷ []
full_list first (Some other) = first ∷ other ∷ []

abbrev any_full : ℕ → List ℕ → Bool
any_full t full_raise_targets = list_any (λ full. t == full) full_raise_targets

fixed_full : (full_raise_targets : List ℕ) (t all_in floor least ceiling : ℕ) → any_full t full_raise_targets ≡ true → t ≤ all_in → is_legal_by limits.Fixed floor least all_in ceiling full_raise_targets t ≡ true
fixed_full full_raise_targets t all_in floor least ceiling any within = or_left (any_full t full_raise_targets && nat_le t all_in) ((t == all_in) && nat_lt t (greatest full_raise_targets)) (and_from (any_full t full_raise_targets) (nat_le t all_in) any (le-leb t all_in within))

fixed_all_in : (full_raise_targets : List ℕ) (t all_in floor least ceiling : ℕ) → t ≡ all_in → t < greatest full_raise_targets → is_legal_by limits.Fixed floor least all_in ceiling full_raise_targets t ≡ true
fixed_all_in full_raise_targets t all_in floor least ceiling is less = or_right (any_full t full_raise_targets && nat_le t all_in) ((t == all_in) && nat_lt t (greatest full_raise_targets)) (and_from (t == all_in) (nat_lt t (greatest full_raise_targets)) (eq-eqb t all_in is) (lt-ltb t (greatest full_raise_targets) less))

first_full : (t a : ℕ) (rest : List ℕ) → t ≡ a → any_full t (a ∷ rest) ≡ true
first_full t a rest is = or_left (t == a) (any_full t rest) (eq-eqb t a is)

later_full : (t a : ℕ) (rest : List ℕ) → any_full t rest ≡ true → any_full t (a ∷ rest) ≡ true
later_full t a rest is = or_right (t == a) (any_full t rest) is

module _ (all_in floor least ceiling : ℕ) where
  least_full : (a : ℕ) (other : Option ℕ) → is_legal_by limits.Fixed floor least all_in ceiling (full_list a other) (min all_in (smallest (full_list a other))) ≡ true
  least_full a None = elim (cases_lt all_in a) [
    | inl less ↦ fixed_all_in (a ∷ []) (min all_in a) all_in floor least ceiling (omega (arith, less)) (omega (arith, less))
    | inr reach ↦ fixed_full (a ∷ []) (min all_in a) all_in floor least ceiling (first_full (min all_in a) a [] (omega (arith, reach))) (omega arith)
  ]
  least_full a (Some b) = elim (cases_lt all_in (min a b)) [
    | inl less ↦ fixed_all_in (a ∷ b ∷ []) (min all_in (min a b)) all_in floor least ceiling (omega (arith, less)) (omega (arith, less))
    | inr reach ↦ fixed_full (a ∷ b ∷ []) (min all_in (min a b)) all_in floor least ceiling (elim (cases_lt a b) [
      | inl less ↦ first_full (min all_in (min a b)) a (b ∷ []) (omega (arith, less, reach))
      | inr other ↦ later_full (min all_in (min a b)) a (b ∷ []) (first_full (min all_in (min a b)) b [] (omega (arith, other, reach)))
    ]) (omega arith)
  ]

  greatest_full : (a : ℕ) (other : Option ℕ) → is_legal_by limits.Fixed floor least all_in ceiling (full_list a other) (min all_in (greatest (full_list a other))) ≡ true
  greatest_full a None = elim (cases_lt all_in a) [
    | inl less ↦ fixed_all_in (a ∷ []) (min all_in (max a 0)) all_in floor least ceiling (omega (arith, less)) (omega (arith, less))
    | inr reach ↦ fixed_full (a ∷ []) (min all_in (max a 0)) all_in floor least ceiling (first_full (min all_in (max a 0)) a [] (omega (arith, reach))) (omega arith)
  ]
  greatest_full a (Some b) = elim (cases_lt all_in (max a b)) [
    | inl less ↦ fixed_all_in (a ∷ b ∷ []) (min all_in (max a (max b 0))) all_in floor least ceiling (omega (arith, less)) (omega (arith, less))
    | inr reach ↦ fixed_full (a ∷ b ∷ []) (min all_in (max a (max b 0))) all_in floor least ceiling (elim (cases_lt a b) [
      | inl less ↦ later_full (min all_in (max a (max b 0))) a (b ∷ []) (first_full (min all_in (max a (max b 0))) b [] (omega (arith, less, reach)))
      | inr other ↦ first_full (min all_in (max a (max b 0))) a (b ∷ []) (omega (arith, other, reach))
    ]) (omega arith)
  ]

  full_is : (t a : ℕ) (other : Option ℕ) → any_full t (full_list a other) ≡ true → (smallest (full_list a other) ≤ t) × (t ≤ greatest (full_list a other))
  full_is t a None any = elim (or_cases (t == a) false any) [
    | inl is ↦ let same : t ≡ a = eqb-true t a is in (omega (arith, same), omega (arith, same))
    | inr nothing ↦ absurd (true≢false (sym nothing))
  ]
  full_is t a (Some b) any = elim (or_cases (t == a) ((t == b) || false) any) [
    | inl is ↦ let same : t ≡ a = eqb-true t a is in (omega (arith, same), omega (arith, same))
    | inr later ↦ elim (or_cases (t == b) false later) [
      | inl is ↦ let same : t ≡ b = eqb-true t b is in (omega (arith, same), omega (arith, same))
      | inr nothing ↦ absurd (true≢false (sym nothing))
    ]
  ]

  smallest_below : (a : ℕ) (other : Option ℕ) → smallest (full_list a other) ≤ greatest (full_list a other)
  smallest_below a None = omega arith
  smallest_below a (Some b) = omega arith

  fixed_within : (a : ℕ) (other : Option ℕ) (t : ℕ) → is_legal_by limits.Fixed floor least all_in ceiling (full_list a other) t ≡ true → (min all_in (smallest (full_list a other)) ≤ t) × (t ≤ min all_in (greatest (full_list a other)))
  fixed_within a other t legal = elim (or_cases (any_full t (full_list a other) && nat_le t all_in) ((t == all_in) && nat_lt t (greatest (full_list a other))) legal) [
    | inl full ↦
        let parts = and_parts (any_full t (full_list a other)) (nat_le t all_in) full in
        let bounds = full_is t a other parts.0 in
        let below : smallest (full_list a other) ≤ t = bounds.0 in
        let above : t ≤ greatest (full_list a other) = bounds.1 in
        let within : t ≤ all_in = leb-true t all_in parts.1 in
        (omega (arith, below), omega (arith, above, within))
    | inr all ↦
        let parts = and_parts (t == all_in) (nat_lt t (greatest (full_list a other))) all in
        let same : t ≡ all_in = eqb-true t all_in parts.0 in
        let less : t < greatest (full_list a other) = ltb-true t (greatest (full_list a other)) parts.1 in
        (omega (arith, same), omega (arith, same, less))
  ]

  -- in no limit
  no_limit_least : is_legal_by limits.No floor least all_in ceiling [] (min all_in floor) ≡ true
  no_limit_least = elim (cases_lt all_in floor) [
    | inl less ↦ or_right (nat_le floor (min all_in floor) && nat_le (min all_in floor) all_in) (min all_in floor == all_in) (eq-eqb (min all_in floor) all_in (omega (arith, less)))
    | inr reach ↦ or_left (nat_le floor (min all_in floor) && nat_le (min all_in floor) all_in) (min all_in floor == all_in) (and_from (nat_le floor (min all_in floor)) (nat_le (min all_in floor) all_in) (le-leb floor (min all_in floor) (omega (arith, reach))) (le-leb (min all_in floor) all_in (omega arith)))
  ]

  no_limit_greatest : is_legal_by limits.No floor least all_in ceiling [] all_in ≡ true
  no_limit_greatest = or_right (nat_le floor all_in && nat_le all_in all_in) (all_in == all_in) (eq-eqb all_in all_in refl)

  no_limit_within : (t : ℕ) → is_legal_by limits.No floor least all_in ceiling [] t ≡ true → (min all_in floor ≤ t) × (t ≤ all_in)
  no_limit_within t legal = elim (or_cases (nat_le floor t && nat_le t all_in) (t == all_in) legal) [
    | inl between ↦
        let parts = and_parts (nat_le floor t) (nat_le t all_in) between in
        let low : floor ≤ t = leb-true floor t parts.0 in
        let high : t ≤ all_in = leb-true t all_in parts.1 in
        (omega (arith, low), high)
    | inr is ↦ let same : t ≡ all_in = eqb-true t all_in is in (omega (arith, same), omega (arith, same))
  ]

  -- in pot limit
  pot_least : least ≤ ceiling → is_legal_by limits.Pot floor least all_in ceiling [] (min all_in least) ≡ true
  pot_least under = elim (cases_lt all_in least) [
    | inl less ↦ or_right (nat_le least (min all_in least) && nat_le (min all_in least) (min all_in ceiling)) ((min all_in least == all_in) && nat_le (min all_in least) ceiling) (and_from (min all_in least == all_in) (nat_le (min all_in least) ceiling) (eq-eqb (min all_in least) all_in (omega (arith, less))) (le-leb (min all_in least) ceiling (omega (arith, under))))
    | inr reach ↦ or_left (nat_le least (min all_in least) && nat_le (min all_in least) (min all_in ceiling)) ((min all_in least == all_in) && nat_le (min all_in least) ceiling) (and_from (nat_le least (min all_in least)) (nat_le (min all_in least) (min all_in ceiling)) (le-leb least (min all_in least) (omega (arith, reach))) (le-leb (min all_in least) (min all_in ceiling) (omega (arith, under))))
  ]

  pot_greatest : least ≤ ceiling → is_legal_by limits.Pot floor least all_in ceiling [] (min all_in ceiling) ≡ true
  pot_greatest under = elim (cases_lt all_in least) [
    | inl less ↦ or_right (nat_le least (min all_in ceiling) && nat_le (min all_in ceiling) (min all_in ceiling)) ((min all_in ceiling == all_in) && nat_le (min all_in ceiling) ceiling) (and_from (min all_in ceiling == all_in) (nat_le (min all_in ceiling) ceiling) (eq-eqb (min all_in ceiling) all_in (omega (arith, less, under))) (le-leb (min all_in ceiling) ceiling (omega arith)))
    | inr reach ↦ or_left (nat_le least (min all_in ceiling) && nat_le (min all_in ceiling) (min all_in ceiling)) ((min all_in ceiling == all_in) && nat_le (min all_in ceiling) ceiling) (and_from (nat_le least (min all_in ceiling)) (nat_le (min all_in ceiling) (min all_in ceiling)) (le-leb least (min all_in ceiling) (omega (arith, reach, under))) (le-leb (min all_in ceiling) (min all_in ceiling) (omega arith)))
  ]

  pot_within : (t : ℕ) → is_legal_by limits.Pot floor least all_in ceiling [] t ≡ true → (min all_in least ≤ t) × (t ≤ min all_in ceiling)
  pot_within t legal = elim (or_cases (nat_le least t && nat_le t (min all_in ceiling)) ((t == all_in) && nat_le t ceiling) legal) [
    | inl between ↦
        let parts = and_parts (nat_le least t) (nat_le t (min all_in ceiling)) between in
        let low : least ≤ t = leb-true least t parts.0 in
        let high : t ≤ min all_in ceiling = leb-true t (min all_in ceiling) parts.1 in
        (omega (arith, low), high)
    | inr all ↦
        let parts = and_parts (t == all_in) (nat_le t ceiling) all in
        let same : t ≡ all_in = eqb-true t all_in parts.0 in
        let under : t ≤ ceiling = leb-true t ceiling parts.1 in
        (omega (arith, same), omega (arith, same, under))
  ]

  -- the ends of the legal targets, whatever the limit, if these are the full targets
  pub record Ends (limit : Limit) (full_raise_targets : List ℕ) : Type 0 where
    pub at_least : is_legal_by limit floor least all_in ceiling full_raise_targets (least_by limit floor least all_in full_raise_targets) ≡ true
    pub at_most : is_legal_by limit floor least all_in ceiling full_raise_targets (greatest_by limit all_in ceiling full_raise_targets) ≡ true
    pub within : (t : ℕ) → is_legal_by limit floor least all_in ceiling full_raise_targets t ≡ true → (least_by limit floor least all_in full_raise_targets ≤ t) × (t ≤ greatest_by limit all_in ceiling full_raise_targets)

  pub ends : (limit : Limit) (a : ℕ) (other : Option ℕ) → least ≤ ceiling → Ends limit (full_list a other)
  ends limits.No a other under = record { at_least = no_limit_least; at_most = no_limit_greatest; within = no_limit_within }
  ends limits.Pot a other under = record { at_least = pot_least under; at_most = pot_greatest under; within = pot_within }
  ends limits.Fixed a other under = record { at_least = least_full a other; at_most = greatest_full a other; within = fixed_within a other }

full_ends : (all_in floor least ceiling : ℕ) (limit : Limit) (current_bet size above : ℕ) (first second : Bool) → least ≤ ceiling → Ends all_in floor least ceiling limit (if first then (size ∷ []) else ((current_bet + size) ∷ (if second then (above ∷ []) else [])))
full_ends all_in floor least ceiling limit current_bet size above true second under = ends all_in floor least ceiling limit size None under
full_ends all_in floor least ceiling limit current_bet size above false true under = ends all_in floor least ceiling limit (current_bet + size) (Some above) under
full_ends all_in floor least ceiling limit current_bet size above false false under = ends all_in floor least ceiling limit (current_bet + size) None under

-- the amounts that bound the targets of a seat
module _ (reopens : Reopen) (setup : Setup) (moves : List Move) (street seat : ℕ) where
  abbrev the_floor : ℕ
  the_floor = floor reopens setup moves street

  abbrev the_least : ℕ
  the_least = current_bet setup moves street + full_raise setup moves street

  abbrev the_all_in : ℕ
  the_all_in = all_in setup moves street seat

  abbrev the_ceiling : ℕ
  the_ceiling = pot_ceiling setup moves street seat

  abbrev the_full_raise_targets : List ℕ
  the_full_raise_targets = full_targets setup moves street

  plain_target : (limit : Limit) (target : ℕ) → is_target_in limit reopens setup moves street seat target ≡ is_legal_by limit the_floor the_least the_all_in the_ceiling the_full_raise_targets target
  plain_target limits.No target = refl
  plain_target limits.Pot target = refl
  plain_target limits.Fixed target = refl

  plain_least : (limit : Limit) → least_target_in limit reopens setup moves street seat ≡ least_by limit the_floor the_least the_all_in the_full_raise_targets
  plain_least limits.No = refl
  plain_least limits.Pot = refl
  plain_least limits.Fixed = refl

  plain_greatest : (limit : Limit) → greatest_target_in limit setup moves street seat ≡ greatest_by limit the_all_in the_ceiling the_full_raise_targets
  plain_greatest limits.No = refl
  plain_greatest limits.Pot = refl
  plain_greatest limits.Fixed = refl

  these_ends : (limit : Limit) → Ends the_all_in the_floor the_least the_ceiling limit the_full_raise_targets
  these_ends limit = full_ends the_all_in the_floor the_least the_ceiling limit (current_bet setup moves street) (unit setup street) (full_bet setup moves street + unit setup street) (nat_lt (current_bet setup moves street) (unit setup street)) (nat_lt (current_bet setup moves street) (full_bet setup moves street + unit setup street)) (omega arith)

  least_in : (limit : Limit) → is_target_in limit reopens setup moves street seat (least_target_in limit reopens setup moves street seat) ≡ true
  least_in limit =
      ap (λ (t : ℕ). is_target_in limit reopens setup moves street seat t) (plain_least limit)
      ∙ plain_target limit (least_by limit the_floor the_least the_all_in the_full_raise_targets)
      ∙ (these_ends limit).at_least

  greatest_in : (limit : Limit) → is_target_in limit reopens setup moves street seat (greatest_target_in limit setup moves street seat) ≡ true
  greatest_in limit =
      ap (λ (t : ℕ). is_target_in limit reopens setup moves street seat t) (plain_greatest limit)
      ∙ plain_target limit (greatest_by limit the_all_in the_ceiling the_full_raise_targets)
      ∙ (these_ends limit).at_most

  none_outside : (limit : Limit) (target : ℕ) → is_target_in limit reopens setup moves street seat target ≡ true → (least_target_in limit reopens setup moves street seat ≤ target) × (target ≤ greatest_target_in limit setup moves street seat)
  none_outside limit target legal =
      let bounds = (these_ends limit).within target (sym (plain_target limit target) ∙ legal) in
      let low : least_by limit the_floor the_least the_all_in the_full_raise_targets ≤ target = bounds.0 in
      let high : target ≤ greatest_by limit the_all_in the_ceiling the_full_raise_targets = bounds.1 in
      (omega (arith, low, plain_least limit), omega (arith, high, plain_greatest limit))

pub greatest_is_legal : (reopens : Reopen) (setup : Setup) (moves : List Move) (street seat : ℕ) → is_legal_target reopens setup moves street seat (greatest_target setup moves street seat) ≡ true
greatest_is_legal reopens setup moves street seat = greatest_in reopens setup moves street seat (limit_of setup.code)

pub none_beyond : (reopens : Reopen) (setup : Setup) (moves : List Move) (street seat target : ℕ) → is_legal_target reopens setup moves street seat target ≡ true → target ≤ greatest_target setup moves street seat
none_beyond reopens setup moves street seat target legal = (none_outside reopens setup moves street seat (limit_of setup.code) target legal).1

pub targets_end : (setup : Setup) (rules : Rules) (moves : List Move) (street seat : ℕ) → AreTargets setup rules moves street seat (least_target rules.reopen setup moves street seat) (greatest_target setup moves street seat) (all_in setup moves street seat)
targets_end setup rules moves street seat = record {
  least_legal = least_in rules.reopen setup moves street seat (limit_of setup.code);
  greatest_legal = greatest_in rules.reopen setup moves street seat (limit_of setup.code);
  within = none_outside rules.reopen setup moves street seat (limit_of setup.code);
  all_in_is = refl;
}
