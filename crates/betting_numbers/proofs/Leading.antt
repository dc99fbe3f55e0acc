-- The seats are walked from the last to the first: one of those so far leads, and the first before
-- which none opens is kept.
use Rattle.std.proofs.Common.{◌≡◌, ℕ, ◌+◌, ◌-◌, ◌<◌, ◌≤◌, Bool, true, false, ◌&&◌, ◌||◌, ◌==◌, not, if◌then◌else◌, cond, List, Option, Some, None, find, suc, zero, inl, inr, refl, sym, ap, subst, ◌∙◌, arith}
use Rattle.std.specs.List.{list_any, range_with_len}
use Rattle.std.proofs.lemmas.Bool.{true≢false, and_parts, and_from, or_from, or_left, or_right, cases_lt, false_from_ne_true, true_from_ne_false, not-false, not_from_false}
use Rattle.card_set.specs.declared.card.Card.{Card}
use Rattle.card_set.specs.Known.{known_among}
use Rattle.card_set.proofs.Finding.{any_agree, find_agree}
use Rattle.card_set.proofs.Any.{none_passes}
use Rattle.card_set.proofs.Tests.{second_fails}
use Rattle.play_event.specs.declared.up_cards.UpRow.{UpRow}
use Rattle.play_event.specs.declared.limit.Opener.{Opener}
use Rattle.play_event.specs.Openers.{is_opener_before}
use Rattle.play_event.specs.SeatSlots.{ups_of}
use Rattle.play_event.proofs.OpenerOrder.{opens_not}
use Rattle.chip_ledger.proofs.SeatLists.{none_at}
use Rattle.betting_numbers.proofs.Earlier.{early_opens, late_opens}
use Rattle.betting_numbers.specs.declared.betting_state.BettingState.{BettingState}
use Rattle.betting_numbers.specs.Seen.{can_act_seen}
use Rattle.betting_numbers.specs.UpSeen.{has_unknown_seen, has_unknown_up_card_seen, is_as_early_seen, is_before_seen, known_opener_seen, up_opener_seen}

-- a number that passes is among those of a range
pub some_at : (p : ℕ → Bool) (first n k : ℕ) → first ≤ k → k < first + n → p k ≡ true → list_any p (range_with_len first n) ≡ true
some_at p first zero k low high passes = absurd (omega (arith, low, high))
some_at p first (suc n) k low high passes = elim (cases_lt first k) [
  | inl above ↦ or_right (p first) (list_any p (range_with_len (first + 1) n)) (some_at p (first + 1) n k (omega (arith, above)) (omega (arith, high)) passes)
  | inr here ↦ let same : first ≡ k = omega (arith, low, here) in or_left (p first) (list_any p (range_with_len (first + 1) n)) (ap p same ∙ passes)
]

-- some number passes a test if one passes a stronger test
leads_by : (p : ℕ → Bool) (first n lead : ℕ) → first ≤ lead → lead < first + n → ((k : ℕ) → first ≤ k → k < first + n → p k ≡ true → p lead ≡ true) → (passes : Bool) → p lead ≡ passes → list_any p (range_with_len first n) ≡ passes
leads_by p first n lead low high leads true is = some_at p first n lead low high is
leads_by p first n lead low high leads false is =
    any_agree p (λ k. false) first n (λ k least most. false_from_ne_true (p k) (λ some. true≢false (sym (leads k least most some) ∙ is)))
    ∙ none_passes (λ k. false) (range_with_len first n) (λ k. refl)

only_second : (a b : Bool) → (a ≡ true → b ≡ true) → b ≡ (a || b)
only_second true b more = more refl
only_second false b more = refl

known_by : (unknown : Bool) (seat : ℕ) (found : Option ℕ) → Some seat ≡ (if unknown then None else found) → (false ≡ unknown) × (Some seat ≡ found)
known_by true seat found is = absurd cc
known_by false seat found is = (refl, is)

-- none of `count` seats from a first one on opens before this one, which can act
abbrev pub opens_from : Opener → BettingState → UpRow → (first count seat : ℕ) → Bool
opens_from opener b up first count seat = can_act_seen b seat && not (list_any (is_before_seen opener b up seat) (range_with_len first count))

-- a seat opens before each seat before which one of these opens
abbrev pub Leads : Opener → BettingState → UpRow → (first count lead : ℕ) → Type 0
Leads opener b up first count lead =
    (seat other : ℕ) → first ≤ other → other < first + count → is_before_seen opener b up seat other ≡ true → is_before_seen opener b up seat lead ≡ true

-- what is kept of the seats so far
pub record IsWalked (opener : Opener) (b : BettingState) (up : UpRow) (first count lead : ℕ) (found : Option ℕ) : Type 0 where
  pub known : list_any (has_unknown_seen b up) (range_with_len first count) ≡ false
  pub leads : Leads opener b up first count lead
  pub found_is : found ≡ find (opens_from opener b up first count) (range_with_len first count)

module _ (opener : Opener) (b : BettingState) (up : UpRow) where
  abbrev before : ℕ → ℕ → Bool
  before seat other = is_before_seen opener b up seat other

  -- no seat opens before itself
  never : (seat : ℕ) → before seat seat ≡ true → ⊥
  never seat is =
      let parts = and_parts (can_act_seen b seat) (is_opener_before opener (b.street == 1) (known_among (ups_of up seat)) (known_among (ups_of up seat))) is in
      true≢false (sym parts.1 ∙ opens_not opener (b.street == 1) (known_among (ups_of up seat)))

  -- a seat that can act opens if it leads itself
  pub opens_alone : (seat lead : ℕ) → can_act_seen b seat ≡ true → lead ≡ seat → true ≡ (can_act_seen b seat && not (is_before_seen opener b up seat lead))
  opens_alone seat lead able same =
      let not_before = false_from_ne_true (before seat lead) (λ is. never seat (ap (λ (k : ℕ). before seat k) (sym same) ∙ is)) in
      sym (and_from (can_act_seen b seat) (not (before seat lead)) able (not_from_false (before seat lead) not_before))

  module _ (first count lead next : ℕ) (leads : Leads opener b up (first + 1) count lead)
      (kept : (seat : ℕ) → before seat lead ≡ true → before seat next ≡ true) (new : (seat : ℕ) → before seat first ≡ true → before seat next ≡ true)
      (low : first ≤ next) (high : next < first + suc count) where
    leads_more : Leads opener b up first (suc count) next
    leads_more seat other least most is = elim (cases_lt first other) [
      | inl above ↦ kept seat (leads seat other (omega (arith, above)) (omega (arith, most)) is)
      | inr here ↦ let same : other ≡ first = omega (arith, least, here) in new seat (ap (λ (k : ℕ). before seat k) (sym same) ∙ is)
    ]

    -- the new seat opens if the leader does not open before it
    opens_now : opens_from opener b up first (suc count) first ≡ (can_act_seen b first && not (before first next))
    opens_now = ap (λ some. can_act_seen b first && not some) (leads_by (before first) first (suc count) next low high (leads_more first) (before first next) refl)

    -- if it does not open, it does not open before those before which no other does
    same_later : (can_act_seen b first && not (before first next)) ≡ false → (seat : ℕ) → opens_from opener b up first (suc count) seat ≡ opens_from opener b up (first + 1) count seat
    same_later fails seat =
        ap (λ some. can_act_seen b seat && not some) (sym (only_second (before seat first) (list_any (before seat) (range_with_len (first + 1) count)) (λ is.
        let able : can_act_seen b first ≡ true = (and_parts (can_act_seen b first) (is_opener_before opener (b.street == 1) (known_among (ups_of up first)) (known_among (ups_of up seat))) is).0 in
        let beaten : before first next ≡ true = not-false (before first next) (second_fails (can_act_seen b first) (not (before first next)) able fails) in
        elim (cases_lt first next) [
          | inl above ↦ some_at (before seat) (first + 1) count next (omega (arith, above)) (omega (arith, high)) (new seat is)
          | inr here ↦ let same : next ≡ first = omega (arith, low, here) in absurd (never first (ap (λ (k : ℕ). before first k) (sym same) ∙ beaten))
        ])))

    found_more : (found : Option ℕ) → found ≡ find (opens_from opener b up (first + 1) count) (range_with_len (first + 1) count) → (opens : Bool) → opens ≡ (can_act_seen b first && not (before first next)) → (if opens then Some first else found) ≡ find (opens_from opener b up first (suc count)) (range_with_len first (suc count))
    found_more found is true opens =
        sym (ap (λ o. cond o (Some first) (find (opens_from opener b up first (suc count)) (range_with_len (first + 1) count))) (opens_now ∙ sym opens))
    found_more found is false opens =
        is
        ∙ sym (find_agree (opens_from opener b up first (suc count)) (opens_from opener b up (first + 1) count) (first + 1) count (λ seat least most. same_later (sym opens) seat))
        ∙ sym (ap (λ o. cond o (Some first) (find (opens_from opener b up first (suc count)) (range_with_len (first + 1) count))) (opens_now ∙ sym opens))

  one_more : (first count lead next : ℕ) (found : Option ℕ) (opens : Bool) → IsWalked opener b up (first + 1) count lead found → has_unknown_seen b up first ≡ false → ((seat : ℕ) → before seat lead ≡ true → before seat next ≡ true) → ((seat : ℕ) → before seat first ≡ true → before seat next ≡ true) → first ≤ next → next < first + suc count → opens ≡ (can_act_seen b first && not (before first next)) → IsWalked opener b up first (suc count) next (if opens then Some first else found)
  one_more first count lead next found opens walked known kept new low high is = record {
    known = or_from (has_unknown_seen b up first) (list_any (has_unknown_seen b up) (range_with_len (first + 1) count)) known walked.known;
    leads = leads_more first count lead next walked.leads kept new low high;
    found_is = found_more first count lead next walked.leads kept new low high found walked.found_is opens is;
  }

  -- one more seat, of all, of which some were walked
  pub walked_more : (n index seat lead next : ℕ) (found : Option ℕ) (opens : Bool) → index < n → seat ≡ n - index → IsWalked opener b up (n + 1 - index) index lead found → has_unknown_seen b up seat ≡ false → ((other : ℕ) → is_before_seen opener b up other lead ≡ true → is_before_seen opener b up other next ≡ true) → ((other : ℕ) → is_before_seen opener b up other seat ≡ true → is_before_seen opener b up other next ≡ true) → seat ≤ next → next ≤ n → opens ≡ (can_act_seen b seat && not (is_before_seen opener b up seat next)) → IsWalked opener b up (n + 1 - (index + 1)) (index + 1) next (if opens then Some seat else found)
  walked_more n index seat lead next found opens less is walked known kept new low high opens_is =
      let from : n + 1 - index ≡ seat + 1 = omega (arith, less, is) in
      let to : seat ≡ n + 1 - (index + 1) = omega (arith, less, is) in
      let more : suc index ≡ index + 1 = omega arith in
      let after : Option ℕ = if opens then Some seat else found in
      subst (λ (f : ℕ). IsWalked opener b up f (index + 1) next after) to
      (subst (λ (c : ℕ). IsWalked opener b up seat c next after) more
      (one_more seat index lead next found opens (subst (λ (f : ℕ). IsWalked opener b up f index lead found) from walked) known kept new low (omega (arith, high, less, is)) opens_is))

  -- all seats were walked
  pub walked_all : (lead : ℕ) (found : Option ℕ) → IsWalked opener b up (b.setup.stacks.seats + 1 - b.setup.stacks.seats) b.setup.stacks.seats lead found → found ≡ known_opener_seen opener b up
  walked_all lead found walked =
      let n = b.setup.stacks.seats in
      let one : n + 1 - n ≡ 1 = omega arith in
      let all = subst (λ (f : ℕ). IsWalked opener b up f n lead found) one walked in
      all.found_is ∙ sym (ap (λ (unknown : Bool). if unknown then None else up_opener_seen opener b up) all.known)

  -- an up-card of a seat is unknown
  pub walked_unknown : (seat : ℕ) → 1 ≤ seat → seat ≤ b.setup.stacks.seats → has_unknown_seen b up seat ≡ true → None ≡ known_opener_seen opener b up
  walked_unknown seat low high is =
      sym (ap (λ (unknown : Bool). if unknown then None else up_opener_seen opener b up) (true_from_ne_false (has_unknown_up_card_seen b up) (λ none. true≢false (sym is ∙ none_at (has_unknown_seen b up) b.setup.stacks.seats seat low high none))))

  -- a seat opens if each up-card is known
  pub opens_known : (seat : ℕ) → Some seat ≡ known_opener_seen opener b up → (false ≡ has_unknown_up_card_seen b up) × (Some seat ≡ up_opener_seen opener b up)
  opens_known seat is = known_by (has_unknown_up_card_seen b up) seat (up_opener_seen opener b up) is

  -- the other can act, and is as early as the leader
  pub other_leads : (lead other seat : ℕ) → can_act_seen b other ≡ true → is_as_early_seen opener b up other lead ≡ true → is_before_seen opener b up seat lead ≡ true → is_before_seen opener b up seat other ≡ true
  other_leads lead other seat able early before =
      let first = b.street == 1 in
      let cards : ℕ → List Card = λ (k : ℕ). known_among (ups_of up k) in
      and_from (can_act_seen b other) (is_opener_before opener first (cards other) (cards seat)) able
      (early_opens opener first (cards other) (cards lead) (cards seat) early (and_parts (can_act_seen b lead) (is_opener_before opener first (cards lead) (cards seat)) before).1)

  -- the other is not
  pub lead_stays : (lead other seat : ℕ) → can_act_seen b lead ≡ true → is_as_early_seen opener b up other lead ≡ false → is_before_seen opener b up seat other ≡ true → is_before_seen opener b up seat lead ≡ true
  lead_stays lead other seat able late before =
      let first = b.street == 1 in
      let cards : ℕ → List Card = λ (k : ℕ). known_among (ups_of up k) in
      and_from (can_act_seen b lead) (is_opener_before opener first (cards lead) (cards seat)) able
      (late_opens opener first (cards other) (cards lead) (cards seat) late (and_parts (can_act_seen b other) (is_opener_before opener first (cards other) (cards seat)) before).1)
