-- The setup of a hand that was written reads back as that setup.
use Rattle.std.proofs.Common.{◌≡◌, ℕ, suc, ◌+◌, ◌-◌, ◌≤◌, Bool, true, false, not, nat_lt, min, max, List, [], ◌∷◌, length, take, get_or, replicate, pos, Option, Some, None, Ok, refl, sym, ap, subst, ◌∙◌, arith}
use Rattle.std.specs.List.{AllByRecursion, list_any, range_with_len}
use Rattle.std.proofs.lemmas.Bool.{le-leb}
use Rattle.std.proofs.lemmas.List.{length-map}
use Rattle.toml.specs.Data.{Data, integer, Members}
use Rattle.chip_ledger.specs.declared.numbers.TheConstants.{MOST_CHIPS}
use Rattle.chip_ledger.specs.SeatRow.{amount_of, amounts_in}
use Rattle.play_event.specs.declared.setup.Setup.{Setup}
use Rattle.play_event.specs.Games.{game_of}
use Rattle.play_event.specs.Streets.{is_stud_game, limit_of}
use Rattle.play_event.specs.ValidSetup.{IsSizeWhere, IsValid, is_fixed_limit}
use Rattle.first_fault.specs.Reading.{◌>>=◌, each_from}
use Rattle.hand_canon.specs.declared.trace.Play.{Play}
use Rattle.phh_reading.specs.declared.field_fault.FieldKey.{FieldKey}
use Rattle.phh_reading.specs.declared.field_fault.FieldKey.TheVariants as keys
use Rattle.phh_reading.specs.Fields.{field_value, flag_said, item_place, key_place, key_text, required_value, text_said}
use Rattle.phh_reading.specs.Rows.{ante_said, antes_said, heads_up_swapped, stacks_said}
use Rattle.phh_reading.specs.SetupFields.{are_dead, blinds_said, setup_said, size_said, sizes_said, trimming_said, variant_said}
use Rattle.phh_format.specs.Document.{hand_table}
use Rattle.phh_format.specs.HandFields.{blinds_written, hand_fields, numbers, size_field}
use Rattle.phh_format.proofs.Puts.{field_at, get_member-table_of, or_later}
use Rattle.phh_format.proofs.RowsAgain.{amount_again, amount_count, amounts_again, each_amount, items_again, list_again, number_data, row_again}
use Rattle.phh_reading.proofs.Games.{own_code}
use Rattle.card_set.proofs.Entries.{less_taken, taken_zeros}
use Rattle.card_set.proofs.NumbersOfRange.{any_taken}
use Rattle.hand_canon.specs.AllowedNotes.{IsWithin}
use Rattle.hand_canon.specs.PlainHands.{plain_setup}

-- an ante that is no more than the stack stays as it is
ante_again : (stack ante n : ℕ) → ante ≤ stack → ante ≤ MOST_CHIPS → ante_said stack (item_place keys.Antes n) (integer (pos ante)) ≡ Ok ante
unfolding ante_said
ante_again stack ante n less few =
    let kept : min ante stack ≡ ante = omega (arith, less) in
    rw (amount_again 0 MOST_CHIPS ante (item_place keys.Antes n) (omega arith) few) (ap (λ kept. Ok kept) kept)

antes_at : (stacks : List ℕ) (n : ℕ) (antes : List ℕ) → AllByRecursion (IsWithin 0 MOST_CHIPS) antes → ((k : ℕ) → get_or antes k 0 ≤ get_or stacks (n + k) 0)
    → each_from (λ m value. ante_said (get_or stacks (m - 1) 0) (item_place keys.Antes m) value) (n + 1) (number_data antes) ≡ Ok antes
unfolding each_from
antes_at stacks n [] each less = refl
antes_at stacks n (ante ∷ rest) each less =
    let here : n + 1 - 1 ≡ n + 0 = omega arith in
    let first : ante ≤ get_or stacks (n + 1 - 1) 0 = subst (λ (k : ℕ). ante ≤ get_or stacks k 0) (sym here) (less 0) in
    let behind = antes_at stacks (n + 1) rest each.1 (λ k. subst (λ (j : ℕ). get_or rest k 0 ≤ get_or stacks j 0) (omega arith) (less (suc k))) in
    rw (ante_again (get_or stacks (n + 1 - 1) 0) ante (n + 1) first each.0.1, behind) refl

antes_kept : (stacks antes : List ℕ) → length antes ≡ length stacks → AllByRecursion (IsWithin 0 MOST_CHIPS) antes → ((k : ℕ) → get_or antes k 0 ≤ get_or stacks k 0) → antes_said stacks (numbers antes) ≡ Ok antes
unfolding antes_said
antes_kept stacks antes same each less =
    rw (items_again (length stacks) keys.Antes antes same) (antes_at stacks 0 antes each (λ k. subst (λ (j : ℕ). get_or antes k 0 ≤ get_or stacks j 0) (omega arith) (less k)))

-- with two blinds, the greater is again the first seat's
posted_again : (blinds : List ℕ) → (length blinds ≡ 2 → get_or blinds 1 0 ≤ get_or blinds 0 0) → heads_up_swapped (blinds_written blinds) ≡ blinds
posted_again [] heads_up = refl
posted_again (first ∷ []) heads_up = refl
posted_again (first ∷ second ∷ []) heads_up =
    let greater : max (min first second) (max first second) ≡ first = omega (arith, heads_up refl) in
    let smaller : min (min first second) (max first second) ≡ second = omega (arith, heads_up refl) in
    rw (greater, smaller) refl
posted_again (first ∷ second ∷ third ∷ rest) heads_up = refl

blinds_count : (blinds : List ℕ) → length (blinds_written blinds) ≡ length blinds
blinds_count [] = refl
blinds_count (first ∷ []) = refl
blinds_count (first ∷ second ∷ []) = refl
blinds_count (first ∷ second ∷ third ∷ rest) = refl

blinds_between : (most : ℕ) (blinds : List ℕ) → AllByRecursion (IsWithin 0 most) blinds → AllByRecursion (IsWithin 0 most) (blinds_written blinds)
blinds_between most [] each = each
blinds_between most (first ∷ []) each = each
blinds_between most (first ∷ second ∷ []) each =
    ((omega arith, omega (arith, each.0.1, each.1.0.1)), ((omega arith, omega (arith, each.0.1, each.1.0.1)), tt))
blinds_between most (first ∷ second ∷ third ∷ rest) each = each

two_taken : (all : List ℕ) → get_or all 1 0 ≤ get_or all 0 0 → get_or (take 2 all) 1 0 ≤ get_or (take 2 all) 0 0
two_taken [] less = omega arith
two_taken (x ∷ []) less = omega arith
two_taken (x ∷ y ∷ rest) less = less

pub field_alone : (found : Option Data) → or_later found None ≡ found
field_alone None = refl
field_alone (Some value) = refl

-- whether antes are dead
dead_again : (dead : Bool) (antes : List ℕ) → (dead ≡ true → list_any (λ ante. nat_lt 0 ante) antes ≡ true) → are_dead (not dead) antes ≡ dead
dead_again true antes some = some refl
dead_again false antes some = refl

module _ (place : ℕ) (play : Play) (valid : IsValid play.trace.setup) where
  abbrev setup : Setup
  setup = play.trace.setup

  abbrev members : Members
  members = hand_table place play

  -- the value at a key
  pub at : (key : FieldKey) → field_value key members ≡ field_at (key_text key) (hand_fields place play)
  unfolding hand_table
  at key = get_member-table_of (key_text key) (hand_fields place play)

  variant_again : (required_value keys.Variant members >>= variant_said) ≡ Ok setup.code
  unfolding required_value variant_said text_said
  variant_again = rw (at keys.Variant, own_code setup.code) refl

  stacks_count : length (amounts_in setup.stacks) ≡ setup.stacks.seats
  stacks_count = amount_count setup.stacks

  stacks_again : (required_value keys.StartingStacks members >>= stacks_said (game_of setup.code).seats) ≡ Ok (amounts_in setup.stacks)
  unfolding required_value stacks_said
  stacks_again =
      let all = amounts_in setup.stacks in
      let count : length (number_data all) ≡ setup.stacks.seats = length-map all (λ number. integer (pos number)) ∙ stacks_count in
      rw (at keys.StartingStacks, list_again (key_place keys.StartingStacks) all, le-leb 2 (length (number_data all)) (omega (arith, count, setup.stacks.least)), le-leb (length (number_data all)) (game_of setup.code).seats (omega (arith, count, valid.few_seats)))
      (amounts_again 1 MOST_CHIPS keys.StartingStacks all (each_amount (IsWithin 1 MOST_CHIPS) setup.stacks valid.stacks))

  antes_count : length (amounts_in setup.antes) ≡ length (amounts_in setup.stacks)
  antes_count = amount_count setup.antes ∙ valid.same_antes ∙ sym stacks_count

  ante_few : (seat : ℕ) → 1 ≤ seat → seat ≤ setup.antes.seats → IsWithin 0 MOST_CHIPS (amount_of setup.antes seat)
  ante_few seat from within = (omega arith, omega (arith, valid.antes seat, (valid.stacks seat from (omega (arith, within, valid.same_antes))).1))

  antes_again : (required_value keys.Antes members >>= antes_said (amounts_in setup.stacks)) ≡ Ok (amounts_in setup.antes)
  unfolding required_value
  antes_again = rw (at keys.Antes) (antes_kept (amounts_in setup.stacks) (amounts_in setup.antes) antes_count (each_amount (IsWithin 0 MOST_CHIPS) setup.antes ante_few) ante_less)
    where
      ante_less : (k : ℕ) → get_or (amounts_in setup.antes) k 0 ≤ get_or (amounts_in setup.stacks) k 0
      ante_less k =
          let same = valid.same_antes in
          subst (λ (n : ℕ). get_or (take n setup.antes.amounts) k 0 ≤ get_or (amounts_in setup.stacks) k 0) (sym same)
          (less_taken setup.stacks.seats setup.antes.amounts setup.stacks.amounts (omega (arith, setup.antes.full, setup.stacks.greatest)) (omega (arith, setup.stacks.full, setup.stacks.greatest))
          (λ j. subst (λ (n : ℕ). get_or setup.antes.amounts n 0 ≤ get_or setup.stacks.amounts n 0) (omega arith) (valid.antes (j + 1))) k)

  trimming_again : trimming_said members ≡ Ok (not setup.dead_antes)
  unfolding trimming_said flag_said
  trimming_again = rw (at keys.AnteTrimmingStatus) refl

  dead_are : are_dead (not setup.dead_antes) (amounts_in setup.antes) ≡ setup.dead_antes
  dead_are = dead_again setup.dead_antes (amounts_in setup.antes) some_ante
    where
      some_ante : setup.dead_antes ≡ true → list_any (λ ante. nat_lt 0 ante) (amounts_in setup.antes) ≡ true
      some_ante dead =
          any_taken (λ ante. nat_lt 0 ante) setup.antes.amounts setup.antes.seats (omega (arith, setup.antes.full, setup.antes.greatest))
          ∙ ap (λ (n : ℕ). list_any (λ seat. nat_lt 0 (amount_of setup.antes seat)) (range_with_len 1 n)) valid.same_antes
          ∙ valid.dead_antes dead

  blinds_seats : setup.blinds.seats ≡ length (amounts_in setup.stacks)
  blinds_seats = valid.same_blinds ∙ sym stacks_count

  blind_few : (seat : ℕ) → 1 ≤ seat → seat ≤ setup.blinds.seats → IsWithin 0 MOST_CHIPS (amount_of setup.blinds seat)
  blind_few seat from within = (omega arith, valid.blinds seat)

  greater_first : length (amounts_in setup.blinds) ≡ 2 → get_or (amounts_in setup.blinds) 1 0 ≤ get_or (amounts_in setup.blinds) 0 0
  greater_first two =
      let seats : setup.blinds.seats ≡ 2 = sym (amount_count setup.blinds) ∙ two in
      subst (λ (n : ℕ). get_or (take n setup.blinds.amounts) 1 0 ≤ get_or (take n setup.blinds.amounts) 0 0) (sym seats)
      (two_taken setup.blinds.amounts (valid.heads_up (sym valid.same_blinds ∙ seats)))

  blinds_by : (stud : Bool) → is_stud_game setup.code ≡ stud → blinds_said setup.code (length (amounts_in setup.stacks)) members ≡ Ok (amounts_in setup.blinds)
  unfolding blinds_said required_value
  blinds_by true is =
      let zeros = taken_zeros setup.blinds.seats setup.blinds.amounts (omega (arith, setup.blinds.full, setup.blinds.greatest))
      (λ k. subst (λ (n : ℕ). get_or setup.blinds.amounts n 0 ≡ 0) (omega arith) (valid.stud is (k + 1))) in
      rw is (ap (λ blinds. Ok blinds) (ap (λ (n : ℕ). replicate n 0) (sym blinds_seats) ∙ sym zeros))
  blinds_by false is =
      let all = amounts_in setup.blinds in
      let written = row_again (length (amounts_in setup.stacks)) MOST_CHIPS keys.BlindsOrStraddles (blinds_written all) (blinds_count all ∙ amount_count setup.blinds ∙ blinds_seats)
      (blinds_between MOST_CHIPS all (each_amount (IsWithin 0 MOST_CHIPS) setup.blinds blind_few)) in
      rw (is, at keys.BlindsOrStraddles, is, written) (ap (λ blinds. Ok blinds) (posted_again all greater_first))

  blinds_again : blinds_said setup.code (length (amounts_in setup.stacks)) members ≡ Ok (amounts_in setup.blinds)
  blinds_again = blinds_by (is_stud_game setup.code) refl

  size_again : (used : Bool) (size : ℕ) (key : FieldKey) → IsSizeWhere used size → field_at (key_text key) (hand_fields place play) ≡ size_field used size → size_said used key members ≡ Ok size
  unfolding size_said required_value
  size_again true size key is found = rw (at key, found) (amount_again 1 MOST_CHIPS size (key_place key) is.0 is.1)
  size_again false size key is found = ap (λ n. Ok n) (sym is)

  sizes_again : sizes_said setup.code members ≡ Ok (record { bring_in = setup.bring_in; small_bet = setup.small_bet; big_bet = setup.big_bet; min_bet = setup.min_bet })
  unfolding sizes_said
  sizes_again =
      rw (
        size_again (is_stud_game setup.code) setup.bring_in keys.BringIn valid.bring_in (field_alone (size_field (is_stud_game setup.code) setup.bring_in)),
        size_again (is_fixed_limit (limit_of setup.code)) setup.small_bet keys.SmallBet valid.small_bet (field_alone (size_field (is_fixed_limit (limit_of setup.code)) setup.small_bet)),
        size_again (is_fixed_limit (limit_of setup.code)) setup.big_bet keys.BigBet valid.big_bet (field_alone (size_field (is_fixed_limit (limit_of setup.code)) setup.big_bet)),
        size_again (not (is_fixed_limit (limit_of setup.code))) setup.min_bet keys.MinBet valid.least_bet (field_alone (size_field (not (is_fixed_limit (limit_of setup.code))) setup.min_bet)),
      ) refl

  -- the setup of a hand that was written
  pub setup_again : setup_said members ≡ Ok (plain_setup setup)
  unfolding setup_said
  setup_again = rw (variant_again, stacks_again, antes_again, trimming_again, blinds_again, sizes_again, dead_are) refl
