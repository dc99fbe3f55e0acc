-- The game of complete entries meets its own conditions.
use Rattle.std.proofs.Common.{◌≡◌, ℕ, ◌≤◌, Bool, true, false, not, nat_lt, nat_le, eqb, ◌&&◌, ◌||◌, if◌then◌else◌, List, [], ◌∷◌, length, replicate, slice_index, sym, ◌∙◌, arith}
use Rattle.std.specs.List.{list_all}
use Rattle.std.proofs.lemmas.Bool.{and_parts, leb-true, not-false}
use Rattle.std.proofs.lemmas.Bool.Decides.{nat_tests}
use Rattle.std.proofs.lemmas.List.{length-replicate}
use Rattle.chip_ledger.specs.Greatest.{greatest}
use Rattle.acpc_game.specs.declared.key.GameKey.TheVariants as keys
use Rattle.acpc_game.specs.GameFile.{required_keys, is_complete, has_one_for_each_player, stacks_at, raise_size_at, are_sizes}
use Rattle.acpc_game.specs.GameEntries.{EntrySaid, has_no_limit, has_key, numbers_at, number_at}
use Rattle.acpc_game.specs.Games.{are_chips, has_fitting_sizes}
use Rattle.acpc_game.proofs.Bounds.{chips_within}
use Rattle.acpc_game.specs.Playable.{IsPlayable}
use Rattle.chip_ledger.specs.declared.numbers.TheConstants.{MOST_CHIPS}
use Rattle.card_set.proofs.Numbers.{equal_by_test}
use Rattle.chip_ledger.specs.Sizes.{is_size}

-- there are as many blinds as players
blinds_counted : (entries : List EntrySaid) → is_complete entries ≡ true → length (numbers_at keys.Blind entries) ≡ number_at keys.NumPlayers entries
unfolding is_complete
blinds_counted entries whole =
    let first = and_parts (list_all (λ key. has_key key entries) required_keys) _ whole in
    let second = and_parts (has_key (if has_no_limit entries then keys.Stack else keys.RaiseSize) entries) _ first.1 in
    let third = and_parts (has_one_for_each_player keys.Blind entries) (not (has_key keys.Stack entries) || has_one_for_each_player keys.Stack entries) second.1 in
    equal_by_test (length (numbers_at keys.Blind entries)) (number_at keys.NumPlayers entries) third.0

stacks_by : (stand : Bool) (stacks blinds : List ℕ) (stack players : ℕ) → (not stand || eqb (length stacks) players) ≡ true → length blinds ≡ players → length (if stand then stacks else replicate (length blinds) stack) ≡ players
stacks_by true stacks blinds stack players same is = equal_by_test (length stacks) players same
stacks_by false stacks blinds stack players same is = length-replicate (length blinds) stack ∙ is

stacks_counted : (entries : List EntrySaid) → is_complete entries ≡ true → length (stacks_at entries) ≡ number_at keys.NumPlayers entries
unfolding is_complete
stacks_counted entries whole =
    let first = and_parts (list_all (λ key. has_key key entries) required_keys) _ whole in
    let second = and_parts (has_key (if has_no_limit entries then keys.Stack else keys.RaiseSize) entries) _ first.1 in
    let third = and_parts (has_one_for_each_player keys.Blind entries) (not (has_key keys.Stack entries) || has_one_for_each_player keys.Stack entries) second.1 in
    stacks_by (has_key keys.Stack entries) (numbers_at keys.Stack entries) (numbers_at keys.Blind entries) 2147483647 (number_at keys.NumPlayers entries) third.1 (blinds_counted entries whole)

-- the number of rows of a game with seats
pub record IsCounted (entries : List EntrySaid) : Type 0 where
  pub least : 2 ≤ length (numbers_at keys.Blind entries)
  pub most : length (numbers_at keys.Blind entries) ≤ 10
  pub same : length (stacks_at entries) ≡ length (numbers_at keys.Blind entries)

pub counted : (entries : List EntrySaid) → is_complete entries ≡ true → IsPlayable entries → IsCounted entries
counted entries whole playable =
    let players = and_parts (nat_le 2 (number_at keys.NumPlayers entries)) (nat_le (number_at keys.NumPlayers entries) 10) playable.players in
    record {
      least = omega (arith, blinds_counted entries whole, leb-true 2 (number_at keys.NumPlayers entries) players.0);
      most = omega (arith, blinds_counted entries whole, leb-true (number_at keys.NumPlayers entries) 10 players.1);
      same = stacks_counted entries whole ∙ sym (blinds_counted entries whole);
    }

sized : (s b blind : ℕ) → nat_le 1 s ≡ true → nat_le 1 b ≡ true → s ≤ MOST_CHIPS → b ≤ MOST_CHIPS → (nat_lt 0 blind && nat_lt blind s) ≡ false → is_size s && (is_size b && (eqb blind 0 || nat_le s blind)) ≡ true
sized s b blind some big few few_big first = grind (arith, nat_tests, some, big, few, few_big, first)

fitting : (no_limit : Bool) (blind : ℕ) (sizes : List ℕ) → (no_limit && eqb blind 0) ≡ false → (not no_limit && not (are_sizes sizes)) ≡ false
    → (not no_limit && (nat_lt 0 blind && nat_lt blind (slice_index sizes 0))) ≡ false
    → slice_index sizes 0 ≤ MOST_CHIPS → slice_index sizes 2 ≤ MOST_CHIPS
    → has_fitting_sizes no_limit blind (if no_limit then 0 else slice_index sizes 0) (if no_limit then 0 else slice_index sizes 2) ≡ true
fitting true blind sizes some sized_too first few few_big = let none : eqb blind 0 ≡ false = some in grind (arith, nat_tests, none)
fitting false blind (s ∷ t ∷ b ∷ c ∷ []) some are first few few_big =
    let equal : are_sizes (s ∷ t ∷ b ∷ c ∷ []) ≡ true = not-false (are_sizes (s ∷ t ∷ b ∷ c ∷ [])) are in
    let halves = and_parts (nat_le 1 s && eqb s t) (nat_le 1 b && eqb b c) equal in
    sized s b blind (and_parts (nat_le 1 s) (eqb s t) halves.0).0 (and_parts (nat_le 1 b) (eqb b c) halves.1).0 few few_big first
fitting false blind [] some are first few few_big = absurd (cc (are))
fitting false blind (s ∷ []) some are first few few_big = absurd (cc (are))
fitting false blind (s ∷ t ∷ []) some are first few few_big = absurd (cc (are))
fitting false blind (s ∷ t ∷ b ∷ []) some are first few few_big = absurd (cc (are))
fitting false blind (s ∷ t ∷ b ∷ c ∷ d ∷ more) some are first few few_big = absurd (cc (are))

pub sizes_fit : (entries : List EntrySaid) → IsPlayable entries → are_chips (numbers_at keys.RaiseSize entries) ≡ true
    → has_fitting_sizes (has_no_limit entries) (greatest (numbers_at keys.Blind entries)) (raise_size_at 0 entries) (raise_size_at 2 entries) ≡ true
sizes_fit entries playable few = fitting (has_no_limit entries) (greatest (numbers_at keys.Blind entries)) (numbers_at keys.RaiseSize entries) playable.blind playable.sizes playable.first_size
    (chips_within (numbers_at keys.RaiseSize entries) 0 few) (chips_within (numbers_at keys.RaiseSize entries) 2 few)
