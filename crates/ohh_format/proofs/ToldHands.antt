-- What holds of each hand that is read from bytes: rules of hand histories, a game that can be
-- written, bet sizes by the big blind, and antes and blinds of posts that meet their conditions.
use Rattle.std.proofs.Common.{◌≡◌, ℕ, ◌+◌, ◌-◌, ◌*◌, ◌≤◌, Bool, true, false, ◌&&◌, nat_le, nat_lt, if◌then◌else◌, List, [], ◌∷◌, ◌++◌, Option, Some, None, Result, Ok, Err, IfOk, bytes_eq, codes, refl}
use Rattle.std.specs.Bool.{⊤}
use Rattle.std.specs.List.{AllByRecursion}
use Rattle.std.proofs.lemmas.Bool.{leb-true, ltb-false}
use Rattle.serde_json.specs.Data as trees
use Rattle.serde_json.specs.Data.{Data}
use Rattle.chip_ledger.specs.declared.numbers.TheConstants.{MOST_CHIPS}
use Rattle.first_fault.specs.Reading.{◌>>=◌, read_if, thread_from}
use Rattle.first_fault.specs.declared.limits.TheConstants.{MOST_HANDS}
use Rattle.play_event.specs.HistoryRules.{history_rules}
use Rattle.play_event.specs.declared.code.Code.{Code}
use Rattle.play_event.specs.declared.code.Code.TheVariants as games
use Rattle.ohh_members.specs.Blinds.{blinds_said, fitting, is_fixed_game}
use Rattle.ohh_members.specs.Header.{PlainFront, front_said, ids_of, stacks_of}
use Rattle.ohh_members.specs.Game.{game_said}
use Rattle.ohh_members.specs.Players.{seated_said}
use Rattle.ohh_reading.specs.Notes.{notes_said}
use Rattle.ohh_reading.specs.Pots.{pots_said}
use Rattle.ohh_rounds.specs.Rounds.{steps_said}
use Rattle.ohh_members.specs.Values.{member_at, number_said, object_said, or_wrong, required_value, text_said, wrong}
use Rattle.ohh_members.specs.declared.blinds.Blinds.{Blinds}
use Rattle.ohh_members.specs.declared.dialect.Dialect.{Dialect}
use Rattle.ohh_members.specs.declared.fault.MemberFault.{MemberFault}
use Rattle.ohh_members.specs.declared.fault.Path.{Path}
use Rattle.ohh_members.specs.declared.fault.Path.TheVariants as paths
use Rattle.ohh_members.specs.declared.fault.MemberFaultKind.{MemberFaultKind}
use Rattle.ohh_members.specs.declared.fault.MemberFaultKind.TheVariants as whats
use Rattle.ohh_writing.specs.Games.{is_spelled_game}
use Rattle.ohh_rounds.specs.PostRules.{posts_checked}
use Rattle.ohh_rounds.specs.Posts.{PlainPost}
use Rattle.ohh_rounds.specs.AntesAndBlinds.{PlainAntesAndBlinds, antes_and_blinds_said}
use Rattle.ohh_rounds.specs.NamedBlinds.{PlainNamedBlinds, seat_count}
use Rattle.ohh_rounds.specs.declared.post.PostFault.{PostFault}
use Rattle.ohh_rounds.specs.declared.post.PostFault.TheVariants as post_faults
use Rattle.ohh_rounds.specs.Play.{PlainPlay, at_posts, posts_in, rounds_said, script_said}
use Rattle.ohh_rounds.specs.HandContext.{PlainHandContext}
use Rattle.ohh_rounds.specs.Steps.{PlainStep, moves_in}
use Rattle.ohh_reading.specs.Blocks.{blocks_of}
use Rattle.ohh_reading.specs.Hand.{hand_said, setting_of}
use Rattle.ohh_reading.specs.Reading.{Wrong, found_said, hands_said, numbered_hand, object_of, past_hands, reading, result_in_hand, tree_of, tree_said, wrong_in}
use Rattle.ohh_reading.specs.Sizes.{sizes_of}
use Rattle.first_fault.proofs.Thread.{bound}
use Rattle.hand_canon.specs.PlainHands.{PlainHand, PlainSetup}

-- the same, by what holds of the first part
bound_by : {A B F : Type 0} (P : A → Type 0) (Q : B → Type 0) (first : Result A F) (next : A → Result B F) → IfOk first P → ((a : A) → P a → IfOk (next a) Q) → IfOk (first >>= next) Q
bound_by P Q (Ok a) next is each = each a is
bound_by P Q (Err fault) next is each = tt

-- ---- what comes before the rounds

named_told : (what : MemberFaultKind) (path : Path) (first second third fourth : Bool)
    → IfOk (or_wrong what path (if first then Some games.FT else if second then Some games.NT else if third then Some games.PO else if fourth then Some games.FO8 else None)) (λ code. is_spelled_game code ≡ true)
named_told what path true second third fourth = refl
named_told what path false true third fourth = refl
named_told what path false false true fourth = refl
named_told what path false false false true = refl
named_told what path false false false false = tt

-- the game is one that can be written
abbrev IsOfSpelled : Code → Type 0
IsOfSpelled code = is_spelled_game code ≡ true

game_told : (ohh : Data) → IfOk (game_said ohh) IsOfSpelled
unfolding game_said
game_told ohh =
    bound IsOfSpelled (required_value paths.GameType ohh >>= text_said paths.GameType) _ (λ game.
    bound IsOfSpelled (required_value paths.BetLimit ohh >>= object_said paths.BetLimit) _ (λ limits.
    bound IsOfSpelled (required_value paths.BetType limits >>= text_said paths.BetType) _ (λ limit.
    named_told whats.UnsupportedGame paths.GameType (bytes_eq game (codes "Holdem") && bytes_eq limit (codes "FL")) (bytes_eq game (codes "Holdem") && bytes_eq limit (codes "NL")) (bytes_eq game (codes "Omaha") && bytes_eq limit (codes "PL")) (bytes_eq game (codes "OmahaHiLo") && bytes_eq limit (codes "FL")))))

number_told : (least most : ℕ) (path : Path) (value : Data) → IfOk (number_said least most path value) (λ n. least ≤ n)
unfolding number_said
number_told least most path trees.null = tt
number_told least most path (trees.boolean b) = tt
number_told least most path (trees.number (trees.unsigned n)) = by_range (nat_le least n) refl (nat_le n most)
  where
    by_range : (low : Bool) → nat_le least n ≡ low → (high : Bool) → IfOk (if low && high then Ok n else wrong whats.AmountLimit path) (λ m. least ≤ m)
    by_range true is true = leb-true least n is
    by_range true is false = tt
    by_range false is high = tt
number_told least most path (trees.number (trees.negative z)) = tt
number_told least most path (trees.number (trees.float x)) = tt
number_told least most path (trees.string text) = tt
number_told least most path (trees.array items) = tt
number_told least most path (trees.object _) = tt

-- the small blind is at least one chip, and the big blind no less
record AreInOrder (blinds : Blinds) : Type 0 where
  small : 1 ≤ blinds.small
  order : blinds.small ≤ blinds.big

abbrev both_blinds : ℕ → ℕ → Blinds
both_blinds small big = record { small = small; big = big }

fit_told : (code : Code) (small big : ℕ) → 1 ≤ small → IfOk (fitting code small big) AreInOrder
unfolding fitting
fit_told code small big least = by_order (nat_lt big small) refl (is_fixed_game code && nat_lt MOST_CHIPS (2 * big))
  where
    by_order : (less : Bool) → nat_lt big small ≡ less → (much : Bool)
        → IfOk (if less then wrong whats.BadPost paths.SmallBlindAmount else if much then wrong whats.AmountLimit paths.BigBlindAmount else Ok (both_blinds small big)) AreInOrder
    by_order true is much = tt
    by_order false is true = tt
    by_order false is false = record { small = least; order = ltb-false big small is }

blinds_told : (code : Code) (ohh : Data) → IfOk (blinds_said code ohh) AreInOrder
unfolding blinds_said
blinds_told code ohh =
    bound AreInOrder (read_if (number_said 0 MOST_CHIPS paths.AnteAmount) (member_at paths.AnteAmount ohh)) _ (λ ante.
    bound_by (λ n. 1 ≤ n) AreInOrder (required_value paths.SmallBlindAmount ohh >>= number_said 1 MOST_CHIPS paths.SmallBlindAmount) _
    (bound (λ n. 1 ≤ n) (required_value paths.SmallBlindAmount ohh) (number_said 1 MOST_CHIPS paths.SmallBlindAmount) (λ value. number_told 1 MOST_CHIPS paths.SmallBlindAmount value)) (λ small least.
    bound AreInOrder (required_value paths.BigBlindAmount ohh >>= number_said 1 MOST_CHIPS paths.BigBlindAmount) _ (λ big. fit_told code small big least)))

record IsToldFront (front : PlainFront) : Type 0 where
  game : is_spelled_game front.code ≡ true
  blinds : AreInOrder front.blinds

front_told : (ohh : Data) → IfOk (front_said ohh) IsToldFront
unfolding front_said
front_told ohh =
    bound_by IsOfSpelled IsToldFront (game_said ohh) _ (game_told ohh) (λ code game.
    bound IsToldFront (seated_said ohh) _ (λ players.
    bound_by AreInOrder IsToldFront (blinds_said code ohh) _ (blinds_told code ohh) (λ blinds order. record { game = game; blinds = order })))

-- ---- the rounds

-- antes and blinds are those of posts that meet their conditions
pub record HasPosts (table : PlainNamedBlinds) (stakes : PlainAntesAndBlinds) : Type 0 where
  pub posts : List PlainPost
  pub are : stakes ≡ antes_and_blinds_said table posts
  pub checked : posts_checked table posts ≡ Ok tt

checked_told : (setting : PlainHandContext) (steps : List PlainStep) (checked : Result ⊤ PostFault) → posts_checked setting.table (posts_in steps) ≡ checked
    → IfOk (at_posts checked >>= λ met. Ok (record { stakes = antes_and_blinds_said setting.table (posts_in steps); script = script_said (seat_count setting.table) setting.hole_cards steps; file_moves = setting.file_moves + moves_in steps })) (λ (play : PlainPlay). HasPosts setting.table play.stakes)
checked_told setting steps (Ok met) is = record { posts = posts_in steps; are = refl; checked = is }
checked_told setting steps (Err post_faults.MissingBlind) is = tt
checked_told setting steps (Err (post_faults.At place)) is = tt

play_told : (setting : PlainHandContext) (ohh : Data) → IfOk (rounds_said setting ohh) (λ play. HasPosts setting.table play.stakes)
unfolding rounds_said
play_told setting ohh = bound (λ (play : PlainPlay). HasPosts setting.table play.stakes) (steps_said setting ohh) _ (λ steps. checked_told setting steps (posts_checked setting.table (posts_in steps)) refl)

-- ---- the hand

-- the antes and the blinds of a setup
abbrev pub stakes_in : PlainSetup → PlainAntesAndBlinds
stakes_in setup = record { antes = setup.antes; dead_antes = setup.dead_antes; blinds = setup.blinds }

-- a setup is determined by named blinds and by posts
pub record IsToldSetup (setup : PlainSetup) : Type 0 where
  pub table : PlainNamedBlinds
  pub game : is_spelled_game setup.code ≡ true
  pub small : 1 ≤ table.small_blind
  pub order : table.small_blind ≤ table.big_blind
  pub stacks : setup.stacks ≡ table.stacks
  pub sizes : setup.sizes ≡ sizes_of setup.code table.big_blind
  pub stakes : HasPosts table (stakes_in setup)

pub record IsToldHand (hand : PlainHand) : Type 0 where
  pub rules : hand.rules ≡ history_rules
  pub setup : IsToldSetup hand.setup

-- what holds of a hand that is read
abbrev IsFoundTold : PlainHand × ℕ → Type 0
IsFoundTold found = IsToldHand found.0

abbrev table_of : PlainFront → PlainNamedBlinds
table_of front = record { stacks = stacks_of front.players; small_blind = front.blinds.small; big_blind = front.blinds.big }

hand_told : (dialect : Dialect) (file_moves place : ℕ) (ohh : Data) → IfOk (hand_said dialect file_moves place ohh) IsFoundTold
unfolding hand_said
hand_told dialect file_moves place ohh =
    bound_by IsToldFront IsFoundTold (front_said ohh) _ (front_told ohh) (λ front is.
    bound_by (λ (play : PlainPlay). HasPosts (table_of front) play.stakes) IsFoundTold (rounds_said (setting_of dialect file_moves front) ohh) _ (play_told (setting_of dialect file_moves front) ohh) (λ play posts.
    bound IsFoundTold (pots_said (ids_of front.players) ohh) _ (λ paid.
    bound IsFoundTold (notes_said place front.players ohh) _ (λ notes.
    record {
      rules = refl;
      setup = record { table = table_of front; game = is.game; small = is.blinds.small; order = is.blinds.order; stacks = refl; sizes = refl; stakes = posts };
    }))))

-- ---- the file

tree_told : (dialect : Dialect) (file_moves place : ℕ) (tree : Data) → IfOk (tree_said dialect file_moves place tree) IsFoundTold
unfolding tree_said
tree_told dialect file_moves place tree = bound IsFoundTold (object_of (member_at paths.Ohh tree)) _ (λ ohh. hand_told dialect file_moves place ohh)

one_told : (number : ℕ) (read : Result (PlainHand × ℕ) MemberFault) → IfOk read IsFoundTold → IfOk (result_in_hand number read) IsFoundTold
one_told number (Ok found) is = is
one_told number (Err fault) is = tt

found_told : (dialect : Dialect) (file_moves number : ℕ) (tree : Option Data) → IfOk (found_said dialect file_moves number tree) IsFoundTold
unfolding found_said
found_told dialect file_moves number None = tt
found_told dialect file_moves number (Some tree) = one_told number (tree_said dialect file_moves (number - 1) tree) (tree_told dialect file_moves (number - 1) tree)

abbrev AreTold : {S : Type 0} → List PlainHand × S → Type 0
AreTold found = AllByRecursion IsToldHand found.0

numbered_told : (dialect : Dialect) (file_moves number : ℕ) (block : List ℕ) → IfOk (numbered_hand dialect file_moves number block) AreTold
unfolding numbered_hand
numbered_told dialect file_moves number block =
    by_limit (found_said dialect file_moves number (tree_of block) >>= λ found. Ok (found.0 ∷ [], found.1)) (nat_lt MOST_HANDS number)
    (bound_by IsFoundTold AreTold (found_said dialect file_moves number (tree_of block)) _ (found_told dialect file_moves number (tree_of block)) (λ found is. (is, tt)))
  where
    by_limit : (here : Result (List PlainHand × ℕ) Wrong) (late : Bool) → IfOk here AreTold → IfOk (if late then Err (wrong_in number past_hands) else here) AreTold
    by_limit here true is = tt
    by_limit here false is = is

both_told : (some more : List PlainHand) → AllByRecursion IsToldHand some → AllByRecursion IsToldHand more → AllByRecursion IsToldHand (some ++ more)
both_told [] more each others = others
both_told (hand ∷ some) more each others = (each.0, both_told some more each.1 others)

then_told : (found : List PlainHand × ℕ) (others : Result (List PlainHand × ℕ) Wrong) → AreTold found → IfOk others AreTold → IfOk (others >>= λ rest. Ok (found.0 ++ rest.0, rest.1)) AreTold
then_told found (Ok rest) is all = both_told found.0 rest.0 is all
then_told found (Err fault) is all = tt

threaded : (dialect : Dialect) (file_moves number : ℕ) (blocks : List (List ℕ)) → IfOk (thread_from (numbered_hand dialect) file_moves number blocks) AreTold
unfolding thread_from
threaded dialect file_moves number [] = tt
threaded dialect file_moves number (block ∷ rest) =
    by_first (numbered_hand dialect file_moves number block) (numbered_told dialect file_moves number block) (λ counts. threaded dialect counts (number + 1) rest)
  where
    by_first : (first : Result (List PlainHand × ℕ) Wrong) → IfOk first AreTold → ((counts : ℕ) → IfOk (thread_from (numbered_hand dialect) counts (number + 1) rest) AreTold)
        → IfOk (first >>= λ found. thread_from (numbered_hand dialect) found.1 (number + 1) rest >>= λ others. Ok (found.0 ++ others.0, others.1)) AreTold
    by_first (Ok found) is later = then_told found (thread_from (numbered_hand dialect) found.1 (number + 1) rest) is (later found.1)
    by_first (Err fault) is later = tt

all_told : (found : Result (List PlainHand × ℕ) Wrong) → IfOk found AreTold → IfOk {T = List PlainHand} (found >>= λ all. Ok all.0) (AllByRecursion IsToldHand)
all_told (Ok found) is = is
all_told (Err fault) is = tt

-- each hand that is read from bytes
pub reading_told : (dialect : Dialect) (bytes : List ℕ) → IfOk (reading dialect bytes) (AllByRecursion IsToldHand)
unfolding reading
reading_told dialect bytes = all_told (hands_said dialect (blocks_of bytes)) (threaded dialect 0 1 (blocks_of bytes))
