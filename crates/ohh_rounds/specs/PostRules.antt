-- The seven conditions of posts, in the order in which they are checked.
use Rattle.std.specs.Prelude.{⊤, ◌≡◌, ℕ, ◌-◌, ◌==◌, nat_le, nat_lt, min, Bool, not, ◌&&◌, ◌||◌, if◌then◌else◌, List, [], ◌∷◌, ◌++◌, map, Option, Some, None, is_some, Result, Ok, Err}
use Rattle.std.specs.List.{list_all}
use Rattle.chip_ledger.specs.Greatest.{greatest}
use Rattle.chip_ledger.specs.Seat.{seats_of}
use Rattle.first_fault.specs.Reading.{◌>>=◌}
use Rattle.ohh_rounds.specs.declared.post.ActionLocation.{ActionLocation}
use Rattle.ohh_rounds.specs.declared.post.PostFault.{PostFault}
use Rattle.ohh_rounds.specs.declared.post.PostFault.TheVariants as faults
use Rattle.ohh_rounds.specs.declared.checking.PostFacts.{PostFacts}
use Rattle.ohh_rounds.specs.declared.checking.PostRule.{PostRule}
use Rattle.ohh_rounds.specs.declared.checking.PostRule.TheVariants as conditions
use Rattle.ohh_rounds.specs.NamedBlinds.{PlainNamedBlinds, plain_named_blinds, seat_count, seat_of_big_blind, seat_of_small_blind, stack_of}
use Rattle.ohh_rounds.specs.Posts.{AreFirst, PlainPost, ante_of, first_ante, first_straddle, has_big_blind, has_small_blind, is_ante, is_big_blind, is_small_blind, is_straddle}

-- the stack of a seat without its ante, 0 if the ante is more than the stack
abbrev pub left_of : PlainNamedBlinds → List PlainPost → ℕ → ℕ
left_of table posts seat = stack_of table seat - ante_of posts seat

-- every seat posts an ante
abbrev pub has_all_antes : PlainNamedBlinds → List PlainPost → Bool
has_all_antes table posts =
    list_all (λ seat. is_some (first_ante seat posts)) (seats_of (seat_count table))

-- the greatest ante of a seat
abbrev pub greatest_ante : PlainNamedBlinds → List PlainPost → ℕ
greatest_ante table posts = greatest (map (ante_of posts) (seats_of (seat_count table)))

-- the post is a second small blind, or a second big blind
abbrev pub is_second_blind : List PlainPost → PlainPost → Bool
is_second_blind before post =
    (is_small_blind post.kind && has_small_blind before)
    || (is_big_blind post.kind && has_big_blind before)

-- the post is a blind that belongs to another seat
abbrev pub is_misplaced_blind : PlainNamedBlinds → PlainPost → Bool
is_misplaced_blind table post =
    (is_small_blind post.kind && not (post.seat == seat_of_small_blind table))
    || (is_big_blind post.kind && not (post.seat == seat_of_big_blind table))

-- the post is a blind that is not the smaller of its named amount and the stack without the ante
abbrev pub is_wrong_blind : PlainNamedBlinds → List PlainPost → PlainPost → Bool
is_wrong_blind table posts post =
    (is_small_blind post.kind
    && not (post.amount == min table.small_blind (left_of table posts post.seat)))
    || (is_big_blind post.kind
    && not (post.amount == min table.big_blind (left_of table posts post.seat)))

-- the post is a straddle of p1 or p2, of no chips, a second one of its player, or more than the
-- stack without the ante
abbrev pub is_wrong_straddle : PlainNamedBlinds → List PlainPost → List PlainPost → PlainPost → Bool
is_wrong_straddle table posts before post =
    is_straddle post.kind
    && (nat_le post.seat 2
    || ((post.amount == 0)
    || (is_some (first_straddle post.seat before)
    || nat_lt (left_of table posts post.seat) post.amount)))

-- the post is an ante above the stack, of no chips, or a second one of its player
abbrev pub is_wrong_ante : PlainNamedBlinds → List PlainPost → PlainPost → Bool
is_wrong_ante table before post =
    is_ante post.kind
    && (nat_lt (stack_of table post.seat) post.amount
    || ((post.amount == 0) || is_some (first_ante post.seat before)))

-- every player posts an ante, and this one is not the smaller of the greatest ante and the stack
abbrev pub is_uneven_ante : PlainNamedBlinds → List PlainPost → PlainPost → Bool
is_uneven_ante table posts post =
    is_ante post.kind
    && (has_all_antes table posts
    && not (post.amount == min (greatest_ante table posts) (stack_of table post.seat)))

-- a post breaks a condition, given all posts and those before it
unfoldable pub is_breaking : PostRule → PlainNamedBlinds → List PlainPost → List PlainPost
    → PlainPost → Bool
is_breaking conditions.Early table posts before post = not post.early
is_breaking conditions.OneOfEachBlind table posts before post = is_second_blind before post
is_breaking conditions.BlindSeats table posts before post = is_misplaced_blind table post
is_breaking conditions.BlindAmounts table posts before post = is_wrong_blind table posts post
is_breaking conditions.Straddles table posts before post = is_wrong_straddle table posts before post
is_breaking conditions.Antes table posts before post = is_wrong_ante table before post
is_breaking conditions.EvenAntes table posts before post = is_uneven_ante table posts post

-- the place of the first of these posts that breaks a condition, given all posts and those before
-- it
abbrev pub first_breaking : PostRule → PlainNamedBlinds → List PlainPost → List PlainPost
    → List PlainPost → Option ActionLocation
first_breaking condition table posts before [] = None
first_breaking condition table posts before (post ∷ rest) =
    if is_breaking condition table posts before post
    then Some post.place
    else first_breaking condition table posts (before ++ post ∷ []) rest

-- no post breaks the condition, or the first that does is named
abbrev pub at_first : Option ActionLocation → Result ⊤ PostFault
at_first None = Ok tt
at_first (Some place) = Err (faults.At place)

-- the condition holds of all posts
abbrev pub holds : PostRule → PlainNamedBlinds → List PlainPost → Result ⊤ PostFault
holds condition table posts = at_first (first_breaking condition table posts [] posts)

-- both blinds are posted
abbrev pub has_blinds : List PlainPost → Result ⊤ PostFault
has_blinds posts =
    if has_small_blind posts && has_big_blind posts then Ok tt else Err faults.MissingBlind

-- the conditions, one after the other
unfoldable pub posts_checked : PlainNamedBlinds → List PlainPost → Result ⊤ PostFault
posts_checked table posts = do
  early ← holds conditions.Early table posts
  blinds ← has_blinds posts
  once ← holds conditions.OneOfEachBlind table posts
  seats ← holds conditions.BlindSeats table posts
  amounts ← holds conditions.BlindAmounts table posts
  straddles ← holds conditions.Straddles table posts
  antes ← holds conditions.Antes table posts
  holds conditions.EvenAntes table posts

-- these are the facts about all posts that the conditions need
pub record AreFacts (posts : List PlainPost) (facts : PostFacts) : Type 0 where
  pub firsts : AreFirst posts facts.firsts
  pub all_post : facts.all_post ≡ has_all_antes (plain_named_blinds facts.table) posts
  pub greatest : facts.greatest_ante ≡ greatest_ante (plain_named_blinds facts.table) posts
