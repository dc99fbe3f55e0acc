-- Posts in the order of the actions, and the first post of each kind of a player.
use Rattle.std.specs.Prelude.{◌≡◌, ℕ, ◌-◌, ◌≤◌, ◌==◌, Bool, true, false, ◌&&◌, List, find, Option, None, option_map, slice_index_or}
use Rattle.std.specs.List.{list_any}
use Rattle.std.specs.Option.{option_map_or}
use Rattle.chip_ledger.specs.declared.numbers.Chips.{Chips}
use Rattle.ohh_rounds.specs.declared.post.PostKind.{PostKind}
use Rattle.ohh_rounds.specs.declared.post.PostKind.TheVariants as kinds
use Rattle.ohh_rounds.specs.declared.post.ActionLocation.{ActionLocation}
use Rattle.ohh_rounds.specs.declared.post.Post.{Post}
use Rattle.ohh_rounds.specs.declared.posts_so_far.PostsSoFar.{PostsSoFar}

-- a post: its kind, its seat, its chips, whether it comes on the first street before any move, and
-- the place of its action
pub record PlainPost : Type 0 where
  pub kind : PostKind
  pub seat : ℕ
  pub amount : ℕ
  pub early : Bool
  pub place : ActionLocation

-- a post, as the definitions see it
abbrev pub plain_post : Post → PlainPost
plain_post post =
    record {
      kind = post.kind;
      seat = post.seat.number;
      amount = post.amount.number;
      early = post.early;
      place = post.place;
    }

-- a post of this kind is an ante
abbrev pub is_ante : PostKind → Bool
is_ante kinds.Ante = true
is_ante kinds.SmallBlind = false
is_ante kinds.BigBlind = false
is_ante kinds.Straddle = false

-- a post of this kind is a small blind
abbrev pub is_small_blind : PostKind → Bool
is_small_blind kinds.Ante = false
is_small_blind kinds.SmallBlind = true
is_small_blind kinds.BigBlind = false
is_small_blind kinds.Straddle = false

-- a post of this kind is a big blind
abbrev pub is_big_blind : PostKind → Bool
is_big_blind kinds.Ante = false
is_big_blind kinds.SmallBlind = false
is_big_blind kinds.BigBlind = true
is_big_blind kinds.Straddle = false

-- a post of this kind is a straddle
abbrev pub is_straddle : PostKind → Bool
is_straddle kinds.Ante = false
is_straddle kinds.SmallBlind = false
is_straddle kinds.BigBlind = false
is_straddle kinds.Straddle = true

-- the chips of a seat's first post of a kind among some posts, if it has one
abbrev pub first_post : (PostKind → Bool) → ℕ → List PlainPost → Option ℕ
first_post is_kind seat posts =
    option_map (λ post. post.amount) (find (λ post. is_kind post.kind && (post.seat == seat)) posts)

-- the seat's first ante
abbrev pub first_ante : ℕ → List PlainPost → Option ℕ
first_ante seat posts = first_post is_ante seat posts

-- the seat's first straddle
abbrev pub first_straddle : ℕ → List PlainPost → Option ℕ
first_straddle seat posts = first_post is_straddle seat posts

-- a small blind is posted
abbrev pub has_small_blind : List PlainPost → Bool
has_small_blind posts = list_any (λ post. is_small_blind post.kind) posts

-- a big blind is posted
abbrev pub has_big_blind : List PlainPost → Bool
has_big_blind posts = list_any (λ post. is_big_blind post.kind) posts

-- the ante of a seat: its first one, or 0 if it has none
abbrev pub ante_of : List PlainPost → ℕ → ℕ
ante_of posts seat = option_map_or (λ ante. ante) (first_ante seat posts) 0

-- the chips that are stored for a seat, if there are any
abbrev pub chips_in : List (Option Chips) → ℕ → Option ℕ
chips_in row seat = option_map (λ chips. chips.number) (slice_index_or row (seat - 1) None)

-- what is stored are the first posts of these
pub record AreFirst (posts : List PlainPost) (firsts : PostsSoFar) : Type 0 where
  pub antes : (seat : ℕ) → 1 ≤ seat → seat ≤ 10 → chips_in firsts.antes seat ≡ first_ante seat posts
  pub straddles : (seat : ℕ) → 1 ≤ seat → seat ≤ 10
      → chips_in firsts.straddles seat ≡ first_straddle seat posts
  pub small_blind : firsts.small_blind ≡ has_small_blind posts
  pub big_blind : firsts.big_blind ≡ has_big_blind posts
