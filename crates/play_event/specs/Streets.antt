-- What is read from a game's table: its limit, who acts first, its deck, and what a street deals,
-- draws and bets.
use Rattle.std.specs.Prelude.{ℕ, ◌-◌, Bool, true, false, slice_get}
use Rattle.std.specs.Option.{option_map_or}
use Rattle.play_event.specs.declared.code.Code.{Code}
use Rattle.play_event.specs.declared.setup.Setup.{Setup}
use Rattle.play_event.specs.declared.limit.Limit.{Limit}
use Rattle.play_event.specs.declared.limit.Opener.{Opener}
use Rattle.play_event.specs.declared.limit.Opener.TheVariants as openers
use Rattle.play_event.specs.declared.street.Size.{Size}
use Rattle.play_event.specs.declared.street.Size.TheVariants as sizes
use Rattle.play_event.specs.Games.{game_of}

-- the limit of the game
abbrev pub limit_of : Code → Limit
limit_of code = (game_of code).limit

-- who acts first
abbrev pub opener_of : Code → Opener
opener_of code = (game_of code).opener

-- how many cards the deck has
abbrev pub deck_of : Code → ℕ
deck_of code = (game_of code).deck

-- how many cards the street with this number, from 1, deals face down to each live seat
abbrev pub down_cards_on : Code → ℕ → ℕ
down_cards_on code street =
    option_map_or (λ s. s.down) (slice_get (game_of code).streets (street - 1)) 0

-- how many cards it deals face up
abbrev pub up_cards_on : Code → ℕ → ℕ
up_cards_on code street =
    option_map_or (λ s. s.up) (slice_get (game_of code).streets (street - 1)) 0

-- the street draws
abbrev pub has_draw : Code → ℕ → Bool
has_draw code street =
    option_map_or (λ s. s.draws) (slice_get (game_of code).streets (street - 1)) false

-- the bet size of the street
abbrev pub size_on : Code → ℕ → Size
size_on code street =
    option_map_or (λ s. s.size) (slice_get (game_of code).streets (street - 1)) sizes.Least

-- a bet of this size, in chips
abbrev pub chips_of_size : Setup → Size → ℕ
chips_of_size setup sizes.Small = setup.small_bet
chips_of_size setup sizes.Big = setup.big_bet
chips_of_size setup sizes.Least = setup.min_bet

-- the bet size of a street: the small or big bet in fixed limit, and the minimum bet in the other
-- limits
abbrev pub unit : Setup → ℕ → ℕ
unit setup street = chips_of_size setup (size_on setup.code street)

-- up-cards decide who acts first: in games that begin with a bring-in and have no blinds
abbrev pub is_opened_by_up_cards : Opener → Bool
is_opened_by_up_cards openers.Blinds = false
is_opened_by_up_cards openers.LowUp = true
is_opened_by_up_cards openers.HighUp = true

-- the game is a stud game
abbrev pub is_stud_game : Code → Bool
is_stud_game code = is_opened_by_up_cards (opener_of code)
