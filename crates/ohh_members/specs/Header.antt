-- What comes before the rounds of a hand: its game, its players and its blinds, read in this order.
use Rattle.std.specs.Prelude.{◌≡◌, ◌≤◌, ◌*◌, true, List, ℕ, ℤ, length, map, Result, Ok}
use Rattle.serde_json.specs.Data.{Data}
use Rattle.chip_ledger.specs.declared.numbers.TheConstants.{MOST_CHIPS}
use Rattle.play_event.specs.declared.code.Code.{Code}
use Rattle.first_fault.specs.Reading.{◌>>=◌}
use Rattle.ohh_members.specs.declared.blinds.Blinds.{Blinds}
use Rattle.ohh_members.specs.declared.fault.MemberFault.{MemberFault}
use Rattle.ohh_members.specs.declared.header.Header.{Header}
use Rattle.ohh_members.specs.Game.{IsReadGame, game_said}
use Rattle.ohh_members.specs.Players.{PlainPlayer, plain_player, seated_said}
use Rattle.ohh_members.specs.Blinds.{blinds_said, is_fixed_game}

-- the game, the players in the order of their seats in the hand, and the blinds
pub record PlainFront : Type 0 where
  pub code : Code
  pub players : List PlainPlayer
  pub blinds : Blinds

-- what comes before the rounds, as the definitions see it
abbrev pub plain_front : Header → PlainFront
plain_front front =
    record
    { code = front.code; players = map plain_player front.players.items; blinds = front.blinds }

-- what holds of everything that is read before the rounds
pub record IsFront (front : Header) : Type 0 where
  pub game : IsReadGame front.code
  pub some : 2 ≤ length front.players.items
  pub few : length front.players.items ≤ 10
  pub least : 1 ≤ front.blinds.small
  pub order : front.blinds.small ≤ front.blinds.big
  pub most : front.blinds.big ≤ MOST_CHIPS
  pub fixed : is_fixed_game front.code ≡ true → 2 * front.blinds.big ≤ MOST_CHIPS

-- what comes before the rounds of a hand
unfoldable pub front_said : Data → Result PlainFront MemberFault
front_said ohh = do
  code ← game_said ohh
  players ← seated_said ohh
  blinds ← blinds_said code ohh
  Ok (record { code = code; players = players; blinds = blinds })

-- the ids of players, in the order of their seats
abbrev pub ids_of : List PlainPlayer → List ℤ
ids_of players = map (λ player. player.id) players

-- the stacks of players, in the order of their seats
abbrev pub stacks_of : List PlainPlayer → List ℕ
stacks_of players = map (λ player. player.stack) players
