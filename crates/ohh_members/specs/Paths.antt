-- The paths to the members of a hand, and how they are written.
use Rattle.std.specs.Prelude.{ℕ, List, [], ◌∷◌, ◌++◌, codes}
use Rattle.std.specs.Fmt.{decimal}
use Rattle.ohh_members.specs.declared.fault.PlayerMember.{PlayerMember}
use Rattle.ohh_members.specs.declared.fault.PlayerMember.TheVariants as players
use Rattle.ohh_members.specs.declared.fault.ActionMember.{ActionMember}
use Rattle.ohh_members.specs.declared.fault.ActionMember.TheVariants as actions
use Rattle.ohh_members.specs.declared.fault.RoundMember.{RoundMember}
use Rattle.ohh_members.specs.declared.fault.RoundMember.TheVariants as rounds
use Rattle.ohh_members.specs.declared.fault.WinMember.{WinMember}
use Rattle.ohh_members.specs.declared.fault.WinMember.TheVariants as wins
use Rattle.ohh_members.specs.declared.fault.PotMember.{PotMember}
use Rattle.ohh_members.specs.declared.fault.PotMember.TheVariants as pots
use Rattle.ohh_members.specs.declared.fault.Path.{Path}
use Rattle.ohh_members.specs.declared.fault.Path.TheVariants as paths

-- the name of the member of a player; the player itself has none
abbrev pub player_name : PlayerMember → List ℕ
player_name players.Itself = []
player_name players.Id = codes "id"
player_name players.Seat = codes "seat"
player_name players.Name = codes "name"
player_name players.StartingStack = codes "starting_stack"

-- the name of the member of an action; the action itself and one of its cards have none
abbrev pub action_name : ActionMember → List ℕ
action_name actions.Itself = []
action_name actions.Word = codes "action"
action_name actions.PlayerId = codes "player_id"
action_name actions.Amount = codes "amount"
action_name actions.Cards = codes "cards"
action_name (actions.Card index) = []

-- the name of the member of a round, or of one of its actions; the round itself and one of its
-- cards have none
abbrev pub round_name : RoundMember → List ℕ
round_name rounds.Itself = []
round_name rounds.Street = codes "street"
round_name rounds.Cards = codes "cards"
round_name (rounds.Card index) = []
round_name rounds.Actions = codes "actions"
round_name (rounds.Action index part) = action_name part

-- the name of the member of a win; the win itself has none
abbrev pub win_name : WinMember → List ℕ
win_name wins.Itself = []
win_name wins.PlayerId = codes "player_id"
win_name wins.WinAmount = codes "win_amount"

-- the name of the member of a pot, or of one of its wins; the pot itself has none
abbrev pub pot_name : PotMember → List ℕ
pot_name pots.Itself = []
pot_name pots.Amount = codes "amount"
pot_name pots.Rake = codes "rake"
pot_name pots.PlayerWins = codes "player_wins"
pot_name (pots.Win index part) = win_name part

-- the name of the member that a path ends with; an item of a list has none
abbrev pub member_name : Path → List ℕ
member_name paths.Ohh = codes "ohh"
member_name paths.GameType = codes "game_type"
member_name paths.BetLimit = codes "bet_limit"
member_name paths.BetType = codes "bet_type"
member_name paths.Players = codes "players"
member_name (paths.Player index part) = player_name part
member_name paths.DealerSeat = codes "dealer_seat"
member_name paths.AnteAmount = codes "ante_amount"
member_name paths.SmallBlindAmount = codes "small_blind_amount"
member_name paths.BigBlindAmount = codes "big_blind_amount"
member_name paths.Rounds = codes "rounds"
member_name (paths.Round index part) = round_name part
member_name paths.Pots = codes "pots"
member_name (paths.Pot index part) = pot_name part
member_name paths.GameNumber = codes "game_number"
member_name paths.TableName = codes "table_name"
member_name paths.TableSize = codes "table_size"
member_name paths.StartDate = codes "start_date_utc"
member_name paths.Currency = codes "currency"
member_name paths.SiteName = codes "site_name"

-- a name after a point, or nothing if there is no name
abbrev pub with_point : List ℕ → List ℕ
with_point [] = []
with_point (sign ∷ signs) = codes "." ++ sign ∷ signs

-- a member, written after its action
abbrev pub action_text : ActionMember → List ℕ
action_text (actions.Card index) = codes ".cards[" ++ (decimal index ++ codes "]")
action_text part = with_point (action_name part)

-- a member, written after its round
abbrev pub round_text : RoundMember → List ℕ
round_text (rounds.Card index) = codes ".cards[" ++ (decimal index ++ codes "]")
round_text (rounds.Action index part) =
    codes ".actions[" ++ (decimal index ++ (codes "]" ++ action_text part))
round_text part = with_point (round_name part)

-- a member, written after its pot
abbrev pub pot_text : PotMember → List ℕ
pot_text (pots.Win index part) =
    codes ".player_wins[" ++ (decimal index ++ (codes "]" ++ with_point (win_name part)))
pot_text part = with_point (pot_name part)

-- a path as text, as ohh.rounds[0].actions[4].amount
abbrev pub path_text : Path → List ℕ
path_text paths.Ohh = codes "ohh"
path_text paths.BetType = codes "ohh.bet_limit.bet_type"
path_text (paths.Player index part) =
    codes "ohh.players[" ++ (decimal index ++ (codes "]" ++ with_point (player_name part)))
path_text (paths.Round index part) =
    codes "ohh.rounds[" ++ (decimal index ++ (codes "]" ++ round_text part))
path_text (paths.Pot index part) =
    codes "ohh.pots[" ++ (decimal index ++ (codes "]" ++ pot_text part))
path_text path = codes "ohh." ++ member_name path

-- the path of one of the cards, from 0, of the list of cards at a path
abbrev pub card_path : Path → ℕ → Path
card_path (paths.Round round rounds.Cards) index = paths.Round round (rounds.Card index)
card_path (paths.Round round (rounds.Action action actions.Cards)) index =
    paths.Round round (rounds.Action action (actions.Card index))
card_path path index = path
