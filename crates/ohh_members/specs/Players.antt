-- Who plays a hand, and in which order they sit from the button on.
use Rattle.std.specs.Prelude.{ℕ, zero, suc, ◌==◌, Bool, nat_le, nat_lt, ◌&&◌, if◌then◌else◌, List, [], ◌∷◌, ◌++◌, length, filter, find, fold, Option, Some, None, unwrap_or, option_map, ℤ, pos, Result, Ok}
use Rattle.std.specs.List.{list_any}
use Rattle.std.specs.Ordering.{int_eq}
use Rattle.serde_json.specs.Data.{Data}
use Rattle.chip_ledger.specs.declared.numbers.TheConstants.{MOST_CHIPS}
use Rattle.first_fault.specs.declared.limits.TheConstants.{MOST_TEXT_BYTES}
use Rattle.first_fault.specs.declared.limits.Quantity.TheVariants as quantities
use Rattle.first_fault.specs.Forms.{few}
use Rattle.first_fault.specs.Reading.{◌>>=◌, added_from, read_if}
use Rattle.ohh_members.specs.declared.fault.PlayerMember.{PlayerMember}
use Rattle.ohh_members.specs.declared.fault.PlayerMember.TheVariants as members
use Rattle.ohh_members.specs.declared.fault.MemberFaultKind.TheVariants as whats
use Rattle.ohh_members.specs.declared.fault.Path.{Path}
use Rattle.ohh_members.specs.declared.fault.Path.TheVariants as paths
use Rattle.ohh_members.specs.declared.fault.MemberFault.{MemberFault}
use Rattle.ohh_members.specs.declared.player.Player.{Player}
use Rattle.ohh_members.specs.Values.{member_fault, wrong, or_wrong, member_at, required_value, text_said, object_said, list_said, number_said, integer_said}

-- a player: the id, the seat at the table, the name if there is one, and the starting stack
pub record PlainPlayer : Type 0 where
  pub id : ℤ
  pub seat : ℕ
  pub name : Option (List ℕ)
  pub stack : ℕ

-- a player, as the definitions see it
abbrev pub plain_player : Player → PlainPlayer
plain_player player =
    record {
      id = player.id;
      seat = player.seat;
      name = option_map (λ name. name.now) player.name;
      stack = player.stack;
    }

-- the path of a member of the player with this index
abbrev pub of_player : ℕ → PlayerMember → Path
of_player index part = paths.Player index part

-- some player has the id
abbrev pub has_id : ℤ → List PlainPlayer → Bool
has_id id players = list_any (λ player. int_eq id player.id) players

-- some player has the seat
abbrev pub has_seat : ℕ → List PlainPlayer → Bool
has_seat seat players = list_any (λ player. seat == player.seat) players

-- the id of a player, different from those before it
unfoldable pub id_said : List PlainPlayer → ℕ → Data → Result ℤ MemberFault
id_said earlier index player = do
  id ← required_value (of_player index members.Id) player
      >>= integer_said (of_player index members.Id)
  if has_id id earlier then wrong whats.BadPlayer (of_player index members.Id) else Ok id

-- the seat of a player at the table, different from those before it
unfoldable pub seat_said : List PlainPlayer → ℕ → Data → Result ℕ MemberFault
seat_said earlier index player = do
  seat ← required_value (of_player index members.Seat) player
      >>= number_said 1 255 (of_player index members.Seat)
  if has_seat seat earlier then wrong whats.BadPlayer (of_player index members.Seat) else Ok seat

-- a text of at most 255 bytes
unfoldable pub short_text_said : Path → Data → Result (List ℕ) MemberFault
short_text_said path value =
    text_said path value
    >>= few MOST_TEXT_BYTES (member_fault (whats.TooMany quantities.TextBytes) path)

-- the name of a player, if it has one
abbrev pub name_said : ℕ → Data → Result (Option (List ℕ)) MemberFault
name_said index player =
    read_if (short_text_said (of_player index members.Name))
    (member_at (of_player index members.Name) player)

-- the starting stack of a player
unfoldable pub stack_said : ℕ → Data → Result ℕ MemberFault
stack_said index player =
    required_value (of_player index members.StartingStack) player
    >>= number_said 1 MOST_CHIPS (of_player index members.StartingStack)

-- a player, checked against those before it
unfoldable pub player_said : List PlainPlayer → ℕ → Data → Result PlainPlayer MemberFault
player_said earlier index value = do
  player ← object_said (of_player index members.Itself) value
  id ← id_said earlier index player
  seat ← seat_said earlier index player
  name ← name_said index player
  stack ← stack_said index player
  Ok (record { id = id; seat = seat; name = name; stack = stack })

-- the players with one more
unfoldable pub player_added : List PlainPlayer → ℕ → Data → Result (List PlainPlayer) MemberFault
player_added earlier index value =
    player_said earlier index value >>= λ player. Ok (earlier ++ player ∷ [])

-- two to ten players in the order in which they are listed
unfoldable pub players_said : Data → Result (List PlainPlayer) MemberFault
players_said ohh = do
  items ← required_value paths.Players ohh >>= list_said paths.Players
  if nat_le 2 (length items) && nat_le (length items) 10
      then added_from player_added [] 0 items
      else wrong whats.BadPlayer paths.Players

-- the player in this seat of the table
abbrev pub player_at : ℤ → List PlainPlayer → Option PlainPlayer
player_at seat players = find (λ player. int_eq (pos player.seat) seat) players

-- the player on the button
unfoldable pub button_said : List PlainPlayer → Data → Result PlainPlayer MemberFault
button_said players ohh = do
  seat ← required_value paths.DealerSeat ohh >>= integer_said paths.DealerSeat
  or_wrong whats.BadPlayer paths.DealerSeat (player_at seat players)

-- of two players, the one in the lower seat
abbrev pub lower : Option PlainPlayer → PlainPlayer → Option PlainPlayer
lower None player = Some player
lower (Some other) player = if nat_lt player.seat other.seat then Some player else Some other

-- the player in the lowest seat
abbrev pub lowest : List PlainPlayer → Option PlainPlayer
lowest players = fold lower None players

-- the players in higher seats
abbrev pub above : ℕ → List PlainPlayer → List PlainPlayer
above seat players = filter (λ player. nat_lt seat player.seat) players

-- the player in the next higher seat, or after the highest seat the one in the lowest; if there are
-- no players, this one
abbrev pub next_player : List PlainPlayer → PlainPlayer → PlainPlayer
next_player players player =
    unwrap_or (lowest (above player.seat players)) (unwrap_or (lowest (above 0 players)) player)

-- this number of players, going round from the one after this player
abbrev pub round_from : List PlainPlayer → PlainPlayer → ℕ → List PlainPlayer
round_from players player zero = []
round_from players player (suc count) =
    next_player players player ∷ round_from players (next_player players player) count

-- the players in the order of their seats in the hand: the first sits after the button, the last is
-- on it
abbrev pub seated : List PlainPlayer → PlainPlayer → List PlainPlayer
seated players button = round_from players button (length players)

-- the players in the order of their seats in the hand, as they are read
unfoldable pub seated_said : Data → Result (List PlainPlayer) MemberFault
seated_said ohh = do
  players ← players_said ohh
  button ← button_said players ohh
  Ok (seated players button)
