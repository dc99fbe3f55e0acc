-- What a hand states of its pots: their amounts, their rakes, and what each seat wins.
use Rattle.std.specs.Prelude.{◌≡◌, ◌≤◌, ℕ, ◌+◌, nat_le, nat_lt, ◌&&◌, if◌then◌else◌, List, [], ◌∷◌, ◌++◌, length, map, Option, Some, None, option_map, unwrap_or, ℤ, Result, Ok}
use Rattle.std.specs.Option.{ForSome}
use Rattle.serde_json.specs.Data.{Data}
use Rattle.chip_ledger.specs.declared.seat_row.TheConstants.{MOST_AMOUNT}
use Rattle.chip_ledger.specs.RakeRow.{rake_of}
use Rattle.chip_ledger.specs.Seat.{seats_of}
use Rattle.first_fault.specs.Reading.{◌>>=◌, added_from, read_if}
use Rattle.ohh_members.specs.declared.fault.PotMember.{PotMember}
use Rattle.ohh_members.specs.declared.fault.PotMember.TheVariants as members
use Rattle.ohh_members.specs.declared.fault.WinMember.{WinMember}
use Rattle.ohh_members.specs.declared.fault.WinMember.TheVariants as wins
use Rattle.ohh_members.specs.declared.fault.MemberFaultKind.TheVariants as whats
use Rattle.ohh_members.specs.declared.fault.Path.{Path}
use Rattle.ohh_members.specs.declared.fault.Path.TheVariants as paths
use Rattle.ohh_members.specs.declared.fault.MemberFault.{MemberFault}
use Rattle.ohh_reading.specs.declared.listed_pots.ListedPots.{ListedPots}
use Rattle.ohh_reading.specs.declared.listed_pots.Paid.{Paid}
use Rattle.ohh_reading.specs.PotSums.{PlainListedPot, plain_listed_pot, all_of, rakes_said}
use Rattle.ohh_members.specs.Values.{wrong, member_at, required_value, object_said, list_said, number_said, player_said}
use Rattle.ohh_reading.specs.Won.{PlainWin, plain_win, won_by}
use Rattle.chip_ledger.specs.SeatRow.{amounts_in}

-- pots, and what is won of them, in the order in which they are listed
pub record PlainPots : Type 0 where
  pub pots : List PlainListedPot
  pub wins : List PlainWin

-- no pots
abbrev pub no_pots : PlainPots
no_pots = record { pots = []; wins = [] }

-- the pots that were read, as the definitions see them
abbrev pub plain_found : ListedPots → PlainPots
plain_found found =
    record
    { pots = map plain_listed_pot found.pots.items; wins = map plain_win found.won.list.items }

-- the path of a member of the pot with this index
abbrev pub of_pot : ℕ → PotMember → Path
of_pot index part = paths.Pot index part

-- the path of a member of the win with this index, in the pot with this index
abbrev pub of_win : ℕ → ℕ → WinMember → Path
of_win pot index part = paths.Pot pot (members.Win index part)

-- a number that, together with what it is added to, is within the limit of stated amounts
unfoldable pub summed : ℕ → Path → ℕ → Result ℕ MemberFault
summed before path number =
    if nat_le (before + number) MOST_AMOUNT then Ok number else wrong whats.AmountLimit path

-- what a player wins of the pot with this index, after these wins
unfoldable pub win_said : List ℤ → ℕ → List PlainWin → ℕ → Data → Result PlainWin MemberFault
win_said ids pot earlier index value = do
  win ← object_said (of_win pot index wins.Itself) value
  seat ← required_value (of_win pot index wins.PlayerId) win
      >>= player_said ids (of_win pot index wins.PlayerId)
  chips ← required_value (of_win pot index wins.WinAmount) win
      >>= number_said 0 MOST_AMOUNT (of_win pot index wins.WinAmount)
  within ← summed (won_by seat earlier) (of_win pot index wins.WinAmount) chips
  Ok (record { seat = seat; chips = within })

-- the wins with one more
unfoldable pub win_added : List ℤ → ℕ → List PlainWin → ℕ → Data
    → Result (List PlainWin) MemberFault
win_added ids pot earlier index value =
    win_said ids pot earlier index value >>= λ win. Ok (earlier ++ win ∷ [])

-- the amount of a pot, after the pots before it
unfoldable pub amount_said : List PlainListedPot → ℕ → Data → Result ℕ MemberFault
amount_said earlier index pot = do
  amount ← required_value (of_pot index members.Amount) pot
      >>= number_said 0 MOST_AMOUNT (of_pot index members.Amount)
  summed (all_of earlier) (of_pot index members.Amount) amount

-- the rake of a pot; a hand has at most eleven pots, so no rake is allowed after the eleventh
unfoldable pub rake_said : ℕ → Data → Result ℕ MemberFault
rake_said index pot = do
  rake ← read_if (number_said 0 MOST_AMOUNT (of_pot index members.Rake))
      (member_at (of_pot index members.Rake) pot)
  if nat_le 11 index && nat_lt 0 (unwrap_or rake 0)
      then wrong whats.RakePlace (of_pot index members.Rake)
      else Ok (unwrap_or rake 0)

-- what is won of a pot, added to what was won before
unfoldable pub wins_said : List ℤ → ℕ → List PlainWin → Data → Result (List PlainWin) MemberFault
wins_said ids index earlier pot = do
  items ← required_value (of_pot index members.PlayerWins) pot
      >>= list_said (of_pot index members.PlayerWins)
  added_from (win_added ids index) earlier 0 items

-- the pots with one more, and what is won of it
unfoldable pub pot_added : List ℤ → PlainPots → ℕ → Data → Result PlainPots MemberFault
pot_added ids earlier index value = do
  pot ← object_said (of_pot index members.Itself) value
  amount ← amount_said earlier.pots index pot
  rake ← rake_said index pot
  won ← wins_said ids index earlier.wins pot
  Ok (record { pots = earlier.pots ++ record { amount = amount; rake = rake } ∷ []; wins = won })

-- what is stated of the pots: what each seat wins, their total, and the rakes
pub record PlainPaid : Type 0 where
  pub wins : Option (List ℕ)
  pub total : Option ℕ
  pub rakes : List ℕ

-- what pots state of a hand with this number of seats
abbrev pub paid_of : ℕ → PlainPots → PlainPaid
paid_of seats found =
    record {
      wins = Some (map (λ seat. won_by seat found.wins) (seats_of seats));
      total = Some (all_of found.pots);
      rakes = rakes_said found.pots;
    }

-- what is stated, as the definitions see it
abbrev pub plain_paid : Paid → PlainPaid
plain_paid paid =
    record { wins = option_map amounts_in paid.wins; total = paid.total; rakes = paid.rakes.rakes }

-- what is stated fits a hand with this number of seats, and is within the limit of stated amounts
pub record IsPaid (seats : ℕ) (paid : Paid) : Type 0 where
  pub wins : ForSome paid.wins (λ row. row.seats ≡ seats)
  pub total : ForSome paid.total (λ total. total ≤ MOST_AMOUNT)
  pub rakes : (pot : ℕ) → rake_of paid.rakes pot ≤ MOST_AMOUNT

-- no pots are stated, and no rake is taken
abbrev pub none_paid : PlainPaid
none_paid = record { wins = None; total = None; rakes = rakes_said [] }

-- what a list of pots states
unfoldable pub listed_paid : List ℤ → Data → Result PlainPaid MemberFault
listed_paid ids value = do
  items ← list_said paths.Pots value
  found ← added_from (pot_added ids) no_pots 0 items
  Ok (paid_of (length ids) found)

-- what is stated of the pots, if they are listed
unfoldable pub pots_said : List ℤ → Data → Result PlainPaid MemberFault
pots_said ids ohh =
    elim (member_at paths.Pots ohh) [ Some value ↦ listed_paid ids value | None ↦ Ok none_paid ]
