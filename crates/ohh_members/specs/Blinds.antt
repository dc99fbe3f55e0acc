-- The blinds of a hand, and the antes as far as they are stated beside the posts.
use Rattle.std.specs.Prelude.{ℕ, ◌*◌, Bool, ◌&&◌, nat_lt, if◌then◌else◌, Result, Ok}
use Rattle.serde_json.specs.Data.{Data}
use Rattle.chip_ledger.specs.declared.numbers.TheConstants.{MOST_CHIPS}
use Rattle.play_event.specs.declared.code.Code.{Code}
use Rattle.play_event.specs.Streets.{limit_of}
use Rattle.play_event.specs.ValidSetup.{is_fixed_limit}
use Rattle.first_fault.specs.Reading.{◌>>=◌, read_if}
use Rattle.ohh_members.specs.declared.blinds.Blinds.{Blinds}
use Rattle.ohh_members.specs.declared.fault.MemberFaultKind.TheVariants as whats
use Rattle.ohh_members.specs.declared.fault.Path.{Path}
use Rattle.ohh_members.specs.declared.fault.Path.TheVariants as paths
use Rattle.ohh_members.specs.declared.fault.MemberFault.{MemberFault}
use Rattle.ohh_members.specs.Values.{wrong, member_at, required_value, number_said}

-- the game is played in fixed limit
abbrev pub is_fixed_game : Code → Bool
is_fixed_game code = is_fixed_limit (limit_of code)

-- the small blind is at most the big one, and in fixed limit the big bet, twice the big blind, is
-- within the limit of amounts
unfoldable pub fitting : Code → ℕ → ℕ → Result Blinds MemberFault
fitting code small big =
    if nat_lt big small then wrong whats.BadPost paths.SmallBlindAmount
    else if is_fixed_game code && nat_lt MOST_CHIPS (2 * big)
    then wrong whats.AmountLimit paths.BigBlindAmount
    else Ok (record { small = small; big = big })

-- a blind of at least 1
abbrev pub blind_said : Path → Data → Result ℕ MemberFault
blind_said path ohh = required_value path ohh >>= number_said 1 MOST_CHIPS path

-- the blinds; the ante is only checked for its form
unfoldable pub blinds_said : Code → Data → Result Blinds MemberFault
blinds_said code ohh = do
  ante ← read_if (number_said 0 MOST_CHIPS paths.AnteAmount) (member_at paths.AnteAmount ohh)
  small ← blind_said paths.SmallBlindAmount ohh
  big ← blind_said paths.BigBlindAmount ohh
  fitting code small big
