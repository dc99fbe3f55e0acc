-- At the end of a hand what each seat put in is within its stack, and together with what it has
-- left is its stack.
use Rattle.std.proofs.Common.{◌≡◌, ℕ, ◌+◌, ◌≤◌, List, reverse, ap, ◌∙◌, arith}
use Rattle.chip_ledger.specs.SeatRow.{amount_of}
use Rattle.play_event.specs.PlayedScript.{IsPlayed}
use Rattle.play_event.specs.declared.setup.Rules.{Rules}
use Rattle.play_event.specs.declared.setup.Setup.{Setup}
use Rattle.play_event.specs.Chips.{chips_put}
use Rattle.play_event.specs.Past.{moves_of}
use Rattle.play_event.specs.Said.{Said}
use Rattle.play_event.specs.Scripts.{past_at_end}
use Rattle.play_event.specs.ValidSetup.{IsValid}
use Rattle.play_event.proofs.ChipLaws.{put_and_left, puts_within}
use Rattle.replay_core.specs.declared.ending.HandAtEnd.{HandAtEnd}
use Rattle.replay_core.specs.AtEnd.{IsAtEnd}

module _ (setup : Setup) (rules : Rules) (script : List Said) (hand : HandAtEnd) (valid : IsValid setup) (played : IsPlayed setup rules script) (is : IsAtEnd setup (past_at_end setup script) hand) where
  pub put_within : (seat : ℕ) → 1 ≤ seat → seat ≤ setup.stacks.seats → amount_of hand.puts seat ≤ amount_of setup.stacks seat
  put_within seat low high = omega (arith, is.stakes.puts seat low high, puts_within setup rules (reverse script) valid.antes played.legal seat)

  pub ante_within : (seat : ℕ) → 1 ≤ seat → seat ≤ setup.stacks.seats → amount_of setup.antes seat ≤ amount_of hand.puts seat
  ante_within seat low high =
      let posts : amount_of setup.antes seat ≤ chips_put setup (moves_of (past_at_end setup script)) seat = omega arith in
      omega (arith, is.stakes.puts seat low high, posts)

  pub whole_stack : (seat : ℕ) → 1 ≤ seat → seat ≤ setup.stacks.seats → amount_of hand.puts seat + amount_of hand.left seat ≡ amount_of setup.stacks seat
  whole_stack seat low high =
      ap (λ n. n + amount_of hand.left seat) (is.stakes.puts seat low high)
      ∙ ap (λ n. chips_put setup (moves_of (past_at_end setup script)) seat + n) (is.left seat low high)
      ∙ put_and_left setup rules (reverse script) valid.antes played.legal seat
