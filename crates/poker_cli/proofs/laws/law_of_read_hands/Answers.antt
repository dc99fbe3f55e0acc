use Rattle.poker_cli.proofs.ReadHands.{one_setup, read_spelled}
use Rattle.poker_cli.proofs.laws.law_of_read_hands.Goals as goal

pub returns : goal.returns
returns c = record { spelled = read_spelled; setup = one_setup }
