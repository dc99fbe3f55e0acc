use Rattle.play_event.proofs.PlayerToActLaws.{player_to_act_has_to_move, player_to_act_can_act}
use Rattle.play_event.proofs.laws.law_of_movers.Goals as goal

pub returns-clause-has_to_move : goal.returns-clause-has_to_move
returns-clause-has_to_move c = player_to_act_has_to_move

pub returns-clause-can_act : goal.returns-clause-can_act
returns-clause-can_act c = player_to_act_can_act
