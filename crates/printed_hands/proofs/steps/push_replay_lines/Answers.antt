-- A sound play has its trace.
use Rattle.printed_hands.proofs.steps.push_replay_lines.Goals as goal

pub push_whole_lines-requires-clause-traced : goal.push_whole_lines-requires-clause-traced
push_whole_lines-requires-clause-traced c = record { legal = c.play-play.ensures.sound.legal; whole = c.play-play.ensures.sound.trace }
