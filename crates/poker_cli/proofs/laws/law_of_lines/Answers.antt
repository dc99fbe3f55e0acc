use Rattle.std.proofs.Common.{◌≡◌, ◌∙◌, List, length, sym}
use Rattle.std.proofs.lemmas.List.{length-map}
use Rattle.std.proofs.lemmas.Result.{IfOk-at_ok}
use Rattle.acpc_reading.proofs.HandLines as in_log
use Rattle.acpc_reading.specs.Begins.{hand_lines}
use Rattle.acpc_reading.specs.Logs.{HandSaid}
use Rattle.acpc_reading.specs.RecordView.{record_said}
use Rattle.hand_canon.specs.PlainHands.{PlainHand, plain}
use Rattle.ohh_reading.proofs.BlockLines as in_blocks
use Rattle.ohh_reading.specs.Begins.{block_lines}
use Rattle.poker_cli.proofs.laws.law_of_lines.Goals as goal

pub returns : goal.returns
returns c = record {
  log = λ game bytes records say.
      sym (IfOk-at_ok (λ (hands : List HandSaid). length hands ≡ length (hand_lines bytes)) say.reads (in_log.hands_have_lines game bytes))
      ∙ length-map records record_said;
  blocks = λ dialect bytes records say.
      sym (IfOk-at_ok (λ (hands : List PlainHand). length hands ≡ length (block_lines bytes)) say.reads (in_blocks.hands_have_lines dialect bytes))
      ∙ length-map records plain;
}
