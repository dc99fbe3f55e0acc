use Rattle.std.proofs.Common.{◌∷◌, [], length, map, sum_by, sym, ap, ◌∙◌, arith, length-append}
use Rattle.std.proofs.lemmas.List.{map_push}
use Rattle.std.proofs.lemmas.List.Sums.{sum_by_push}
use Rattle.std.proofs.lemmas.Result.{err_from_is_err_and}
use Rattle.toml.specs.View.{table_view}
use Rattle.first_fault.proofs.Thread.{threads_on, thread_done}
use Rattle.phh_reading.specs.Reading.{hands_said, numbered_hand, wrong_of}
use Rattle.phh_reading.proofs.Refused.{hand_refused}
use Rattle.phh_reading.proofs.file.read_tables.Goals as goal
use Rattle.card_set.proofs.Entries.{all_push}
use Rattle.hand_canon.specs.Histories.{IsHistory}
use Rattle.hand_canon.specs.Moves.{moves_of}
use Rattle.hand_canon.specs.PlainHands.{plain}

pub returns-in_err-record-clause-said : goal.returns-in_err-record-clause-said
returns-in_err-record-clause-said c =
    let p = err_from_is_err_and c.from_residual.result c.from_residual.ensures.1 in
    let l = c.loop-index in
    rw (p.1, p.2) (hand_refused (λ hand. table_view hand.now) numbered_hand (wrong_of c.in_err-record.field-0.0) (map plain l.records) l.file_moves c.args.tables.now l.index c.index-tables-index.result (hands_said (map (λ hand. table_view hand.now) c.args.tables.now)) c.loop-index-test.true (sym c.index-tables-index.is) c.in_err-record.ensures.said l.invariant.read)

pub loop-index-preserved : goal.loop-index-preserved
loop-index-preserved c =
    let l = c.loop-index in
    let inv = l.invariant in
    let record_read = c.in_ok-record.record in
    let pushed = c.in_ok-push.ensures.pushed in
    record {
      count = ap length pushed ∙ omega (arith, inv.count, length-append l.records (record_read ∷ []));
      few = c.in_ok-record.ensures.number;
      moves = ap (sum_by moves_of) pushed ∙ omega (arith, sum_by_push moves_of l.records record_read, inv.moves, c.in_ok-record.ensures.next.moves);
      limit = c.in_ok-record.ensures.next.few;
      sound = rw pushed (all_push IsHistory l.records record_read inv.sound c.in_ok-record.ensures.next.sound);
      read = rw (pushed, map_push plain l.records record_read) (threads_on (λ hand. table_view hand.now) numbered_hand (map plain l.records) l.file_moves c.in_ok-record.moves c.args.tables.now l.index c.index-tables-index.result (plain record_read ∷ []) (hands_said (map (λ hand. table_view hand.now) c.args.tables.now)) c.loop-index-test.true (sym c.index-tables-index.is) c.in_ok-record.ensures.said inv.read);
    }

pub returns-clause-said : goal.returns-clause-said
returns-clause-said c = let l = c.loop-index in thread_done (λ hand. table_view hand.now) numbered_hand (map plain l.records) l.file_moves c.args.tables.now l.index (hands_said (map (λ hand. table_view hand.now) c.args.tables.now)) c.loop-index-test.false l.invariant.read
