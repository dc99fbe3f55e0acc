-- One more letter.
use Rattle.std.proofs.Common.{map, take, sym, refl, arith}
use Rattle.play_event.specs.CanonScript.{plain_moves}
use Rattle.play_event.specs.Played.{move_said}
use Rattle.acpc_format.specs.Betting.{letters_on}
use Rattle.acpc_format.proofs.Letters.{may_add, put_next}
use Rattle.acpc_view.proofs.LineLengths.{letter_sum}
use Rattle.acpc_view.proofs.counting.letters_len.Goals as goal

pub loop-played-init : goal.loop-played-init
unfolding letters_on
loop-played-init c = record { put = c.posted_chips-put.ensures; counted = refl; few = omega arith }

pub add-requires : goal.add-requires
add-requires c =
    may_add c.args.setup.now c.loop-played.played-index c.args.moves.now c.played-item.result c.loop-played.put c.loop-played-test.true (sym c.played-item.is) c.requires.chips c.loop-played.invariant.put

pub loop-played-preserved : goal.loop-played-preserved
loop-played-preserved c =
    let setup = c.args.setup.now in
    let has = c.add.ensures setup (plain_moves (map move_said (take c.loop-played.played-index c.args.moves.now))) c.loop-played.invariant.put in
    record {
      put = put_next setup c.loop-played.played-index c.args.moves.now c.played-item.result c.add.new.put c.loop-played-test.true (sym c.played-item.is) has;
      counted = letter_sum c.args.no_limit setup c.args.street c.loop-played.played-index c.args.moves.now c.played-item.result c.add.new.put c.loop-played.all c.letter_len_on-all.result c.loop-played-test.true (sym c.played-item.is)
          has c.loop-played.invariant.counted c.letter_len_on-all.ensures.value;
      few = omega (arith, c.loop-played.invariant.few, c.letter_len_on-all.ensures.few);
    }
