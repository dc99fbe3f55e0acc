-- The streets one after another, then the showdown, and few enough events that each has its number.
use Rattle.std.proofs.Common.{◌≡◌, ◌≤◌, ◌∙◌, ◌++◌, ℕ, ap, arith, length, sym, List, ◌+◌}
use Rattle.std.specs.List.{flat_map}
use Rattle.std.proofs.lemmas.List.{length-map}
use Rattle.chip_ledger.specs.Seat.{seats_of}
use Rattle.play_event.specs.Games.{street_count}
use Rattle.play_event.specs.Said.{Said, said_of}
use Rattle.play_event.specs.CanonScript.{canonical_script, deals_said, discards_said, moves_named, plain_moves, showdown_said, street_said}
use Rattle.hand_canon.specs.RowTests.{said_on}
use Rattle.hand_canon.specs.TraceRows.{core_said}
use Rattle.hand_canon.specs.SaidSoFar.{words_of}
use Rattle.hand_canon.proofs.MoveRows.{moves_are}
use Rattle.hand_canon.proofs.OneByOne.{flat_more}
use Rattle.card_set.proofs.Lists.{same_behind, two_behind}
use Rattle.hand_canon.proofs.ShortScripts.{canon_short, numbers_are}
use Rattle.hand_canon.proofs.StreetRows.{streets_few}
use Rattle.hand_canon.proofs.canonical.canon.Goals as goal

pub loop-index-preserved : goal.loop-index-preserved
loop-index-preserved c =
    let core = core_said c.args.trace.now in
    let street : ℕ → List Said = street_said c.args.trace.now.setup core.places (plain_moves core.moves) in
    let at = c.loop-index.index + 1 in
    let discards : List Said = discards_said c.args.trace.now.setup core.places (plain_moves core.moves) at in
    let deals : List Said = deals_said c.args.trace.now.setup core.places at in
    let moves : List Said = moves_named (plain_moves core.moves) at in
    let old : List Said = words_of c.loop-index.written in
    let first : List Said = words_of c.write_discards.new.written in
    let second : List Said = words_of c.write_deals.new.written in
    let third : List Said = words_of c.write_moves.new.written in
    let same = ap (flat_map (said_on at)) c.as_slice.ensures ∙ sym (moves_are at c.args.trace.now.moves) in
    let written = two_behind old first third discards (deals ++ moves) c.in_ok-write_discards.ensures
    (two_behind first second third deals moves c.in_ok-write_deals.ensures
    (same_behind third second (flat_map (said_on at) c.as_slice.result.now) moves same c.in_ok-write_moves.ensures)) in
    written ∙ ap (λ l. l ++ street (c.loop-index.index + 1)) c.loop-index.invariant ∙ sym (flat_more street c.loop-index.index)

pub returns-clause-said : goal.returns-clause-said
unfolding canonical_script
returns-clause-said c =
    let core = core_said c.args.trace.now in
    let street : ℕ → List Said = street_said c.args.trace.now.setup core.places (plain_moves core.moves) in
    let showdown : List Said = showdown_said c.args.trace.now.setup core.places (plain_moves core.moves) core.shown in
    let all : c.loop-index.index ≡ street_count c.args.trace.now.setup.code = omega (arith, c.loop-index-test.false, c.loop-index.auto.index-end, c.count_streets-index-end.ensures) in
    c.in_ok-write_showdown.ensures ∙ ap (λ l. l ++ showdown) (c.loop-index.invariant ∙ ap (λ n. flat_map street (seats_of n)) all)

pub returns-clause-numbered : goal.returns-clause-numbered
unfolding canonical_script
returns-clause-numbered c =
    let core = core_said c.args.trace.now in
    let street : ℕ → List Said = street_said c.args.trace.now.setup core.places (plain_moves core.moves) in
    let showdown : List Said = showdown_said c.args.trace.now.setup core.places (plain_moves core.moves) core.shown in
    let all : c.loop-index.index ≡ street_count c.args.trace.now.setup.code = omega (arith, c.loop-index-test.false, c.loop-index.auto.index-end, c.count_streets-index-end.ensures) in
    let said : words_of c.write_showdown.new.written ≡ canonical_script c.args.trace.now.setup core = c.in_ok-write_showdown.ensures ∙ ap (λ l. l ++ showdown) (c.loop-index.invariant ∙ ap (λ n. flat_map street (seats_of n)) all) in
    let script = c.write_showdown.new.written.script in
    let short : length (canonical_script c.args.trace.now.setup core) ≤ 1049845 = canon_short c.args.trace.now.setup core (let few = streets_few c.args.trace.now.setup.code in omega (arith, few)) c.requires.moves_few in
    c.write_showdown.new.written.numbered ∙ numbers_are 1 (length script) (omega (arith, short, ap length said, length-map script said_of))
