use Rattle.std.proofs.Common.{◌∷◌, [], length, map, sum_by, refl, ap, ◌∙◌, arith, rules, length-append}
use Rattle.std.proofs.lemmas.List.{length-map, map_push}
use Rattle.std.proofs.lemmas.List.Sums.{sum_by_push}
use Rattle.toml_parser.specs.Lexical.{skip_blank}
use Rattle.toml.specs.Parse.{skip_bom}
use Rattle.card_set.proofs.Entries.{all_push}
use Rattle.hand_canon.specs.Histories.{IsHistory}
use Rattle.hand_canon.specs.Moves.{moves_of}
use Rattle.hand_canon.specs.PlainHands.{plain}
use Rattle.phh_reading.proofs.InTurn.{left_at_start, left_after, nothing_left, shorter}
use Rattle.phh_reading.proofs.by_table.read_by_table.Goals as goal

pub loop-rest-init : goal.loop-rest-init
loop-rest-init c =
    let none = c.new-records.ensures in
    record {
      utf8 = search rules;
      few = rw none (omega arith);
      moves = rw none refl;
      limit = omega arith;
      least = omega arith;
      sound = rw none tt;
      left = rw (none, c.first_line-rest.ensures) (left_at_start (skip_blank (skip_bom c.args.text.now)));
    }

pub loop-rest-preserved : goal.loop-rest-preserved
loop-rest-preserved c =
    let l = c.loop-rest in
    let inv = l.invariant in
    let next = rw c.in-Some.is at c.in_ok-found.ensures.next in
    let said = rw c.in-Some.is at c.in_ok-found.ensures.said in
    let place = rw c.in-Some.is at c.in_ok-found.ensures.place in
    let number = rw c.in-Some.is at c.in_ok-found.ensures.number in
    let pushed = c.in_ok-push.ensures.pushed in
    let hand = c.in-Some.found.0 in
    record {
      utf8 = search rules;
      few = omega (arith, ap length pushed, length-append l.records (hand ∷ []), place, c.len.ensures);
      moves = ap (sum_by moves_of) pushed ∙ omega (arith, sum_by_push moves_of l.records hand, inv.moves, next.moves);
      limit = next.few;
      least = omega (arith, number);
      sound = rw pushed (all_push IsHistory l.records hand inv.sound next.sound);
      left = rw (pushed, map_push plain l.records hand) (left_after (skip_blank (skip_bom c.args.text.now)) _ _ _ _ _ _ _ (map plain l.records) (plain hand) said (omega (arith, c.len.ensures, length-map l.records plain)) inv.left);
    }

pub loop-rest-smaller : goal.loop-rest-smaller
loop-rest-smaller c =
    let said = rw c.in-Some.is at c.in_ok-found.ensures.said in
    shorter _ _ _ _ _ _ _ said

pub returns-clause-said : goal.returns-clause-said
returns-clause-said c =
    let l = c.loop-rest in
    nothing_left c.args.text.now l.rest.now l.least l.file_moves (map plain l.records) (search rules) l.invariant.left
