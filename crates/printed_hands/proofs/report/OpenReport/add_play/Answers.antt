-- One more hand.
use Rattle.std.proofs.Common.{◌≡◌, ℕ, ◌+◌, ◌-◌, ◌*◌, ◌≤◌, [], ◌∷◌, ◌++◌, map, length, length-append, refl, sym, ap, subst, ◌∙◌, arith}
use Rattle.std.specs.List.{AllByRecursion, range_with_len}
use Rattle.std.proofs.lemmas.List.{length-map, map-append}
use Rattle.first_fault.specs.declared.limits.TheConstants.{MOST_HANDS}
use Rattle.printed_hands.specs.Games.{AreFewSums, all_wanted, sums_of, with_hand}
use Rattle.printed_hands.specs.Report.{hand_of, seated_in}
use Rattle.printed_hands.specs.Tallies.{AreWithin, IsWithin, MOST_SEATS, named_tallies, tally_at, with_hands, with_play, with_seats}
use Rattle.printed_hands.proofs.Counted.{all_few_more, sums_more, wider_sums}
use Rattle.printed_hands.proofs.Within.{hands_more, next_seat, wider, within_row}
use Rattle.printed_hands.proofs.report.OpenReport.add_play.Goals as goal

pub overflow_add-number : goal.overflow_add-number
overflow_add-number c = omega (arith, c.requires.1.hands, c.requires.2)

pub loop-index-init : goal.loop-index-init
loop-index-init c =
    let same : length c.requires.0 * 10 ≡ (c.args.self.now.hands + 1 - 1) * 10 + 0 = omega (arith, c.requires.1.hands) in
    let play = c.args.play.now in
    let seats = play.trace.setup.stacks.seats in
    let all : seats - 0 ≡ seats = omega arith in
    record {
      rows = ap (λ (count : ℕ). with_seats (c.args.self.now.hands + 1) (named_tallies c.args.self.now.tallies.entries) (map (seated_in play) (range_with_len 1 count))) all;
      within = subst (λ (count : ℕ). AreWithin count (named_tallies c.args.self.now.tallies.entries)) same c.requires.1.within;
      tallied = c.requires.1.tallied;
      sums = refl;
    }

pub tally_seat-requires-clause-within : goal.tally_seat-requires-clause-within
tally_seat-requires-clause-within c =
    let so_many = (c.args.self.now.hands + 1 - 1) * 10 + c.loop-index.index in
    let few : so_many ≤ MOST_SEATS = omega (arith, c.requires.1.hands, c.requires.2, c.loop-index-test.true, c.args.play.now.trace.setup.stacks.greatest) in
    λ name. wider so_many MOST_SEATS (tally_at (named_tallies c.loop-index.self.tallies.entries) name) few (c.loop-index.invariant.within name)

pub loop-index-preserved : goal.loop-index-preserved
loop-index-preserved c =
    let play = c.args.play.now in
    let number = c.args.self.now.hands + 1 in
    let index = c.loop-index.index in
    let seats = play.trace.setup.stacks.seats in
    let rows = named_tallies c.loop-index.self.tallies.entries in
    let next : named_tallies c.tally_seat.new.tallies.entries ≡ with_play number rows (seated_in play (index + 1)) = c.in_ok-tally_seat.ensures.rows in
    let so_many : (number - 1) * 10 + index + 1 ≡ (number - 1) * 10 + (index + 1) = omega arith in
    let more = within_row number ((number - 1) * 10 + index) rows (seated_in play (index + 1)) (play.trace.setup.stacks.bounded (index + 1 - 1)) (play.trace.finish.bounded (index + 1 - 1)) c.loop-index.invariant.within in
    record {
      rows =
          ap (λ rows. with_seats number rows (map (seated_in play) (range_with_len (index + 1 + 1) (seats - (index + 1))))) next
          ∙ next_seat number rows (seated_in play) index seats c.loop-index-test.true
          ∙ c.loop-index.invariant.rows;
      within = λ name. subst (λ n. IsWithin n (tally_at (named_tallies c.tally_seat.new.tallies.entries) name)) so_many
          (subst (λ rows. IsWithin ((number - 1) * 10 + index + 1) (tally_at rows name)) (sym next) (more name));
      tallied = c.in_ok-tally_seat.ensures.tallied;
      sums = c.loop-index.invariant.sums;
    }

pub add_to_sums-requires : goal.add_to_sums-requires
add_to_sums-requires c =
    record {
      few = subst (AllByRecursion (AreFewSums (MOST_HANDS - 1))) (sym c.loop-index.invariant.sums)
          (wider_sums (length c.requires.0) (MOST_HANDS - 1) c.args.self.now.sums.items (omega (arith, c.requires.2)) c.requires.1.few);
    }

pub returns : goal.returns
returns c = λ before so_far.
    let play = c.args.play.now in
    let hand = hand_of play in
    let hands = map hand_of before in
    let number = c.args.self.now.hands + 1 in
    let index = c.loop-index.index in
    let seats = play.trace.setup.stacks.seats in
    let rows = named_tallies c.loop-index.self.tallies.entries in
    let inv = c.loop-index.invariant in
    let none_left : seats - index ≡ 0 = omega (arith, c.loop-index-test.false) in
    let tallies : rows ≡ with_seats number (named_tallies c.args.self.now.tallies.entries) hand.seats =
    ap (λ (count : ℕ). with_seats number rows (map (seated_in play) (range_with_len (index + 1) count))) (sym none_left) ∙ inv.rows in
    let more : map hand_of (before ++ play ∷ []) ≡ hands ++ hand ∷ [] = map-append hand_of before (play ∷ []) in
    let many : length hands ≡ length before = length-map before hand_of in
    let one_more : length (before ++ play ∷ []) ≡ length before + 1 = length-append before (play ∷ []) in
    let here : number ≡ 1 + length hands = omega (arith, so_far.hands, many) in
    let all : number ≡ length (before ++ play ∷ []) = omega (arith, so_far.hands, one_more) in
    let so_many : (number - 1) * 10 + index ≤ length (before ++ play ∷ []) * 10 = omega (arith, all, c.loop-index.auto.index-end, play.trace.setup.stacks.greatest) in
    record {
      tallied = inv.tallied;
      rows =
          tallies
          ∙ ap (λ rows. with_seats number rows hand.seats) so_far.rows
          ∙ ap (λ (n : ℕ). with_seats n (with_hands 1 [] hands) hand.seats) here
          ∙ sym (hands_more 1 [] hands hand)
          ∙ ap (with_hands 1 []) (sym more);
      within = λ name. wider ((number - 1) * 10 + index) (length (before ++ play ∷ []) * 10) (tally_at rows name) so_many (inv.within name);
      sums =
          c.add_to_sums.ensures.added
          ∙ ap (map (with_hand hand)) (inv.sums ∙ so_far.sums)
          ∙ sums_more hands hand all_wanted
          ∙ ap (λ some. map (sums_of some) all_wanted) (sym more);
      few =
          subst (λ (count : ℕ). AllByRecursion (AreFewSums count) c.add_to_sums.new.sums.items) (sym one_more)
          (subst (AllByRecursion (AreFewSums (length before + 1))) (sym c.add_to_sums.ensures.added)
          (all_few_more (length before) hand c.loop-index.self.sums.items c.add_to_sums.ensures.bounded (subst (AllByRecursion (AreFewSums (length before))) (sym inv.sums) so_far.few)));
      hands = all;
    }
