use Rattle.std.proofs.Common.{◌≡◌, ℕ, Bool, ◌&&◌, not, nat_lt, List, map, refl, sym, ap, ◌∙◌, arith}
use Rattle.std.proofs.lemmas.Bool.{and_parts}
use Rattle.std.specs.List.{list_any}
use Rattle.chip_ledger.proofs.SeatLists.{any_seats}
use Rattle.chip_ledger.specs.Seat.{seats_of}
use Rattle.chip_ledger.specs.SeatRow.{amount_of, amounts_in}
use Rattle.ohh_rounds.specs.PostRules.{has_all_antes}
use Rattle.ohh_rounds.specs.Posts.{PlainPost, plain_post}
use Rattle.ohh_rounds.specs.AntesAndBlinds.{PlainAntesAndBlinds, antes_and_blinds_said, held_ante, named_blind}
use Rattle.ohh_rounds.specs.NamedBlinds.{PlainNamedBlinds, plain_named_blinds, seat_count}
use Rattle.ohh_rounds.proofs.Stacks.{seats_in}
use Rattle.ohh_rounds.proofs.antes_and_blinds.AntesAndBlinds.of.Goals as goal
use Rattle.chip_ledger.proofs.RowLists.{row_listed}

same_stakes : (a b : List ℕ) (dead other : Bool) (x y : List ℕ) → a ≡ b → dead ≡ other → x ≡ y → ◌≡◌ {A = PlainAntesAndBlinds} (record { antes = a; dead_antes = dead; blinds = x }) (record { antes = b; dead_antes = other; blinds = y })
same_stakes a b dead other x y antes is blinds =
    ap (λ list. record { antes = list; dead_antes = dead; blinds = x }) antes
    ∙ ap (λ flag. record { antes = b; dead_antes = flag; blinds = x }) is
    ∙ ap (λ list. record { antes = b; dead_antes = other; blinds = list }) blinds

pub returns-clause-said : goal.returns-clause-said
unfolding antes_and_blinds_said
returns-clause-said c =
    let table = c.args.table.now in
    let posts = map plain_post c.args.posts.now in
    let first = c.of-firsts.ensures in
    let antes = c.antes_of-antes.ensures in
    let blinds = c.blinds_of.ensures in
    let count = seats_in table.stacks.amounts table.stacks.seats table.stacks.full table.stacks.greatest in
    same_stakes
    (amounts_in c.antes_of-antes.result) (map (held_ante (plain_named_blinds table) posts) (seats_of (seat_count (plain_named_blinds table))))
    c.has_dead_antes.result (list_any (λ seat. nat_lt 0 (held_ante (plain_named_blinds table) posts seat)) (seats_of (seat_count (plain_named_blinds table))) && not (has_all_antes (plain_named_blinds table) posts))
    (amounts_in c.blinds_of.result) (map (named_blind (plain_named_blinds table) posts) (seats_of (seat_count (plain_named_blinds table))))
    (row_listed (held_ante (plain_named_blinds table) posts) c.antes_of-antes.result (seat_count (plain_named_blinds table)) (antes.seats ∙ sym count) (λ seat from to. antes.antes posts first seat from (omega (arith, to, count))))
    (c.has_dead_antes.ensures posts first
    ∙ ap (λ n. list_any (λ seat. nat_lt 0 (amount_of c.antes_of-antes.result seat)) (seats_of n) && not (has_all_antes (plain_named_blinds table) posts)) (antes.seats ∙ sym count)
    ∙ ap (λ some. some && not (has_all_antes (plain_named_blinds table) posts)) (any_seats (λ seat. nat_lt 0 (amount_of c.antes_of-antes.result seat)) (λ seat. nat_lt 0 (held_ante (plain_named_blinds table) posts seat)) (seat_count (plain_named_blinds table)) (λ seat from to. ap (λ n. nat_lt 0 n) (antes.antes posts first seat from (omega (arith, to, count))))))
    (row_listed (named_blind (plain_named_blinds table) posts) c.blinds_of.result (seat_count (plain_named_blinds table)) (blinds.seats ∙ sym count) (λ seat from to. blinds.blinds posts first seat from (omega (arith, to, count))))

-- with two seats the second has the small blind, and the first the big one
small_of_two : (table : PlainNamedBlinds) (posts : List PlainPost) → seat_count table ≡ 2 → named_blind table posts 2 ≡ table.small_blind
small_of_two table posts two = rw two refl

big_of_two : (table : PlainNamedBlinds) (posts : List PlainPost) → seat_count table ≡ 2 → named_blind table posts 1 ≡ table.big_blind
big_of_two table posts two = rw two refl

pub returns-clause-fit : goal.returns-clause-fit
returns-clause-fit c =
    let table = c.args.table.now in
    let posts = map plain_post c.args.posts.now in
    let first = c.of-firsts.ensures in
    let antes = c.antes_of-antes.ensures in
    let blinds = c.blinds_of.ensures in
    let count = seats_in table.stacks.amounts table.stacks.seats table.stacks.full table.stacks.greatest in
    record {
      same_antes = antes.seats;
      same_blinds = blinds.seats;
      antes = antes.most;
      blinds = blinds.most;
      dead_antes = λ is.
          ap (λ n. list_any (λ seat. nat_lt 0 (amount_of c.antes_of-antes.result seat)) (seats_of n)) (sym antes.seats)
          ∙ (and_parts (list_any (λ seat. nat_lt 0 (amount_of c.antes_of-antes.result seat)) (seats_of c.antes_of-antes.result.seats)) (not (has_all_antes (plain_named_blinds table) posts)) (sym (c.has_dead_antes.ensures posts first) ∙ is)).0;
      heads_up = λ two.
          omega (arith, blinds.blinds posts first 2 (omega arith) (omega (arith, two)), blinds.blinds posts first 1 (omega arith) (omega (arith, two)), small_of_two (plain_named_blinds table) posts (count ∙ two), big_of_two (plain_named_blinds table) posts (count ∙ two), table.smaller);
    }
