-- A made setup is that of a hand.
use Rattle.std.proofs.Common.{◌≡◌, ℕ, zero, suc, ◌+◌, ◌≤◌, Bool, true, false, not, if◌then◌else◌, refl, ap, sym, subst, arith, inl, inr, ◌==◌}
use Rattle.std.proofs.lemmas.Bool.{cases_lt}
use Rattle.chip_ledger.specs.declared.seat_row.SeatRow.{SeatRow}
use Rattle.chip_ledger.specs.SeatRow.{amount_of}
use Rattle.play_event.specs.declared.code.Code.{Code}
use Rattle.play_event.specs.declared.code.Code.TheVariants as games
use Rattle.play_event.specs.declared.setup.Setup.{Setup}
use Rattle.play_event.specs.Games.{game_of}
use Rattle.play_event.specs.Streets.{is_stud_game, limit_of}
use Rattle.play_event.specs.ValidSetup.{IsSizeWhere, IsValid, is_fixed_limit}
use Rattle.hand_gen.specs.Draws.{number_after}
use Rattle.hand_gen.specs.Progress.{IsSmall}
use Rattle.hand_gen.specs.Setups.{IsMadeSetup, blind_in, blind_of, seats_drawn, stack_drawn}
use Rattle.card_set.proofs.Tests.{if_most}

-- each game has at least four seats
four_seats : (code : Code) → 4 ≤ (game_of code).seats
four_seats games.FT = omega arith
four_seats games.NT = omega arith
four_seats games.NS = omega arith
four_seats games.PO = omega arith
four_seats games.FO8 = omega arith
four_seats games.F7S = omega arith
four_seats games.F7S8 = omega arith
four_seats games.FR = omega arith
four_seats games.N2L1D = omega arith
four_seats games.F2L3D = omega arith
four_seats games.FB = omega arith

-- a size is used or not
size_where : (used : Bool) (chips : ℕ) → 1 ≤ chips → chips ≤ 4 → IsSizeWhere used (if used then chips else 0)
size_where true chips some few = (some, omega (arith, few))
size_where false chips some few = refl

size_else : (used : Bool) (chips : ℕ) → 1 ≤ chips → chips ≤ 4 → IsSizeWhere (not used) (if used then 0 else chips)
size_else true chips some few = refl
size_else false chips some few = (some, omega (arith, few))

-- few seats and chips are drawn
few_drawn : (number : ℕ) → seats_drawn number ≤ 4
few_drawn number = omega arith

some_stack : (number seat : ℕ) → 100 ≤ stack_drawn number seat
some_stack number seat = omega arith

few_chips : (number seat : ℕ) → stack_drawn number seat ≤ 500
few_chips number seat = omega arith

-- an amount of a row is that of a seat, or 0
any_seat : (row : SeatRow) (most : ℕ) → ((seat : ℕ) → 1 ≤ seat → seat ≤ row.seats → amount_of row seat ≤ most) → (seat : ℕ) → amount_of row seat ≤ most
any_seat row most each zero = each 1 (omega arith) (omega (arith, row.least))
any_seat row most each (suc n) =
    elim (cases_lt n row.seats) [
      | inl inside ↦ each (suc n) (omega arith) (omega (arith, inside))
      | inr past ↦ let none = row.filler n past in omega (arith, none)
    ]

few_by : (heads_up one two : Bool) → (if one then (if heads_up then 2 else 1) else if two then (if heads_up then 1 else 2) else 0) ≤ 2
few_by true true two = omega arith
few_by false true two = omega arith
few_by true false true = omega arith
few_by false false true = omega arith
few_by heads_up false false = omega arith

few_blinds : (seats seat : ℕ) → blind_of seats seat ≤ 2
few_blinds seats seat = few_by (seats == 2) (seat == 1) (seat == 2)

blind_few : (stud : Bool) (seats seat : ℕ) → (if stud then 0 else blind_of seats seat) ≤ 2
blind_few true seats seat = omega arith
blind_few false seats seat = few_blinds seats seat

two_blinds : (stud : Bool) → (if stud then 0 else blind_of 2 2) ≤ (if stud then 0 else blind_of 2 1)
two_blinds true = omega arith
two_blinds false = omega arith

no_blind : (stud : Bool) (seats seat : ℕ) → stud ≡ true → (if stud then 0 else blind_of seats seat) ≡ 0
no_blind true seats seat is = refl
no_blind false seats seat is = absurd cc

-- a made setup is valid
pub made_valid : (place number : ℕ) (setup : Setup) → IsMadeSetup place number setup → IsValid setup
made_valid place number setup made =
    let code : Code = setup.code in
    record {
      same_antes = made.same_antes;
      same_blinds = made.same_blinds;
      few_seats = omega (arith, made.seats, few_drawn number, four_seats code);
      stacks = λ seat first last. (
        omega (arith, made.stacks seat first last, some_stack number seat),
        omega (arith, made.stacks seat first last, few_chips number seat),
      );
      antes = λ seat. each_ante seat;
      blinds = λ seat. omega (arith, each_blind seat);
      bring_in = subst (IsSizeWhere (is_stud_game code)) (sym made.bring_in) (size_where (is_stud_game code) 1 (omega arith) (omega arith));
      small_bet = subst (IsSizeWhere (is_fixed_limit (limit_of code))) (sym made.small_bet) (size_where (is_fixed_limit (limit_of code)) 2 (omega arith) (omega arith));
      big_bet = subst (IsSizeWhere (is_fixed_limit (limit_of code))) (sym made.big_bet) (size_where (is_fixed_limit (limit_of code)) 4 (omega arith) (omega arith));
      least_bet = subst (IsSizeWhere (not (is_fixed_limit (limit_of code)))) (sym made.least_bet) (size_else (is_fixed_limit (limit_of code)) 2 (omega arith) (omega arith));
      dead_antes = λ dead. absurd (cc (dead, made.dead_antes));
      heads_up = λ two. omega (
        arith,
        made.blinds 2 (omega arith) (omega (arith, two)),
        made.blinds 1 (omega arith) (omega (arith, two)),
        ap (λ n. blind_in code n 2) two,
        ap (λ n. blind_in code n 1) two,
        two_blinds (is_stud_game code),
      );
      stud = λ stud seat. none_at stud seat;
      rakes = λ pot. omega (arith, made.rakes pot);
    }
  where
    each_ante : (seat : ℕ) → amount_of setup.antes seat ≤ amount_of setup.stacks seat
    each_ante zero = each_ante_at 1 (omega arith) (omega (arith, setup.stacks.least))
      where
        each_ante_at : (seat : ℕ) → 1 ≤ seat → seat ≤ setup.stacks.seats → amount_of setup.antes seat ≤ amount_of setup.stacks seat
        each_ante_at seat first last = omega (arith, made.antes seat first last, if_most (is_stud_game setup.code) 1, made.stacks seat first last, some_stack number seat)
    each_ante (suc n) =
        elim (cases_lt n setup.stacks.seats) [
          | inl inside ↦
              let first : 1 ≤ suc n = omega arith in
              let last : suc n ≤ setup.stacks.seats = omega (arith, inside) in
              omega (arith, made.antes (suc n) first last, if_most (is_stud_game setup.code) 1, made.stacks (suc n) first last, some_stack number (suc n))
          | inr past ↦ let none = setup.antes.filler n (omega (arith, past, made.same_antes)) in omega (arith, none)
        ]

    each_blind : (seat : ℕ) → amount_of setup.blinds seat ≤ 2
    each_blind seat = any_seat setup.blinds 2 (λ seat first last. omega (arith, made.blinds seat first (omega (arith, last, made.same_blinds)), blind_few (is_stud_game setup.code) setup.stacks.seats seat)) seat

    none_at : is_stud_game setup.code ≡ true → (seat : ℕ) → amount_of setup.blinds seat ≡ 0
    none_at stud seat =
        let few : amount_of setup.blinds seat ≤ 0 = any_seat setup.blinds 0 (λ seat first last. omega (arith, made.blinds seat first (omega (arith, last, made.same_blinds)), no_blind (is_stud_game setup.code) setup.stacks.seats seat stud)) seat in
        omega (arith, few)

-- and has few seats and chips
pub made_small : (place number : ℕ) (setup : Setup) → IsMadeSetup place number setup → IsSmall setup
made_small place number setup made =
    record {
      valid = made_valid place number setup made;
      few_seats = omega (arith, made.seats, few_drawn number);
      few_chips = any_seat setup.stacks 500 (λ seat first last. omega (arith, made.stacks seat first last, few_chips number seat));
      no_rakes = made.rakes;
    }

-- the generator's number after one draw and then more
pub behind_one : (count number : ℕ) → number_after (1 + count) number ≡ number_after count (number_after 1 number)
behind_one count number = let same : 1 + count ≡ suc count = omega arith in ap (λ n. number_after n number) same
