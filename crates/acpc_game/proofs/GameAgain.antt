-- A written game reads back as the same game.
use Rattle.std.proofs.Common.{◌≡◌, ℕ, Bool, true, false, not, ◌&&◌, ◌||◌, ◌==◌, nat_le, nat_lt, eqb, List, [], ◌∷◌, length, Option, Some, None, IfSome, Result, Ok, refl, sym, ap, ◌∙◌, arith, ◌<◌, ◌^◌, get_or}
use Rattle.std.proofs.lemmas.Bool.{and_parts, eqb-true, eq-eqb, le-leb}
use Rattle.std.proofs.lemmas.Bool.Decides.{nat_tests}
use Rattle.chip_ledger.specs.Greatest.{greatest}
use Rattle.chip_ledger.specs.declared.numbers.TheConstants.{MOST_CHIPS}
use Rattle.first_fault.specs.Reading.{◌>>=◌}
use Rattle.acpc_game.specs.Parts.{lines_of}
use Rattle.acpc_game.specs.declared.fault.AcpcFault.{AcpcFault}
use Rattle.acpc_game.specs.GameFile.{GameSaid, first_player, first_unsupported, game_or_fault, game_of_entries, game_said, has_short_stack, is_reversed, is_complete}
use Rattle.acpc_game.specs.GameEntries.{EntrySaid, entries_in, says_no_limit}
use Rattle.acpc_game.specs.GameText.{game_text}
use Rattle.acpc_game.specs.Games.{has_fitting_sizes}
use Rattle.acpc_game.specs.Keys.{is_word}
use Rattle.acpc_game.specs.SaidGames.{IsGame, are_caps}
use Rattle.acpc_game.specs.GameView.{game_in}
use Rattle.acpc_game.specs.declared.game.Game.{Game}
use Rattle.chip_ledger.specs.SeatRow.{amounts_in}
use Rattle.std.proofs.lemmas.List.{length-take-le}
use Rattle.acpc_game.proofs.GameLines.{game_is, game_lines, lines_read}
use Rattle.acpc_game.proofs.WrittenLines.{entries_again, entries_from, lines_again, may_follow, text_of, texts_of}

-- a game of these parts
abbrev game_of_parts : Bool → List ℕ → List ℕ → ℕ → ℕ → Option (List ℕ) → GameSaid
game_of_parts no_limit stacks blinds small big caps = record { no_limit = no_limit; stacks = stacks; blinds = blinds; small_raise = small; big_raise = big; caps = caps }

-- each key is allowed where it is written
follow : (no_limit : Bool) (stacks blinds : List ℕ) (small big : ℕ) (caps : Option (List ℕ)) → may_follow [] 1 (game_lines (game_of_parts no_limit stacks blinds small big caps)) ≡ true
follow true stacks blinds small big None = refl
follow true stacks blinds small big (Some caps) = refl
follow false stacks blinds small big None = refl
follow false stacks blinds small big (Some caps) = refl

-- a line says that the game is no-limit if it is
kind_again : (no_limit : Bool) (stacks blinds : List ℕ) (small big : ℕ) (caps : Option (List ℕ)) → says_no_limit (texts_of (game_lines (game_of_parts no_limit stacks blinds small big caps))) ≡ no_limit
unfolding is_word
kind_again true stacks blinds small big None = refl
kind_again true stacks blinds small big (Some caps) = refl
kind_again false stacks blinds small big None = refl
kind_again false stacks blinds small big (Some caps) = refl

-- the entries of a game
abbrev said : Bool → List ℕ → List ℕ → ℕ → ℕ → Option (List ℕ) → List EntrySaid
said no_limit stacks blinds small big caps = entries_from 1 (game_lines (game_of_parts no_limit stacks blinds small big caps))

-- nothing is missing
whole : (no_limit : Bool) (stacks blinds : List ℕ) (small big : ℕ) (caps : Option (List ℕ)) → eqb (length blinds) (length stacks) ≡ true → eqb (length stacks) (length stacks) ≡ true
    → is_complete (said no_limit stacks blinds small big caps) ≡ true
unfolding is_complete
whole true stacks blinds small big None same self = rw (same, self) refl
whole true stacks blinds small big (Some caps) same self = rw (same, self) refl
whole false stacks blinds small big None same self = rw (same, self) refl
whole false stacks blinds small big (Some caps) same self = rw (same, self) refl

-- the facts of the rows that are tested
record Tested (stacks blinds : List ℕ) : Type 0 where
  least : nat_le 2 (length stacks) ≡ true
  most : nat_le (length stacks) 10 ≡ true
  stacked : has_short_stack stacks blinds ≡ false
  in_order : is_reversed blinds ≡ false
  first : eqb (first_player blinds) (first_player blinds) ≡ true

-- the facts of the sizes that are tested
record Sized (no_limit : Bool) (blind small big : ℕ) : Type 0 where
  some_blind : no_limit && blind == 0 ≡ false
  sizes : not no_limit && not ((nat_le 1 small && small == small) && (nat_le 1 big && big == big)) ≡ false
  first_size : not no_limit && (nat_lt 0 blind && nat_lt blind small) ≡ false

played : (no_limit : Bool) (stacks blinds : List ℕ) (small big : ℕ) (caps : Option (List ℕ)) → Tested stacks blinds → Sized no_limit (greatest blinds) small big
    → first_unsupported (said no_limit stacks blinds small big caps) ≡ None
unfolding first_unsupported
played true stacks blinds small big None rows sized = rw (rows.least, rows.most, rows.stacked, rows.in_order, rows.first, sized.some_blind) refl
played true stacks blinds small big (Some caps) rows sized = rw (rows.least, rows.most, rows.stacked, rows.in_order, rows.first, sized.some_blind) refl
played false stacks blinds small big None rows sized = rw (rows.least, rows.most, rows.stacked, rows.in_order, rows.first, sized.sizes, sized.first_size) refl
played false stacks blinds small big (Some caps) rows sized = rw (rows.least, rows.most, rows.stacked, rows.in_order, rows.first, sized.sizes, sized.first_size) refl

sized_by : (no_limit : Bool) (blind small big : ℕ) → has_fitting_sizes no_limit blind small big ≡ true → Sized no_limit blind small big
sized_by true blind small big fits =
    let some : nat_lt 0 blind ≡ true = (and_parts (nat_lt 0 blind) (small == 0 && big == 0) fits).0 in
    record { some_blind = grind (arith, nat_tests, some); sizes = refl; first_size = refl }
sized_by false blind small big fits =
    let one = and_parts (nat_le 1 small && nat_le small MOST_CHIPS) ((nat_le 1 big && nat_le big MOST_CHIPS) && (blind == 0 || nat_le small blind)) fits in
    let other = and_parts (nat_le 1 big && nat_le big MOST_CHIPS) (blind == 0 || nat_le small blind) one.1 in
    let some = (and_parts (nat_le 1 small) (nat_le small MOST_CHIPS) one.0).0 in
    let some_big = (and_parts (nat_le 1 big) (nat_le big MOST_CHIPS) other.0).0 in
    let first : (blind == 0 || nat_le small blind) ≡ true = other.1 in
    record {
      some_blind = refl;
      sizes = rw (some, some_big, eq-eqb small small refl, eq-eqb big big refl) refl;
      first_size = grind (arith, nat_tests, first);
    }

-- the entries say the game
same_game : (no_limit : Bool) (stacks blinds : List ℕ) (small big : ℕ) (caps : Option (List ℕ)) → has_fitting_sizes no_limit (greatest blinds) small big ≡ true
    → game_of_entries (said no_limit stacks blinds small big caps) ≡ game_of_parts no_limit stacks blinds small big caps
same_game false stacks blinds small big None fits = refl
same_game false stacks blinds small big (Some caps) fits = refl
same_game true stacks blinds small big caps fits =
    let none = and_parts (nat_lt 0 (greatest blinds)) (small == 0 && big == 0) fits in
    let each = and_parts (small == 0) (big == 0) none.1 in
    rw (eqb-true small 0 each.0, eqb-true big 0 each.1) (unlimited caps)
  where
    unlimited : (caps : Option (List ℕ)) → game_of_entries (said true stacks blinds 0 0 caps) ≡ game_of_parts true stacks blinds 0 0 caps
    unlimited None = refl
    unlimited (Some caps) = refl

at_end : (count : ℕ) (entries : List EntrySaid) → is_complete entries ≡ true → first_unsupported entries ≡ None → game_or_fault count entries ≡ Ok (game_of_entries entries)
unfolding game_or_fault
at_end count entries is none = rw (is, none) refl

-- the outcome of the lines of a limit or no-limit game
abbrev outcome : Bool → List (List ℕ) → Result GameSaid AcpcFault
outcome no_limit texts = entries_in no_limit texts >>= λ found. game_or_fault found.1 found.0

lines_said : (no_limit : Bool) (texts : List (List ℕ)) (bytes : List ℕ) → lines_of bytes ≡ texts → says_no_limit texts ≡ no_limit → game_said bytes ≡ outcome no_limit texts
unfolding game_said
lines_said no_limit texts bytes lines kind = ap (λ (texts : List (List ℕ)). outcome (says_no_limit texts) texts) lines ∙ ap (λ b. outcome b texts) kind

parts_again : (no_limit : Bool) (stacks blinds : List ℕ) (small big : ℕ) (caps : Option (List ℕ)) → IsGame (game_of_parts no_limit stacks blinds small big caps)
    → game_said (game_text (game_of_parts no_limit stacks blinds small big caps)) ≡ Ok (game_of_parts no_limit stacks blinds small big caps)
parts_again no_limit stacks blinds small big caps is =
    let game = game_of_parts no_limit stacks blinds small big caps in
    let lines = game_lines game in
    let entries = said no_limit stacks blinds small big caps in
    let each = lines_read game is in
    let rows : Tested stacks blinds = record {
      least = le-leb 2 (length stacks) is.least;
      most = le-leb (length stacks) 10 is.most;
      stacked = is.stacked;
      in_order = is.in_order;
      first = eq-eqb (first_player blinds) (first_player blinds) refl;
    } in
    let is_whole_said = whole no_limit stacks blinds small big caps (eq-eqb (length blinds) (length stacks) is.one_row) (eq-eqb (length stacks) (length stacks) refl) in
    let is_played = played no_limit stacks blinds small big caps rows (sized_by no_limit (greatest blinds) small big is.sizes) in
    ap game_said (game_is game)
    ∙ lines_said no_limit (texts_of lines) (text_of lines) (lines_again no_limit lines each) (kind_again no_limit stacks blinds small big caps)
    ∙ ap (λ (read : Result (List EntrySaid) AcpcFault). (read >>= λ entries. Ok (entries, length (texts_of lines))) >>= λ (found : List EntrySaid × ℕ). game_or_fault found.1 found.0)
    (entries_again no_limit [] 1 lines each (follow no_limit stacks blinds small big caps))
    ∙ at_end (length (texts_of lines)) entries is_whole_said is_played
    ∙ ap Ok (same_game no_limit stacks blinds small big caps is.sizes)

-- a written game reads back
pub game_again : (game : GameSaid) → IsGame game → game_said (game_text game) ≡ Ok game
game_again game is = parts_again game.no_limit game.stacks game.blinds game.small_raise game.big_raise game.caps is

-- a game of the code is one that handref supports
pub kept_game : (game : Game) → IfSome game.caps (λ caps. are_caps caps ≡ true) → IsGame (game_in game)
kept_game game fit =
    let stacks = game.stacks in
    let blinds = game.blinds in
    let as_many : length (amounts_in stacks) ≡ stacks.seats = length-take-le stacks.seats stacks.amounts (omega (arith, stacks.full, stacks.greatest)) in
    let others : length (amounts_in blinds) ≡ blinds.seats = length-take-le blinds.seats blinds.amounts (omega (arith, blinds.full, blinds.greatest)) in
    record {
      least = omega (arith, as_many, stacks.least);
      most = omega (arith, as_many, stacks.greatest);
      one_row = others ∙ game.one_row ∙ sym as_many;
      few = game.few;
      few_blinds = game.few_blinds;
      stacked = game.stacked;
      in_order = game.in_order;
      sizes = game.sizes;
      caps = fit;
    }

-- a written game of the code reads back
pub kept_again : (game : Game) → IfSome game.caps (λ caps. are_caps caps ≡ true) → game_said (game_text (game_in game)) ≡ Ok (game_in game)
kept_again game fit = game_again (game_in game) (kept_game game fit)

-- four numbers of 32 bits are caps
pub caps_fit : (caps : List ℕ) → length caps ≡ 4 → get_or caps 0 0 < 2 ^ 32 → get_or caps 1 0 < 2 ^ 32 → get_or caps 2 0 < 2 ^ 32 → get_or caps 3 0 < 2 ^ 32 → are_caps caps ≡ true
caps_fit [] four one two three last = absurd (omega (arith, four))
caps_fit (a ∷ []) four one two three last = absurd (omega (arith, four))
caps_fit (a ∷ b ∷ []) four one two three last = absurd (omega (arith, four))
caps_fit (a ∷ b ∷ c ∷ []) four one two three last = absurd (omega (arith, four))
caps_fit (a ∷ b ∷ c ∷ d ∷ []) four one two three last =
    rw (le-leb a 4294967295 (omega (arith, one)), le-leb b 4294967295 (omega (arith, two)), le-leb c 4294967295 (omega (arith, three)), le-leb d 4294967295 (omega (arith, last))) refl
caps_fit (a ∷ b ∷ c ∷ d ∷ e ∷ more) four one two three last = absurd (omega (arith, four))
