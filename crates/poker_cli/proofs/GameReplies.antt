-- The game file of a hand is one that gives its game.
use Rattle.std.proofs.Common.{◌≡◌, ◌<◌, Bool, true, false, not, nat_lt, if◌then◌else◌, ℕ, List, [], ◌∷◌, get_or, length, Option, Some, None, IfOk, IfSome, Result, Ok, Err, refl, sym, ap, subst, ◌∙◌, arith}
use Rattle.std.specs.List.{list_any}
use Rattle.std.specs.Option.{option_map_or}
use Rattle.std.specs.Result.{result_ok}
use Rattle.std.proofs.lemmas.Option.{same_Some}
use Rattle.acpc_game.specs.GameFile.{GameSaid, game_said, has_short_stack}
use Rattle.acpc_game.specs.GameText.{game_text}
use Rattle.acpc_game.specs.GameView.{game_in}
use Rattle.acpc_game.specs.SaidGames.{are_caps}
use Rattle.acpc_game.specs.declared.game.Game.{Game}
use Rattle.acpc_game.proofs.GameAgain.{kept_again, kept_game}
use Rattle.acpc_format.specs.GameOf.{game_by_limit, game_for, game_with, is_sized_by_blind, no_limit_of}
use Rattle.chip_ledger.specs.SeatRow.{amounts_in}
use Rattle.hand_canon.specs.declared.trace.Play.{Play}
use Rattle.hand_canon.specs.declared.writing.Unspelled.{Unspelled}
use Rattle.hand_canon.specs.declared.writing.Unspelled.TheVariants as facts
use Rattle.play_event.specs.declared.setup.Setup.{Setup}
use Rattle.poker_cli.specs.AnswerParts.{done, to_unspelled}
use Rattle.poker_cli.specs.Game.{IsGameReply, to_game}
use Rattle.poker_cli.specs.GameFiles.{GivesGame}
use Rattle.poker_cli.proofs.GameLengths.{game_length}

-- no hand states caps
no_caps : (setup : Setup) (game : GameSaid) → game_for setup ≡ Ok game → game.caps ≡ None
unfolding game_for
no_caps setup game is = by_limit (no_limit_of setup.code) is
  where
    by_tests : (no_limit short sized antes : Bool)
        → (if short then Err facts.Stacks else if not sized then Err facts.BetSizes else if antes then Err facts.Antes else Ok (game_with no_limit setup)) ≡ Ok game
        → game.caps ≡ None
    by_tests no_limit true sized antes one = absurd (cc (one))
    by_tests no_limit false false antes one = absurd (cc (one))
    by_tests no_limit false true true one = absurd (cc (one))
    by_tests no_limit false true false one = sym (ap (λ (g : GameSaid). g.caps) (same_Some (game_with no_limit setup) game (ap result_ok one)))

    by_limit : (limit : Option Bool) → option_map_or (game_by_limit setup) limit (Err facts.Variant) ≡ Ok game → game.caps ≡ None
    by_limit None one = absurd (cc (one))
    by_limit (Some no_limit) one =
        by_tests no_limit (has_short_stack (amounts_in setup.stacks) (amounts_in setup.blinds)) (is_sized_by_blind no_limit setup) (list_any (nat_lt 0) (amounts_in setup.antes)) one

-- the file of a game that a hand fits gives that game
gives_it : (setup : Setup) (game : Game) (text : List ℕ) → game_for setup ≡ Ok (game_in game) → text ≡ game_text (game_in game) → GivesGame (Some text) game
gives_it setup game text fits written =
    let none : game.caps ≡ None = no_caps setup (game_in game) fits in
    let caps : IfSome game.caps (λ caps. are_caps caps ≡ true) = subst (λ (c : Option (List ℕ)). IfSome c (λ caps. are_caps caps ≡ true)) (sym none) tt in
    record {
      text = text;
      there = refl;
      short = omega (arith, ap length written, game_length (game_in game) (kept_game game caps));
      says = ap game_said written ∙ kept_again game caps;
    }

pub first_game : (play : Play) (rest : List Play) (game : Game) (text : List ℕ) → game_for play.trace.setup ≡ Ok (game_in game) → text ≡ game_text (game_in game)
    → IsGameReply (play ∷ rest) (done text)
first_game play rest game text fits written =
    record {
      shown = ap done written ∙ sym (ap to_game fits);
      taken =
          subst (λ (r : Result GameSaid Unspelled). IfOk r (λ said. (g : Game) × ((game_in g ≡ said) × GivesGame (Some text) g))) (sym fits)
          (game, (refl, gives_it play.trace.setup game text fits written));
    }

-- the first of all plays
pub first_of_all : (plays : List Play) (play : Play) (game : Game) (text : List ℕ) → 0 < length plays → play ≡ get_or plays 0 play
    → game_for play.trace.setup ≡ Ok (game_in game) → text ≡ game_text (game_in game) → IsGameReply plays (done text)
first_of_all [] play game text some is fits written = absurd (omega (arith, some))
first_of_all (first ∷ rest) play game text some is fits written =
    first_game first rest game text (subst (λ (p : Play). game_for p.trace.setup ≡ Ok (game_in game)) is fits) written

-- or a fact that no game can have is reported
pub first_unspelled : (play : Play) (rest : List Play) (fact : Unspelled) → game_for play.trace.setup ≡ Err fact
    → IsGameReply (play ∷ rest) (to_unspelled 1 fact)
first_unspelled play rest fact refused =
    record {
      shown = sym (ap to_game refused);
      taken =
          subst (λ (r : Result GameSaid Unspelled). IfOk r (λ said. (g : Game) × ((game_in g ≡ said) × GivesGame (Some (to_unspelled 1 fact).output) g))) (sym refused) tt;
    }

-- or there is no hand
pub no_first : IsGameReply [] (done [])
no_first = record { shown = refl; taken = tt }
