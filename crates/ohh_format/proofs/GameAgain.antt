-- The game and the blinds of a tree that was written are those of the setup.
use Rattle.std.proofs.Common.{◌≡◌, ℕ, true, true≢false, Some, Ok, refl, sym}
use Rattle.serde_json.specs.Data.{object}
use Rattle.play_event.specs.declared.code.Code.{Code}
use Rattle.play_event.specs.declared.code.Code.TheVariants as games
use Rattle.hand_canon.specs.declared.notes.Notes.{Notes}
use Rattle.hand_canon.specs.declared.trace.Trace.{Trace}
use Rattle.ohh_members.specs.declared.dialect.Dialect.{Dialect}
use Rattle.ohh_members.specs.Game.{game_named, game_said}
use Rattle.ohh_members.specs.Values.{object_said, required_value, text_said}
use Rattle.ohh_writing.specs.Games.{bet_word, game_word, is_spelled_game}
use Rattle.ohh_writing.specs.Tree.{hand_members}

game_words_again : (code : Code) → is_spelled_game code ≡ true → game_named (game_word code) (bet_word code) ≡ Some code
game_words_again games.FT is = refl
game_words_again games.NT is = refl
game_words_again games.PO is = refl
game_words_again games.FO8 is = refl
game_words_again games.NS is = absurd (true≢false (sym is))
game_words_again games.F7S is = absurd (true≢false (sym is))
game_words_again games.F7S8 is = absurd (true≢false (sym is))
game_words_again games.FR is = absurd (true≢false (sym is))
game_words_again games.N2L1D is = absurd (true≢false (sym is))
game_words_again games.F2L3D is = absurd (true≢false (sym is))
game_words_again games.FB is = absurd (true≢false (sym is))

-- the game reads back
pub game_again : (dialect : Dialect) (place : ℕ) (trace : Trace) (notes : Notes) → is_spelled_game trace.setup.code ≡ true → game_said (object (hand_members dialect place trace notes)) ≡ Ok trace.setup.code
unfolding game_said required_value text_said object_said
game_again dialect place trace notes is = rw (game_words_again trace.setup.code is) refl
