-- If a hand is read in a notation, all of its facts can be written there except an odd chip, and
-- hands that are read under one game have one setup.
use Rattle.std.proofs.Common.{◌≡◌, ◌⊎◌, ℕ, ◌-◌, zero, suc, true, false, List, [], ◌∷◌, Option, Some, None, IfSome, refl, sym, subst, inl, inr}
use Rattle.std.specs.List.{AllByRecursion, slice_get}
use Rattle.std.proofs.lemmas.List.Elements.{recursion_from_All}
use Rattle.std.proofs.lemmas.Option.{same_Some}
use Rattle.convert_core.proofs.AcpcSetupsSame.{setups_same}
use Rattle.acpc_game.specs.declared.game.Game.{Game}
use Rattle.acpc_reading.specs.RecordView.{IsOfGame, IsSetupOf}
use Rattle.convert_core.specs.FormatLaws.{lawful_of}
use Rattle.convert_core.specs.Lawful.{is_note}
use Rattle.convert_core.specs.Conversion.{ReadAsPlays}
use Rattle.hand_canon.specs.LegalPlay.{IsLegalPlay}
use Rattle.hand_canon.specs.Sharp.{IsOther, is_sharp}
use Rattle.hand_canon.specs.Plays.{hands_of}
use Rattle.hand_canon.specs.declared.trace.Play.{Play}
use Rattle.hand_canon.specs.declared.writing.Keep.TheVariants as keeps
use Rattle.hand_canon.specs.declared.writing.Unspelled.{Unspelled}
use Rattle.hand_canon.specs.declared.writing.Unspelled.TheVariants as facts
use Rattle.convert_core.specs.Formats.{SayRecords, unspelled_in}
use Rattle.poker_cli.specs.AnswerParts.{hand_numbered}
use Rattle.convert_core.specs.declared.format.Format.{Format}
use Rattle.convert_core.specs.declared.format.Format.TheVariants as readers

-- ---- nothing but an odd chip

odd_or_sharp : (fact : Unspelled) → is_note fact ≡ false → (is_sharp fact ≡ true) ⊎ (fact ≡ facts.OddChip)
odd_or_sharp facts.OddChip plain = inr refl
odd_or_sharp (facts.Note name) plain = absurd (cc (plain))
odd_or_sharp _ plain = inl refl

module _ (reader : Format) where
  -- nothing of a play fails to be written but an odd chip
  abbrev pub OddChipAtMost : Play → Type 0
  OddChipAtMost play = IfSome (unspelled_in reader keeps.Spelled play) (λ fact. fact ≡ facts.OddChip)

  each_spelled : (plays : List Play) → AllByRecursion IsLegalPlay plays
      → ((play : Play) (fact : Unspelled) → unspelled_in reader keeps.Spelled play ≡ Some fact → is_sharp fact ≡ true → AllByRecursion (IsOther play) (hands_of plays))
      → AllByRecursion OddChipAtMost plays
  each_spelled [] judged other = tt
  each_spelled (p ∷ ps) judged other = (
    go (unspelled_in reader keeps.Spelled p) refl ((lawful_of reader).no_note p),
    each_spelled ps judged.1 (λ play fact found is. (other play fact found is).1),
  )
    where
      odd : (fact : Unspelled) → unspelled_in reader keeps.Spelled p ≡ Some fact → (is_sharp fact ≡ true) ⊎ (fact ≡ facts.OddChip) → fact ≡ facts.OddChip
      odd fact found (inl sharp) = absurd ((other p fact found sharp).0 judged.0.traced)
      odd fact found (inr is) = is

      go : (found : Option Unspelled) → unspelled_in reader keeps.Spelled p ≡ found → IfSome found (λ fact. is_note fact ≡ false) → IfSome found (λ fact. fact ≡ facts.OddChip)
      go None found plain = tt
      go (Some fact) found plain = odd fact found (odd_or_sharp fact plain)

  pub read_spelled : (bytes : List ℕ) (plays : List Play) → ReadAsPlays (SayRecords reader bytes) plays → AllByRecursion OddChipAtMost plays
  read_spelled bytes plays read =
      each_spelled plays (recursion_from_All IsLegalPlay plays read.are.judged)
      (λ play fact found is. subst (AllByRecursion (IsOther play)) (sym read.are.same) ((lawful_of reader).sharp keeps.Spelled play fact found is bytes read.records read.say))

-- ---- one game

-- the setup of a play that is read under a game is that of the game
setup_at : (game : Game) (plays : List Play) (place : ℕ) (play : Play) → AllByRecursion IsLegalPlay plays → AllByRecursion (IsOfGame game) (hands_of plays)
    → slice_get plays place ≡ Some play → IsSetupOf game play.trace.setup
setup_at game [] place play judged of is = absurd (cc (is))
setup_at game (p ∷ ps) zero play judged of is =
    subst (λ (x : Play). IsSetupOf game x.trace.setup) (same_Some p play is)
    (subst (IsSetupOf game) (sym judged.0.traced.whole.same_setup) of.0.setup)
setup_at game (p ∷ ps) (suc place) play judged of is = setup_at game ps place play judged.1 of.1 is

setup_read : (game : Game) (bytes : List ℕ) (plays : List Play) (hand : ℕ) (play : Play) → ReadAsPlays (SayRecords (readers.Acpc game) bytes) plays
    → hand_numbered plays hand ≡ Some play → IsSetupOf game play.trace.setup
setup_read game bytes plays hand play read here =
    setup_at game plays (hand - 1) play (recursion_from_All IsLegalPlay plays read.are.judged)
    (subst (AllByRecursion (IsOfGame game)) (sym read.are.same) read.say.each) here

pub one_setup : (game : Game) (bytes too : List ℕ) (plays others : List Play) (hand another : ℕ) (play other : Play)
    → ReadAsPlays (SayRecords (readers.Acpc game) bytes) plays → ReadAsPlays (SayRecords (readers.Acpc game) too) others
    → hand_numbered plays hand ≡ Some play → hand_numbered others another ≡ Some other
    → play.trace.setup ≡ other.trace.setup
one_setup game bytes too plays others hand another play other read reads here there =
    setups_same game play.trace.setup other.trace.setup (setup_read game bytes plays hand play read here) (setup_read game too others another other reads there)
