-- For hands with the same setup that are played to their end, neither list of moves is the
-- beginning of the other.
use Rattle.std.proofs.Common.{◌≡◌, ℕ, ◌+◌, ◌≤◌, false, nat_le, List, [], ◌∷◌, ◌++◌, map, reverse, length, refl, sym, ap, subst, ◌∙◌, arith}
use Rattle.std.proofs.lemmas.Bool.{both_ways}
use Rattle.std.proofs.lemmas.List.{length-map, length-reverse, map-append, reverse-append}
use Rattle.canon_laws.proofs.StreetMoves.{AreFalling, legal_falling}
use Rattle.canon_laws.proofs.AllStreets.{legal_since}
use Rattle.play_laws.proofs.PastLawKept.{reached_more}
use Rattle.canon_laws.proofs.SameCore.{plain_again}
use Rattle.play_event.specs.CanonScript.{plain_move, plain_moves}
use Rattle.play_event.specs.Due.{is_bring_in_due, is_move_due, is_unfinished, turn}
use Rattle.play_event.specs.Games.{street_count}
use Rattle.play_event.specs.Laws.{AreLegal}
use Rattle.play_event.specs.Past.{Move, Past, Resolved, moves_before, moves_of, newest_street}
use Rattle.play_event.specs.Places.{Place}
use Rattle.play_event.specs.Said.{Said}
use Rattle.play_event.specs.Scripts.{past_of}
use Rattle.play_event.specs.Seats.{live_count}
use Rattle.play_event.specs.Table.{places_of}
use Rattle.play_event.specs.Trace.{TracedMove, traced_moves}
use Rattle.play_event.specs.declared.reason.Due.{Due}
use Rattle.play_event.specs.declared.setup.Rules.{Rules}
use Rattle.play_event.specs.declared.setup.Setup.{Setup}
use Rattle.play_laws.proofs.DoneKept.{all_early}
use Rattle.play_laws.proofs.DonePasts.{legal_done}
use Rattle.play_laws.proofs.DueAtEvents.{Reaches}
use Rattle.play_laws.proofs.FittingPasts.{legal_moves}
use Rattle.play_laws.proofs.LegalEvents.{Stepped, boards, deals, discards, moves, mucks, shows}
use Rattle.play_laws.proofs.LegalPlaces.{legal_past}
use Rattle.play_laws.proofs.MovesLaw.{FitsMove, IsBetDue, MovesLaw, bring_first, move_now}
use Rattle.play_laws.proofs.PlayedStreets.{IsReached, reached_closed}
use Rattle.play_laws.specs.PastLaws.{AreReached, PastLaw}

-- moves are of the first street or later ones
abbrev AreSince : List Move → Type 0
AreSince [] = Unit {0}
AreSince (move ∷ older) = (1 ≤ move.street) × AreSince older

since_step : (setup : Setup) (before : Past) (at : ℕ) (event : Resolved) → PastLaw setup before → Reaches setup before at → Stepped setup before at event → AreSince (moves_of before) → AreSince (moves_of (event ∷ before))
since_step setup before at _ past come (deals who cards due is some few free) since = since
since_step setup before at _ past come (boards cards due some few free) since = since
since_step setup before at _ past come (discards who cards no_deal draw next few free held) since = since
since_step setup before at _ past come (shows who cards may free) since = since
since_step setup before at _ past come (mucks who may) since = since
since_step setup before at _ past come (moves played no_deal no_draw on) since = (omega (arith, on, come.on, past.since), since)

-- a hand that is played to its end has these moves
pub record HasEnded (setup : Setup) (rules : Rules) (events : List Said) : Type 0 where
  pub legal : AreLegal setup rules events
  pub finished : is_unfinished (turn setup (past_of setup events)).1 ≡ false

-- after moves that close the betting no bet is due
never_due : (setup : Setup) (older : List Move) (street : ℕ) (due : Due) → IsBetDue setup older street due → (is_bring_in_due setup older street ≡ false) × (is_move_due setup older street ≡ false) → ⊥
never_due setup older street _ (bring_first so) closed = both_ways (is_bring_in_due setup older street) closed.0 so
never_due setup older street _ (move_now no_bring so) closed = both_ways (is_move_due setup older street) closed.1 so

-- after the moves of such a hand no further move fits
no_further : (setup : Setup) (rules others : Rules) (placed : List Place) (events : List Said) (move : Move) (older : List Move) → HasEnded setup rules events → moves_of (past_of setup events) ≡ older
    → FitsMove setup others placed older move → AreReached move.street older → 1 ≤ move.street → move.street ≤ street_count setup.code → ⊥
no_further setup rules others placed events move older ended same fits reached since within =
    let past : Past = past_of setup events in
    let early : moves_before (move.street + 1) (moves_of past) ≡ older = ap (moves_before (move.street + 1)) same ∙ all_early move.street (move.street + 1) older reached (omega arith) in
    let came : IsReached setup (moves_of past) (move.street + 1) = ap (λ (l : List Move). nat_le (live_count setup l) 1) early ∙ fits.several in
    let P : List Move → Type 0 = λ l. (is_bring_in_due setup l move.street ≡ false) × (is_move_due setup l move.street ≡ false) in
    never_due setup older move.street fits.due fits.is_due
    (subst P early (reached_closed setup past move.street (legal_past setup rules events ended.legal).past (legal_done setup rules events ended.legal).done ended.finished since within came))

-- so there are none further
none_further : (setup : Setup) (rules others : Rules) (placed : List Place) (events : List Said) (older further : List Move) → HasEnded setup rules events → moves_of (past_of setup events) ≡ older
    → MovesLaw setup others placed (further ++ older) → AreFalling (further ++ older) → AreSince (further ++ older) → AreReached (street_count setup.code) (further ++ older) → further ≡ []
none_further setup rules others placed events older [] ended same law falling since reached = refl
none_further setup rules others placed events older (move ∷ rest) ended same law falling since reached =
    let none : rest ≡ [] = none_further setup rules others placed events older rest ended same law.1 falling.1 since.1 reached.1 in
    let F : List Move → Type 0 = λ l. FitsMove setup others placed (l ++ older) move in
    let R : List Move → Type 0 = λ l. AreReached move.street (l ++ older) in
    absurd (no_further setup rules others placed events move older ended same (subst F none law.0) (subst R none falling.0) since.0 reached.0)

-- the moves that a trace has after those of another are none
pub no_more_moves : (setup : Setup) (rules others : Rules) (events later : List Said) (rest : List TracedMove) → HasEnded setup rules events → AreLegal setup others later
    → traced_moves setup (moves_of (past_of setup later)) ≡ traced_moves setup (moves_of (past_of setup events)) ++ rest → rest ≡ []
no_more_moves setup rules others events later rest ended legal is =
    let older : List Move = moves_of (past_of setup events) in
    let further : List Move = reverse (map plain_move rest) in
    let all : moves_of (past_of setup later) ≡ further ++ older =
    sym (plain_again setup (moves_of (past_of setup later)))
    ∙ ap plain_moves is
    ∙ ap reverse (map-append plain_move (traced_moves setup older) rest)
    ∙ reverse-append (map plain_move (traced_moves setup older)) (map plain_move rest)
    ∙ ap (λ l. further ++ l) (plain_again setup older) in
    let law = (legal_past setup others later legal).past in
    let L : List Move → Type 0 = MovesLaw setup others (places_of setup.code (past_of setup later)) in
    let F : List Move → Type 0 = AreFalling in
    let S : List Move → Type 0 = AreSince in
    let R : List Move → Type 0 = AreReached (street_count setup.code) in
    let none : further ≡ [] =
    none_further setup rules others (places_of setup.code (past_of setup later)) events older further ended refl
    (subst L all (legal_moves setup others later legal))
    (subst F all (legal_falling setup others later legal))
    (subst S all (legal_since setup others later legal))
    (subst R all (reached_more (newest_street (past_of setup later)) (street_count setup.code) (moves_of (past_of setup later)) law.within law.moved)) in
    no_length rest (omega (arith, length-map rest plain_move, length-reverse (map plain_move rest), ap (λ (l : List Move). length l) none))
  where
    no_length : (list : List TracedMove) → length list ≡ 0 → list ≡ []
    no_length [] is = refl
    no_length (first ∷ rest) is = absurd (omega (arith, is))
