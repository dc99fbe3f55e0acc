-- Questions about one hand, about all hands by name, or for one seat have one answer, if hands say
-- the same.
use Rattle.std.proofs.Common.{◌≡◌, ℕ, zero, suc, ◌+◌, ◌-◌, ◌<◌, ◌≤◌, Bool, List, [], ◌∷◌, ◌++◌, length, map, flat_map, Option, Some, None, refl, sym, subst, ap, ap₂, ◌∙◌, arith}
use Rattle.std.specs.List.{range_with_len, slice_get}
use Rattle.std.specs.Option.{unwrap_or}
use Rattle.std.proofs.lemmas.Bool.{false≢true}
use Rattle.std.proofs.lemmas.Option.{same_Some}
use Rattle.acpc_game.specs.declared.game.Game.{Game}
use Rattle.acpc_view.specs.View.{head_text, seen_text, view_line, views_text}
use Rattle.chip_ledger.specs.SeatsSaid.{default_name}
use Rattle.chip_ledger.specs.declared.numbers.Seat.{Seat}
use Rattle.convert_core.specs.SameRecords.{AllAlike, AreAlike, SayTheSame}
use Rattle.convert_core.proofs.OneOutcome.{AllTraced}
use Rattle.hand_equity.proofs.OneEquity.{one_equity as one_count}
use Rattle.hand_equity.specs.Street.{HasNoEquity, IsEquityOn, standing_on}
use Rattle.hand_equity.specs.Text.{equity_said}
use Rattle.hand_equity.specs.declared.refusal.NoEquity.TheVariants as lacking
use Rattle.hand_equity.specs.declared.row.EquityRow.{EquityRow}
use Rattle.hand_options.proofs.OneText.{one_text}
use Rattle.hand_options.specs.Legal.{AreOptions}
use Rattle.hand_options.specs.declared.choices.Options.{Options}
use Rattle.hand_canon.specs.Plays.{hands_of}
use Rattle.hand_canon.specs.SoundRecord.{script_said}
use Rattle.hand_canon.specs.declared.trace.Play.{Play}
use Rattle.hand_canon.specs.declared.trace.Trace.{Trace}
use Rattle.hand_session.specs.Hands.{Hand, Seated, hand_of, seated_in}
use Rattle.play_event.specs.Scripts.{past_after}
use Rattle.play_event.specs.Seats.{all_seats}
use Rattle.play_event.specs.declared.event.Event.{Event}
use Rattle.play_event.specs.declared.setup.Rules.{Rules}
use Rattle.play_event.specs.declared.setup.Setup.{Setup}
use Rattle.poker_cli.specs.AnswerParts.{Answer, done, no_hand}
use Rattle.poker_cli.specs.Equity.{IsEquityAt, no_cards}
use Rattle.poker_cli.specs.Options.{AreOptionsAt, no_event}
use Rattle.poker_cli.specs.Views.{AreViews, each_view}
use Rattle.poker_cli.specs.Options as in_options
use Rattle.poker_cli.specs.Equity as in_equity
use Rattle.poker_cli.specs.Views as in_views

-- the same number of plays
pub as_many : (ps qs : List Play) → AllTraced ps qs → length ps ≡ length qs
unfolding AllTraced
as_many [] [] traced = refl
as_many [] (q ∷ qs) traced = absurd traced
as_many (p ∷ ps) [] traced = absurd traced
as_many (p ∷ ps) (q ∷ qs) traced = ap suc (as_many ps qs traced.1)

-- plays at one place have the same trace, and their hands say the same
pub at_place : (ps qs : List Play) (place : ℕ) (p q : Play) → AllTraced ps qs → slice_get ps place ≡ Some p → slice_get qs place ≡ Some q
    → (p.trace ≡ q.trace) × SayTheSame p.hand q.hand
unfolding AllTraced
at_place [] qs place p q traced is it = absurd (cc (is))
at_place (a ∷ ps) [] place p q traced is it = absurd traced
at_place (a ∷ ps) (b ∷ qs) zero p q traced is it =
    subst (λ (y : Play). (p.trace ≡ y.trace) × SayTheSame p.hand y.hand) (same_Some b q it)
    (subst (λ (x : Play). (x.trace ≡ b.trace) × SayTheSame x.hand b.hand) (same_Some a p is) traced.0)
at_place (a ∷ ps) (b ∷ qs) (suc place) p q traced is it = at_place ps qs place p q traced.1 is it

-- and if one list has a play, so has the other
not_one : (ps qs : List Play) (place : ℕ) (q : Play) → AllTraced ps qs → slice_get ps place ≡ None → slice_get qs place ≡ Some q → ⊥
unfolding AllTraced
not_one [] [] place q traced none is = cc (is)
not_one [] (b ∷ qs) place q traced none is = traced
not_one (a ∷ ps) [] place q traced none is = traced
not_one (a ∷ ps) (b ∷ qs) zero q traced none is = cc (none)
not_one (a ∷ ps) (b ∷ qs) (suc place) q traced none is = not_one ps qs place q traced.1 none is

pub not_other : (ps qs : List Play) (place : ℕ) (p : Play) → AllTraced ps qs → slice_get ps place ≡ Some p → slice_get qs place ≡ None → ⊥
unfolding AllTraced
not_other [] qs place p traced is none = cc (is)
not_other (a ∷ ps) [] place p traced is none = traced
not_other (a ∷ ps) (b ∷ qs) zero p traced is none = cc (none)
not_other (a ∷ ps) (b ∷ qs) (suc place) p traced is none = not_other ps qs place p traced.1 is none

-- ---- options

-- options of one hand are those of another that says the same
options_moved : (p q : Play) (events : ℕ) (options : Options) → SayTheSame p.hand q.hand
    → AreOptions p.hand.setup p.hand.rules (past_after p.hand.setup (script_said p.hand) events) options
    → AreOptions q.hand.setup q.hand.rules (past_after q.hand.setup (script_said q.hand) events) options
options_moved p q events options same are =
    subst (λ (script : List Event). AreOptions q.hand.setup q.hand.rules (past_after q.hand.setup (script_said (record q.hand { script = script })) events) options) same.script
    (subst (λ (rules : Rules). AreOptions q.hand.setup rules (past_after q.hand.setup (script_said p.hand) events) options) same.rules
    (subst (λ (setup : Setup). AreOptions setup p.hand.rules (past_after setup (script_said p.hand) events) options) same.setup are))

fewer_or_not : (p q : Play) (events : ℕ) → SayTheSame p.hand q.hand → length p.hand.script < events → events ≤ length q.hand.script → ⊥
fewer_or_not p q events same fewer few =
    let long = ap (λ (script : List Event). length script) same.script in omega (arith, fewer, few, long)

pub not_fewer : (p q : Play) (events : ℕ) → SayTheSame p.hand q.hand → events ≤ length p.hand.script → length q.hand.script < events → ⊥
not_fewer p q events same few fewer =
    let long = ap (λ (script : List Event). length script) same.script in omega (arith, fewer, few, long)

pub one_options : (number events : ℕ) (ps qs : List Play) (answer other : Answer) → AllTraced ps qs
    → AreOptionsAt number events ps answer → AreOptionsAt number events qs other → answer ≡ other
one_options number events ps qs _ _ traced (in_options.NoHand none) (in_options.NoHand nothing) = ap (no_hand number) (as_many ps qs traced)
one_options number events ps qs _ _ traced (in_options.NoHand none) (in_options.NoEvent q is fewer) = absurd (not_one ps qs (number - 1) q traced none is)
one_options number events ps qs _ _ traced (in_options.NoHand none) (in_options.Listed q is few options are) = absurd (not_one ps qs (number - 1) q traced none is)
one_options number events ps qs _ _ traced (in_options.NoEvent p is fewer) (in_options.NoHand none) = absurd (not_other ps qs (number - 1) p traced is none)
one_options number events ps qs _ _ traced (in_options.Listed p is few options are) (in_options.NoHand none) = absurd (not_other ps qs (number - 1) p traced is none)
one_options number events ps qs _ _ traced (in_options.NoEvent p is fewer) (in_options.NoEvent q it less) =
    let same = (at_place ps qs (number - 1) p q traced is it).1 in
    ap (λ (script : List Event). no_event number events (length script)) same.script
one_options number events ps qs _ _ traced (in_options.NoEvent p is fewer) (in_options.Listed q it few options are) =
    absurd (fewer_or_not p q events (at_place ps qs (number - 1) p q traced is it).1 fewer few)
one_options number events ps qs _ _ traced (in_options.Listed p is few options are) (in_options.NoEvent q it fewer) =
    absurd (not_fewer p q events (at_place ps qs (number - 1) p q traced is it).1 few fewer)
one_options number events ps qs _ _ traced (in_options.Listed p is few options are) (in_options.Listed q it short others too) =
    let same = (at_place ps qs (number - 1) p q traced is it).1 in
    ap done
    (one_text number events q.hand.setup q.hand.rules (past_after q.hand.setup (script_said q.hand) events) options others
    (options_moved p q events options same are) too)

-- ---- equity

lacks_or_has : (trace : Trace) (street : ℕ) (row : EquityRow) → HasNoEquity trace street lacking.NoStreet → IsEquityOn trace street row → ⊥
lacks_or_has trace street row none is = false≢true (sym none ∙ is.dealt)

unknown_or_not : (trace : Trace) (street : ℕ) (seat : Seat) (row : EquityRow) → HasNoEquity trace street (lacking.UnknownCards seat)
    → IsEquityOn trace street row → ⊥
unknown_or_not trace street seat row none is = let found = none.1 in let known = is.known in cc (found, known)

pub one_equity : (number street : ℕ) (ps qs : List Play) (answer other : Answer) → AllTraced ps qs
    → IsEquityAt number street ps answer → IsEquityAt number street qs other → answer ≡ other
one_equity number street ps qs _ _ traced (in_equity.NoneNumbered none) (in_equity.NoneNumbered nothing) = ap (no_hand number) (as_many ps qs traced)
one_equity number street ps qs _ _ traced (in_equity.NoneNumbered none) (in_equity.NoBoard q is lacks) = absurd (not_one ps qs (number - 1) q traced none is)
one_equity number street ps qs _ _ traced (in_equity.NoneNumbered none) (in_equity.NoCards q is seat lacks) = absurd (not_one ps qs (number - 1) q traced none is)
one_equity number street ps qs _ _ traced (in_equity.NoneNumbered none) (in_equity.Counted q is row on) = absurd (not_one ps qs (number - 1) q traced none is)
one_equity number street ps qs _ _ traced (in_equity.NoBoard p is lacks) (in_equity.NoneNumbered none) = absurd (not_other ps qs (number - 1) p traced is none)
one_equity number street ps qs _ _ traced (in_equity.NoCards p is seat lacks) (in_equity.NoneNumbered none) = absurd (not_other ps qs (number - 1) p traced is none)
one_equity number street ps qs _ _ traced (in_equity.Counted p is row on) (in_equity.NoneNumbered none) = absurd (not_other ps qs (number - 1) p traced is none)
one_equity number street ps qs _ _ traced (in_equity.NoBoard p is lacks) (in_equity.NoBoard q it lack) = refl
one_equity number street ps qs _ _ traced (in_equity.NoBoard p is lacks) (in_equity.NoCards q it seat lack) =
    let trace = (at_place ps qs (number - 1) p q traced is it).0 in
    let here = subst (λ (t : Trace). HasNoEquity t street lacking.NoStreet) trace lacks in
    absurd (false≢true (sym here ∙ lack.0))
one_equity number street ps qs _ _ traced (in_equity.NoBoard p is lacks) (in_equity.Counted q it row on) =
    let trace = (at_place ps qs (number - 1) p q traced is it).0 in
    absurd (lacks_or_has q.trace street row (subst (λ (t : Trace). HasNoEquity t street lacking.NoStreet) trace lacks) on)
one_equity number street ps qs _ _ traced (in_equity.NoCards p is seat lacks) (in_equity.NoBoard q it lack) =
    let trace = (at_place ps qs (number - 1) p q traced is it).0 in
    let here = subst (λ (t : Trace). HasNoEquity t street (lacking.UnknownCards seat)) trace lacks in
    absurd (false≢true (sym lack ∙ here.0))
one_equity number street ps qs _ _ traced (in_equity.NoCards p is seat lacks) (in_equity.NoCards q it other lack) =
    let trace = (at_place ps qs (number - 1) p q traced is it).0 in
    let here = subst (λ (t : Trace). HasNoEquity t street (lacking.UnknownCards seat)) trace lacks in
    ap (no_cards number) (same_Some seat.number other.number (sym here.1 ∙ lack.1))
one_equity number street ps qs _ _ traced (in_equity.NoCards p is seat lacks) (in_equity.Counted q it row on) =
    let trace = (at_place ps qs (number - 1) p q traced is it).0 in
    absurd (unknown_or_not q.trace street seat row (subst (λ (t : Trace). HasNoEquity t street (lacking.UnknownCards seat)) trace lacks) on)
one_equity number street ps qs _ _ traced (in_equity.Counted p is row on) (in_equity.NoBoard q it lack) =
    let trace = (at_place ps qs (number - 1) p q traced is it).0 in
    absurd (lacks_or_has q.trace street row lack (subst (λ (t : Trace). IsEquityOn t street row) trace on))
one_equity number street ps qs _ _ traced (in_equity.Counted p is row on) (in_equity.NoCards q it seat lack) =
    let trace = (at_place ps qs (number - 1) p q traced is it).0 in
    absurd (unknown_or_not q.trace street seat row lack (subst (λ (t : Trace). IsEquityOn t street row) trace on))
one_equity number street ps qs _ _ traced (in_equity.Counted p is row on) (in_equity.Counted q it other too) =
    let trace = (at_place ps qs (number - 1) p q traced is it).0 in
    let here : IsEquityOn q.trace street row = subst (λ (t : Trace). IsEquityOn t street row) trace on in
    ap done
    (ap₂ (equity_said number street) trace
    (one_count q.trace.setup.code (standing_on q.trace street) row other here.equity too.equity))

-- ---- views

one_views : (no_limit : Bool) (viewer place : ℕ) (p q : Play) → p.trace ≡ q.trace → AreAlike p.hand q.hand
    → views_text no_limit viewer place p ≡ views_text no_limit viewer place q
unfolding views_text view_line
one_views no_limit viewer place p q traced alike =
    ap₂ (λ (trace : Trace) (hand : Option (List ℕ)).
    flat_map (λ (count : ℕ). head_text viewer place hand ++ 58 ∷ (seen_text no_limit trace viewer count ++ 10 ∷ [])) (range_with_len 0 (length trace.moves + 1)))
    traced alike.notes.hand

all_views : (game : Game) (seat : Seat) (place : ℕ) (ps qs : List Play) → AllTraced ps qs → AllAlike (hands_of ps) (hands_of qs)
    → each_view game seat place ps ≡ each_view game seat place qs
unfolding AllTraced AllAlike each_view
all_views game seat place [] [] traced alike = refl
all_views game seat place [] (q ∷ qs) traced alike = absurd traced
all_views game seat place (p ∷ ps) [] traced alike = absurd traced
all_views game seat place (p ∷ ps) (q ∷ qs) traced alike =
    ap₂ (λ (lines others : List ℕ). lines ++ others) (one_views game.no_limit seat.number place p q traced.0.0 alike.0)
    (all_views game seat (place + 1) ps qs traced.1 alike.1)

pub one_view : (game : Game) (seat : Seat) (ps qs : List Play) (answer other : Answer) → AllTraced ps qs → AllAlike (hands_of ps) (hands_of qs)
    → AreViews game seat ps answer → AreViews game seat qs other → answer ≡ other
one_view game seat ps qs _ _ traced alike (in_views.NoSeat beyond) (in_views.NoSeat above) = refl
one_view game seat ps qs _ _ traced alike (in_views.NoSeat beyond) (in_views.TooMany there many) = absurd (omega (arith, beyond, there))
one_view game seat ps qs _ _ traced alike (in_views.NoSeat beyond) (in_views.Seen there few) = absurd (omega (arith, beyond, there))
one_view game seat ps qs _ _ traced alike (in_views.TooMany there many) (in_views.NoSeat beyond) = absurd (omega (arith, beyond, there))
one_view game seat ps qs _ _ traced alike (in_views.Seen there few) (in_views.NoSeat beyond) = absurd (omega (arith, beyond, there))
one_view game seat ps qs _ _ traced alike (in_views.TooMany there many) (in_views.TooMany here more) = refl
one_view game seat ps qs _ _ traced alike (in_views.TooMany there many) (in_views.Seen here few) =
    let long = ap (λ (lines : List ℕ). length lines) (all_views game seat 0 ps qs traced alike) in absurd (omega (arith, many, few, long))
one_view game seat ps qs _ _ traced alike (in_views.Seen there few) (in_views.TooMany here many) =
    let long = ap (λ (lines : List ℕ). length lines) (all_views game seat 0 ps qs traced alike) in absurd (omega (arith, many, few, long))
one_view game seat ps qs _ _ traced alike (in_views.Seen there few) (in_views.Seen here short) = ap done (all_views game seat 0 ps qs traced alike)

-- ---- a session

same_map : {X Y : Type 0} (f g : X → Y) → ((x : X) → f x ≡ g x) → (xs : List X) → map f xs ≡ map g xs
same_map f g each [] = refl
same_map f g each (x ∷ xs) = ap₂ (λ y ys. y ∷ ys) (each x) (same_map f g each xs)

same_seat : (p q : Play) → p.trace ≡ q.trace → AreAlike p.hand q.hand → (seat : ℕ) → seated_in p seat ≡ seated_in q seat
same_seat p q traced alike seat =
    ap₂ (λ (name : List ℕ) (trace : Trace). record (seated_in (record p { trace = trace }) seat) { name = name })
    (ap (λ (name : Option (List ℕ)). unwrap_or name (default_name seat)) (alike.notes.names (seat - 1))) traced

same_hand : (p q : Play) → p.trace ≡ q.trace → AreAlike p.hand q.hand → hand_of p ≡ hand_of q
same_hand p q traced alike =
    ap (λ (all : List Seated). record (hand_of p) { seats = all }) (same_map (seated_in p) (seated_in q) (same_seat p q traced alike) (all_seats p.trace.setup))
    ∙ ap (λ (trace : Trace). record (hand_of (record q { trace = trace })) { seats = map (seated_in q) (all_seats trace.setup) }) traced

pub same_sessions : (ps qs : List Play) → AllTraced ps qs → AllAlike (hands_of ps) (hands_of qs) → map hand_of ps ≡ map hand_of qs
unfolding AllTraced AllAlike
same_sessions [] [] traced alike = refl
same_sessions [] (q ∷ qs) traced alike = absurd traced
same_sessions (p ∷ ps) [] traced alike = absurd traced
same_sessions (p ∷ ps) (q ∷ qs) traced alike =
    ap₂ (λ (hand : Hand) (others : List Hand). hand ∷ others) (same_hand p q traced.0.0 alike.0) (same_sessions ps qs traced.1 alike.1)
