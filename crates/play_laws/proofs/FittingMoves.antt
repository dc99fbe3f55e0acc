-- A legal move fits the moves before it and the places of its time.
use Rattle.std.proofs.Common.{◌≡◌, ℕ, zero, suc, ◌-◌, ◌≤◌, Bool, true, false, ◌&&◌, ◌||◌, ◌==◌, nat_lt, nat_le, inl, inr, ◌⊎◌, Option, Some, is_none, List, [], ◌∷◌, map, filter, slice_get, refl, sym, ◌∙◌, ap, arith, if◌then◌else◌}
use Rattle.std.specs.List.{list_any}
use Rattle.std.specs.Option.{option_map_or}
use Rattle.std.proofs.lemmas.Bool.{or_parts, or_from, and_parts, and_right, cases_Bool, both_ways, ltb-true, ltb-false, le-leb, false_from_ne_true, not_from_true}
use Rattle.play_event.specs.declared.code.Code.{Code}
use Rattle.play_event.specs.declared.code.Code.TheVariants as games
use Rattle.play_event.specs.declared.setup.Setup.{Setup}
use Rattle.play_event.specs.declared.limit.Opener.{Opener}
use Rattle.play_event.specs.declared.limit.Opener.TheVariants as openers
use Rattle.play_event.specs.Games.{game_of}
use Rattle.play_event.specs.declared.street.Street.{Street}
use Rattle.play_event.specs.Streets.{has_draw, up_cards_on, down_cards_on, opener_of}
use Rattle.play_event.specs.Past.{Past, Move, moves_of, moves_on, newest_street}
use Rattle.play_event.specs.Seats.{is_live, can_act}
use Rattle.play_event.specs.Dealing.{has_drawn}
use Rattle.play_event.specs.Due.{has_to_move}
use Rattle.play_event.specs.Openers.{InTurn, NoSeat, TheSeat, Undecided, in_turn, UpCards, opener_by, up_cards_opener, has_unknown_up_card}
use Rattle.card_set.specs.Known.{hides_card}
use Rattle.play_event.specs.PlayerToAct.{player_to_act, player_to_act_after, first_in_turn, next_in_turn}
use Rattle.play_event.specs.Places.{Place, is_same_owner, is_held_by, is_up}
use Rattle.play_event.specs.Table.{places_of, up_cards}
use Rattle.play_event.specs.Laws.{IsAmong}
use Rattle.card_set.proofs.Tests.{false_true}
use Rattle.play_laws.specs.LegalPlaces.{has_owner_folded}
use Rattle.play_laws.specs.PastLaws.{has_move, PastLaw}
use Rattle.play_laws.proofs.LegalPlaces.{PlacesOf}
use Rattle.play_laws.proofs.PlayerToActUps.{SameUps, player_to_act_same}
use Rattle.play_laws.proofs.MovesLaw.{is_up_by, ups_by, IsPlayerToAct, free, shown}
use Rattle.play_laws.proofs.DrawnDiscards.{out_drawn}
use Rattle.play_event.proofs.OwnerLaws.{is_same_owner-true}
use Rattle.card_set.proofs.Options.{none_some}
use Rattle.card_set.proofs.NumbersOfRange.{none_kept_passes}

-- if somebody has moved on the street, the moves alone decide whose turn it is
some_on : (street : ℕ) (list : List Move) → has_move street list ≡ true → (first : Move) × ((rest : List Move) × (moves_on street list ≡ first ∷ rest))
some_on street [] is = false_true is
some_on street (move ∷ rest) is = by_street (move.street == street) (some_on street rest) is
  where
    by_street : (b : Bool) → (has_move street rest ≡ true → (first : Move) × ((more : List Move) × (moves_on street rest ≡ first ∷ more))) → (b || has_move street rest) ≡ true → (first : Move) × ((more : List Move) × ((if b then (move ∷ moves_on street rest) else moves_on street rest) ≡ first ∷ more))
    by_street true later it = (move, (moves_on street rest, refl))
    by_street false later it = later it

moved_free : (setup : Setup) (ups others : UpCards) (list : List Move) (street seat : ℕ) → has_move street list ≡ true → player_to_act setup ups list street ≡ TheSeat seat → player_to_act setup others list street ≡ TheSeat seat
moved_free setup ups others list street seat has is =
    let some = some_on street list has in
    let by = λ (l : List Move) (o : InTurn). first_in_turn setup (has_to_move setup list street) (next_in_turn setup o l) in
    ap (λ l. by l (opener_by (opener_of setup.code) setup others list street)) some.1.1 ∙ (sym (ap (λ l. by l (opener_by (opener_of setup.code) setup ups list street)) some.1.1) ∙ is)

-- in games with blinds, too
blinds_free : (setup : Setup) (ups others : UpCards) (list : List Move) (street seat : ℕ) → opener_of setup.code ≡ openers.Blinds → player_to_act setup ups list street ≡ TheSeat seat → player_to_act setup others list street ≡ TheSeat seat
blinds_free setup ups others list street seat opener is =
    ap (λ o. player_to_act_after setup (opener_by o setup others list street) list street) opener ∙ (sym (ap (λ o. player_to_act_after setup (opener_by o setup ups list street) list street) opener) ∙ is)

-- otherwise the up-cards of seats that can act are known
no_moves_on : (street : ℕ) (list : List Move) → has_move street list ≡ false → moves_on street list ≡ []
no_moves_on street [] is = refl
no_moves_on street (move ∷ rest) is =
    let parts = or_parts (move.street == street) (has_move street rest) is in
    ap (λ b. if b then (move ∷ moves_on street rest) else moves_on street rest) parts.0 ∙ no_moves_on street rest parts.1

is_one_seat : InTurn → Bool
is_one_seat NoSeat = false
is_one_seat Undecided = false
is_one_seat (TheSeat seat) = true

decided_by : (setup : Setup) (ups : UpCards) (list : List Move) (street seat : ℕ) (unknown : Bool) (found : Option ℕ) → first_in_turn setup (has_to_move setup list street) (if unknown then Undecided else in_turn found) ≡ TheSeat seat → unknown ≡ false
unfolding is_one_seat
decided_by setup ups list street seat true found is = false_true (ap is_one_seat is)
decided_by setup ups list street seat false found is = refl

decided : (opener : Opener) (setup : Setup) (ups : UpCards) (list : List Move) (street seat : ℕ) → has_move street list ≡ false → player_to_act_after setup (opener_by opener setup ups list street) list street ≡ TheSeat seat → (opener ≡ openers.Blinds) ⊎ (has_unknown_up_card setup ups list ≡ false)
decided openers.Blinds setup ups list street seat none is = inl refl
decided openers.LowUp setup ups list street seat none is =
    inr (decided_by setup ups list street seat (has_unknown_up_card setup ups list) (up_cards_opener setup ups list street) (sym (ap (λ l. first_in_turn setup (has_to_move setup list street) (next_in_turn setup (opener_by openers.LowUp setup ups list street) l)) (no_moves_on street list none)) ∙ is))
decided openers.HighUp setup ups list street seat none is =
    inr (decided_by setup ups list street seat (has_unknown_up_card setup ups list) (up_cards_opener setup ups list street) (sym (ap (λ l. first_in_turn setup (has_to_move setup list street) (next_in_turn setup (opener_by openers.HighUp setup ups list street) l)) (no_moves_on street list none)) ∙ is))

-- the player to act by the up-cards of seats that can act is the player to act by the places
pub is_player_to_act : (setup : Setup) (placed : List Place) (ups : UpCards) (list : List Move) (street seat : ℕ) → SameUps setup list (ups_by setup.code placed street) ups → player_to_act setup ups list street ≡ TheSeat seat → IsPlayerToAct setup placed list street seat
is_player_to_act setup placed ups list street seat same is = elim (cases_Bool (has_move street list)) [
  | inl has ↦ free (λ others. moved_free setup ups others list street seat has is)
  | inr none ↦ elim (decided (opener_of setup.code) setup ups list street seat none is) [
    | inl blinds ↦ free (λ others. blinds_free setup ups others list street seat blinds is)
    | inr known ↦ shown
        (λ other least most able. ap (list_any hides_card) (same other least most able) ∙ none_kept_passes (can_act setup list) (λ seat. list_any hides_card (ups seat)) 1 setup.stacks.seats other known least (omega (arith, most)) able)
        (player_to_act_same setup list street (ups_by setup.code placed street) ups same ∙ is)
  ]
]

-- games with up-cards have no draws
none_in : (f : Street → Bool) (streets : List Street) (index : ℕ) → list_any f streets ≡ false → option_map_or f (slice_get streets index) false ≡ false
none_in f [] index none = refl
none_in f (first ∷ rest) zero none = (or_parts (f first) (list_any f rest) none).0
none_in f (first ∷ rest) (suc index) none = none_in f rest index (or_parts (f first) (list_any f rest) none).1

zero_in : (streets : List Street) (index : ℕ) → list_any (λ s. nat_lt 0 s.up) streets ≡ false → option_map_or (λ s. s.up) (slice_get streets index) 0 ≡ 0
zero_in [] index none = refl
zero_in (first ∷ rest) zero none = omega (arith, ltb-false 0 first.up (or_parts (nat_lt 0 first.up) (list_any (λ s. nat_lt 0 s.up) rest) none).0)
zero_in (first ∷ rest) (suc index) none = zero_in rest index (or_parts (nat_lt 0 first.up) (list_any (λ s. nat_lt 0 s.up) rest) none).1

ups_or_draws : (code : Code) → (list_any (λ s. nat_lt 0 s.up) (game_of code).streets ≡ false) ⊎ (list_any (λ s. s.draws) (game_of code).streets ≡ false)
ups_or_draws games.FT = inl refl
ups_or_draws games.NT = inl refl
ups_or_draws games.NS = inl refl
ups_or_draws games.PO = inl refl
ups_or_draws games.FO8 = inl refl
ups_or_draws games.F7S = inr refl
ups_or_draws games.F7S8 = inr refl
ups_or_draws games.FR = inr refl
ups_or_draws games.N2L1D = inl refl
ups_or_draws games.F2L3D = inl refl
ups_or_draws games.FB = inl refl

-- a street with up-cards does not draw
pub up_no_draw : (code : Code) (place : Place) (street : ℕ) → is_up code place ≡ true → has_draw code street ≡ false
up_no_draw code place street up = elim (ups_or_draws code) [
  | inl none ↦ absurd (omega (arith, zero_in (game_of code).streets (place.street - 1) none, ltb-true 0 (up_cards_on code place.street) (and_parts (nat_lt 0 (up_cards_on code place.street)) (nat_le (down_cards_on code place.street) place.index) up).0))
  | inr none ↦ none_in (λ s. s.draws) (game_of code).streets (street - 1) none
]

-- the up-cards of a live seat are those that were dealt to it
pub same_filter : (p q : Place → Bool) (placed : List Place) → ((place : Place) → IsAmong placed place → p place ≡ q place) → filter p placed ≡ filter q placed
same_filter p q [] same = refl
same_filter p q (first ∷ rest) same =
    ap (λ b. if b then (first ∷ filter p rest) else filter p rest) (same first (inl refl)) ∙ ap (λ l. if q first then (first ∷ l) else l) (same_filter p q rest (λ place among. same place (inr among)))

up_by : (owner none up early : Bool) → (owner ≡ true → up ≡ true → none ≡ true) → early ≡ true → (owner && (up && early)) ≡ ((owner && none) && up)
up_by false none up early there is = refl
up_by true none false early there is = sym (and_right none false refl)
up_by true none true early there is = is ∙ sym (ap (λ b. b && true) (there refl refl))

-- the up-cards of a seat that can act are those of its places
pub ups_now : (setup : Setup) (before : Past) (at seat : ℕ) → PastLaw setup before → PlacesOf setup before → newest_street before ≤ at → ((street other : ℕ) → has_drawn before street other ≡ true → has_draw setup.code street ≡ true) → is_live (moves_of before) seat ≡ true → ups_by setup.code (places_of setup.code before) at seat ≡ up_cards setup.code before seat
ups_now setup before at seat past law on drew live =
    ap (map (λ (p : Place). p.slot)) (same_filter (is_up_by setup.code at seat) (λ place. is_held_by seat place && is_up setup.code place) (places_of setup.code before) (λ place among.
    up_by (is_same_owner place.owner (Some seat)) (is_none place.gone_after) (is_up setup.code place) (nat_le place.street at) (still place among) (le-leb place.street at (omega (arith, law.reached place among, on)))))
  where
    still : (place : Place) → IsAmong (places_of setup.code before) place → is_same_owner place.owner (Some seat) ≡ true → is_up setup.code place ≡ true → is_none place.gone_after ≡ true
    still place among mine up =
        let owner = is_same_owner-true place.owner (Some seat) mine in
        none_some place.gone_after (law.gone_is place among ∙ or_from (nat_lt 0 place.discarded) (has_owner_folded (moves_of before) place.owner)
        (false_from_ne_true (nat_lt 0 place.discarded) (λ out. both_ways (has_draw setup.code place.discarded) (up_no_draw setup.code place place.discarded up)
        (drew place.discarded seat (out_drawn setup.code before place.discarded seat place among (owner, (refl, omega (arith, ltb-true 0 place.discarded out)))))))
        (ap (has_owner_folded (moves_of before)) owner ∙ not_from_true (is_live (moves_of before) seat) live))

-- if no place passes, none is kept
pub none_pass : (p : Place → Bool) (places : List Place) → ((place : Place) → IsAmong places place → p place ≡ false) → filter p places ≡ []
none_pass p [] pass = refl
none_pass p (first ∷ rest) pass = ap (λ b. if b then (first ∷ filter p rest) else filter p rest) (pass first (inl refl)) ∙ none_pass p rest (λ place among. pass place (inr among))
