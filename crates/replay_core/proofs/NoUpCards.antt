-- If blinds decide who opens, no card is dealt face up.
use Rattle.std.proofs.Common.{◌≡◌, ℕ, zero, suc, ◌-◌, false, ◌&&◌, nat_lt, nat_le, List, [], ◌∷◌, map, slice_get, refl, ap}
use Rattle.std.specs.Option.{option_map_or}
use Rattle.play_event.specs.declared.code.Code.{Code}
use Rattle.play_event.specs.declared.code.Code.TheVariants as games
use Rattle.play_event.specs.declared.limit.Opener.TheVariants as openers
use Rattle.play_event.specs.declared.street.Street.{Street}
use Rattle.play_event.specs.Games.{game_of}
use Rattle.play_event.specs.Past.{Past}
use Rattle.play_event.specs.Places.{Place, is_held_by, is_up}
use Rattle.play_event.specs.Streets.{down_cards_on}
use Rattle.play_event.specs.Table.{places_of, up_cards}
use Rattle.card_set.proofs.Lists.{filter_none}
use Rattle.card_set.proofs.Tests.{and_off}

-- no street deals a card face up
DealNoneUp : List Street → Type 0
DealNoneUp [] = Unit {0}
DealNoneUp (street ∷ streets) = (street.up ≡ 0) × DealNoneUp streets

blinds_deal_none_up : (code : Code) → (game_of code).opener ≡ openers.Blinds → DealNoneUp (game_of code).streets
unfolding DealNoneUp
blinds_deal_none_up games.FT is = (refl, (refl, (refl, (refl, tt))))
blinds_deal_none_up games.NT is = (refl, (refl, (refl, (refl, tt))))
blinds_deal_none_up games.NS is = (refl, (refl, (refl, (refl, tt))))
blinds_deal_none_up games.PO is = (refl, (refl, (refl, (refl, tt))))
blinds_deal_none_up games.FO8 is = (refl, (refl, (refl, (refl, tt))))
blinds_deal_none_up games.F7S is = absurd (cc)
blinds_deal_none_up games.F7S8 is = absurd (cc)
blinds_deal_none_up games.FR is = absurd (cc)
blinds_deal_none_up games.N2L1D is = (refl, (refl, tt))
blinds_deal_none_up games.F2L3D is = (refl, (refl, (refl, (refl, tt))))
blinds_deal_none_up games.FB is = (refl, (refl, (refl, (refl, tt))))

none_up_at : (streets : List Street) (index : ℕ) → DealNoneUp streets → option_map_or (λ (s : Street). s.up) (slice_get streets index) 0 ≡ 0
unfolding DealNoneUp
none_up_at [] index none = refl
none_up_at (street ∷ streets) zero none = none.0
none_up_at (street ∷ streets) (suc index) none = none_up_at streets index none.1

none_is_up : (code : Code) (place : Place) → (game_of code).opener ≡ openers.Blinds → is_up code place ≡ false
none_is_up code place is =
    ap (λ n. nat_lt 0 n && nat_le (down_cards_on code place.street) place.index)
    (none_up_at (game_of code).streets (place.street - 1) (blinds_deal_none_up code is))

pub no_up_cards : (code : Code) (past : Past) (seat : ℕ) → (game_of code).opener ≡ openers.Blinds → up_cards code past seat ≡ []
no_up_cards code past seat is =
    ap (map (λ (place : Place). place.slot))
    (filter_none (λ (place : Place). is_held_by seat place && is_up code place) (places_of code past)
    (λ place. and_off (is_held_by seat place) (is_up code place) (none_is_up code place is)))
