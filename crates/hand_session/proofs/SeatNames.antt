-- The names of seats in first-seen order are different, and grow seat by seat and hand by hand.
use Rattle.std.proofs.Common.{◌≡◌, ℕ, List, [], ◌∷◌, ◌++◌, map, fold, bytes_eq, sym, ap, ◌∙◌}
use Rattle.std.specs.List.{list_any}
use Rattle.std.proofs.lemmas.List.{map-append}
use Rattle.std.proofs.lemmas.List.Sums.{fold-append}
use Rattle.card_set.proofs.Any.{list_any-map}
use Rattle.printed_hands.specs.Names.{with_name}
use Rattle.printed_hands.proofs.Distinct.{AreDistinct, any_fold, distinct_fold, fold_once}
use Rattle.hand_session.specs.Hands.{Hand, Seated}
use Rattle.hand_session.specs.Sessions.{all_seated, is_named, names_among, names_of}

-- a name is among the names of seats if a seat has it
pub any_names : (asked : List ℕ) (seats : List Seated) → list_any (bytes_eq asked) (names_among seats) ≡ list_any (is_named asked) seats
any_names asked seats = any_fold asked [] (map (λ seat. seat.name) seats) ∙ list_any-map (bytes_eq asked) (λ (seat : Seated). seat.name) seats

-- they are different
pub distinct_names : (seats : List Seated) → AreDistinct (names_among seats)
distinct_names seats = distinct_fold [] (map (λ seat. seat.name) seats) tt

-- the names of seats with one more
pub names_more : (seats : List Seated) (seat : Seated) → names_among (seats ++ seat ∷ []) ≡ with_name (names_among seats) seat.name
names_more seats seat =
    ap (fold with_name []) (map-append (λ (one : Seated). one.name) seats (seat ∷ []))
    ∙ fold-append with_name [] (map (λ one. one.name) seats) (seat.name ∷ [])

-- the names of hands with one more
pub names_of_more : (hands : List Hand) (hand : Hand) → all_seated (hands ++ hand ∷ []) ≡ all_seated hands ++ hand.seats
    → names_of (hands ++ hand ∷ []) ≡ fold with_name (names_of hands) (names_among hand.seats)
names_of_more hands hand all =
    ap names_among all
    ∙ ap (fold with_name []) (map-append (λ (one : Seated). one.name) (all_seated hands) hand.seats)
    ∙ fold-append with_name [] (map (λ one. one.name) (all_seated hands)) (map (λ one. one.name) hand.seats)
    ∙ sym (fold_once (names_of hands) [] (map (λ one. one.name) hand.seats))
