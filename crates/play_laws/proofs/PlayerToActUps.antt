-- Whose turn it is depends only on the up-cards of seats that can act.
use Rattle.std.proofs.Common.{◌≡◌, ℕ, ◌+◌, ◌≤◌, ◌<◌, arith, Bool, true, not, List, refl, ◌∙◌, ap, ◌==◌, if◌then◌else◌}
use Rattle.std.specs.List.{list_any}
use Rattle.play_event.specs.declared.setup.Setup.{Setup}
use Rattle.play_event.specs.declared.limit.Opener.{Opener}
use Rattle.play_event.specs.declared.limit.Opener.TheVariants as openers
use Rattle.play_event.specs.Streets.{opener_of}
use Rattle.play_event.specs.Past.{Move, moves_on}
use Rattle.play_event.specs.Seats.{can_act}
use Rattle.play_event.specs.Due.{has_to_move}
use Rattle.play_event.specs.Openers.{Undecided, in_turn, UpCards, opener_by, able_seats, up_cards_opener, has_unknown_up_card, is_opener_before}
use Rattle.card_set.specs.Known.{known_among, hides_card}
use Rattle.play_event.specs.PlayerToAct.{player_to_act, first_in_turn, next_in_turn}
use Rattle.card_set.proofs.NumbersOfRange.{any_same, find_same}

-- two rows of up-cards are the same for seats that can act
abbrev pub SameUps : Setup → List Move → UpCards → UpCards → Type 0
SameUps setup moves ups others = (seat : ℕ) → 1 ≤ seat → seat ≤ setup.stacks.seats → can_act setup moves seat ≡ true → ups seat ≡ others seat

unknown_same : (setup : Setup) (moves : List Move) (ups others : UpCards) → SameUps setup moves ups others → has_unknown_up_card setup ups moves ≡ has_unknown_up_card setup others moves
unknown_same setup moves ups others same = any_same (can_act setup moves) (λ seat. list_any hides_card (ups seat)) (λ seat. list_any hides_card (others seat)) 1 setup.stacks.seats (λ seat least most able. ap (list_any hides_card) (same seat least (omega (arith, most)) able))

is_beaten : Opener → Bool → UpCards → List ℕ → ℕ → Bool
is_beaten opener first ups seats seat = not (list_any (λ other. is_opener_before opener first (known_among (ups other)) (known_among (ups seat))) seats)

beaten_same : (setup : Setup) (moves : List Move) (street : ℕ) (ups others : UpCards) → SameUps setup moves ups others → (seat : ℕ) → 1 ≤ seat → seat < 1 + setup.stacks.seats → can_act setup moves seat ≡ true → is_beaten (opener_of setup.code) (street == 1) ups (able_seats setup moves) seat ≡ is_beaten (opener_of setup.code) (street == 1) others (able_seats setup moves) seat
unfolding is_beaten
beaten_same setup moves street ups others same seat least most able =
    ap not (any_same (can_act setup moves) (λ other. is_opener_before (opener_of setup.code) (street == 1) (known_among (ups other)) (known_among (ups seat))) (λ other. is_opener_before (opener_of setup.code) (street == 1) (known_among (others other)) (known_among (others seat))) 1 setup.stacks.seats
    (λ other from to is. ap (λ u. is_opener_before (opener_of setup.code) (street == 1) (known_among u) (known_among (ups seat))) (same other from (omega (arith, to)) is) ∙ ap (λ u. is_opener_before (opener_of setup.code) (street == 1) (known_among (others other)) (known_among u)) (same seat least (omega (arith, most)) able)))

found_same : (setup : Setup) (moves : List Move) (street : ℕ) (ups others : UpCards) → SameUps setup moves ups others → up_cards_opener setup ups moves street ≡ up_cards_opener setup others moves street
unfolding is_beaten
found_same setup moves street ups others same =
    find_same (can_act setup moves) (is_beaten (opener_of setup.code) (street == 1) ups (able_seats setup moves)) (is_beaten (opener_of setup.code) (street == 1) others (able_seats setup moves)) 1 setup.stacks.seats (beaten_same setup moves street ups others same)

opener_same : (opener : Opener) (setup : Setup) (moves : List Move) (street : ℕ) (ups others : UpCards) → SameUps setup moves ups others → opener_by opener setup ups moves street ≡ opener_by opener setup others moves street
opener_same openers.Blinds setup moves street ups others same = refl
opener_same openers.LowUp setup moves street ups others same =
    ap (λ b. if b then Undecided else in_turn (up_cards_opener setup ups moves street)) (unknown_same setup moves ups others same)
    ∙ ap (λ o. if has_unknown_up_card setup others moves then Undecided else in_turn o) (found_same setup moves street ups others same)
opener_same openers.HighUp setup moves street ups others same =
    ap (λ b. if b then Undecided else in_turn (up_cards_opener setup ups moves street)) (unknown_same setup moves ups others same)
    ∙ ap (λ o. if has_unknown_up_card setup others moves then Undecided else in_turn o) (found_same setup moves street ups others same)

-- whose turn it is depends only on the up-cards of seats that can act
pub player_to_act_same : (setup : Setup) (moves : List Move) (street : ℕ) (ups others : UpCards) → SameUps setup moves ups others → player_to_act setup ups moves street ≡ player_to_act setup others moves street
player_to_act_same setup moves street ups others same =
    ap (λ o. first_in_turn setup (has_to_move setup moves street) (next_in_turn setup o (moves_on street moves))) (opener_same (opener_of setup.code) setup moves street ups others same)
