-- There is room for the next card that passes.
use Rattle.std.proofs.Common.{◌≡◌, ℕ, zero, suc, ◌+◌, ◌<◌, ◌≤◌, Bool, true, cond, List, [], ◌∷◌, map, take, length, count_by, get_or, ap, arith}
use Rattle.card_set.proofs.Counting.{count_by-cons}
use Rattle.play_event.specs.Places.{Place}
use Rattle.card_places.specs.declared.dealt_card.DealtCard.{DealtCard}
use Rattle.card_places.specs.Plain.{place_of}

pub count_room : (p : Place → Bool) (rows : List DealtCard) (i : ℕ) (d : DealtCard) → i < length rows → p (place_of (get_or rows i d)) ≡ true → count_by p (map place_of (take i rows)) + 1 ≤ count_by p (map place_of rows)
count_room p [] i d within is = absurd (omega (arith, within))
count_room p (row ∷ rows) zero d within is =
    let one : ◌≡◌ {A = ℕ} (cond (p (place_of row)) 1 0) 1 = ap (λ b. cond b 1 0) is in
    omega (arith, count_by-cons p (place_of row) (map place_of rows), one)
count_room p (row ∷ rows) (suc i) d within is =
    omega (arith, count_by-cons p (place_of row) (map place_of (take i rows)), count_by-cons p (place_of row) (map place_of rows), count_room p rows i d (omega (arith, within)) is)
