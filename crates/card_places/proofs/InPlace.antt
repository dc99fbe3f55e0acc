-- A walk that changes the places one by one is one place further.
use Rattle.std.proofs.Common.{◌≡◌, ℕ, ◌+◌, ◌<◌, ◌≤◌, List, [], ◌∷◌, ◌++◌, length, map, take, drop, get_or, set, sym, ap, ◌∙◌, arith, append_assoc}
use Rattle.std.proofs.Math.Seq.{take-set-lt}
use Rattle.std.proofs.lemmas.List.{map-append, take_more_set, drop_more, drop-set-lt, get_or-take, length-take}
use Rattle.play_event.specs.Places.{Place}
use Rattle.card_places.specs.declared.dealt_card.DealtCard.{DealtCard}
use Rattle.card_places.specs.Plain.{place_of}

-- the result of the walk from here on is that of this place, followed by that of the later ones
pub walk_more : (now later : List Place → List Place) (rows : List DealtCard) (i n : ℕ) (d new : DealtCard) (total : List Place) → i < n → n ≤ length rows → ((rest : List Place) → now (place_of (get_or rows i d) ∷ rest) ≡ place_of new ∷ later rest) → map place_of (take i rows) ++ now (map place_of (drop i (take n rows))) ≡ total → map place_of (take (i + 1) (set rows i new)) ++ later (map place_of (drop (i + 1) (take n (set rows i new)))) ≡ total
walk_more now later rows i n d new total before within step so_far =
    let front : List Place = map place_of (take i rows) in
    let rest : List Place = map place_of (drop (i + 1) (take n rows)) in
    let next : i < i + 1 = omega arith in
    let here : drop i (take n rows) ≡ get_or rows i d ∷ drop (i + 1) (take n rows) =
    drop_more (take n rows) i d (omega (arith, length-take n rows, before, within)) ∙ ap (λ (y : DealtCard). y ∷ drop (i + 1) (take n rows)) (get_or-take n rows i d before) in
    let same : drop (i + 1) (take n (set rows i new)) ≡ drop (i + 1) (take n rows) =
    ap (λ (l : List DealtCard). drop (i + 1) l) (take-set-lt n rows i new before) ∙ drop-set-lt (i + 1) (take n rows) i new next in
    ap (λ (l : List DealtCard). map place_of (take (i + 1) (set rows i new)) ++ later (map place_of l)) same
    ∙ ap (λ (l : List DealtCard). map place_of l ++ later rest) (take_more_set rows i new (omega (arith, before, within)))
    ∙ ap (λ l. l ++ later rest) (map-append place_of (take i rows) (new ∷ []))
    ∙ append_assoc front (place_of new ∷ []) (later rest)
    ∙ ap (λ l. front ++ l) (sym (step rest))
    ∙ ap (λ (l : List DealtCard). front ++ now (map place_of l)) (sym here)
    ∙ so_far
