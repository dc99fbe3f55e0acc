-- One more card is chosen, or left out.
use Rattle.std.proofs.Common.{◌≡◌, ℕ, zero, suc, ◌+◌, ◌-◌, ◌<◌, ◌≤◌, List, [], ◌∷◌, ◌++◌, map, drop, get_or, length-take, Option, None, inl, refl, sym, ◌∙◌, ap, subst, arith, append_assoc, append-nil}
use Rattle.std.proofs.lemmas.List.{drop_more, get_or-take, drop_all}
use Rattle.card_set.specs.declared.card.Card.{Card}
use Rattle.card_set.specs.declared.row.CardRow.{CardRow}
use Rattle.card_set.specs.Row.{cards_of}
use Rattle.card_set.specs.Filler.{filler_card}
use Rattle.hand_order.specs.Choices.{choices, choices_of_both, IsAmong}
use Rattle.hand_order.specs.Points.{better, greatest}
use Rattle.hand_order.proofs.Greatest.{greatest-append, greatest-map, greatest-one, greatest-none, greatest-agree, greatest-flat_map, IsAmong-left, IsAmong-right, IsAmong-map}

-- the choices with the first card and those without it
choices-cons : (need : ℕ) (card : Card) (rest : List Card) → 0 < need → choices need (card ∷ rest) ≡ map (λ chosen. card ∷ chosen) (choices (need - 1) rest) ++ choices need rest
unfolding choices
choices-cons zero card rest some = absurd (omega arith)
choices-cons (suc n) card rest some = let e : suc n - 1 ≡ n = omega arith in rw e refl

-- the greatest of the choices with the first card, and of those without it
pub greatest-step : (points : List Card → Option ℕ) (chosen with rest : List Card) (card : Card) (need : ℕ) → 0 < need → with ≡ chosen ++ card ∷ [] → greatest (λ more. points (chosen ++ more)) (choices need (card ∷ rest)) ≡ better (greatest (λ more. points (with ++ more)) (choices (need - 1) rest)) (greatest (λ more. points (chosen ++ more)) (choices need rest))
greatest-step points chosen with rest card need some is =
    ap (greatest (λ more. points (chosen ++ more))) (choices-cons need card rest some)
    ∙ greatest-append (λ more. points (chosen ++ more)) (map (λ others. card ∷ others) (choices (need - 1) rest)) (choices need rest)
    ∙ ap (λ (first : Option ℕ). better first (greatest (λ more. points (chosen ++ more)) (choices need rest)))
    (greatest-map (λ more. points (chosen ++ more)) (λ others. card ∷ others) (choices (need - 1) rest)
    ∙ greatest-agree (λ others. points (chosen ++ card ∷ others)) (λ more. points (with ++ more)) (choices (need - 1) rest) (λ others. ap points (sym (append_assoc chosen (card ∷ []) others) ∙ ap (λ (l : List Card). l ++ others) (sym is))))

-- what is accepted for all choices is accepted for those with the first card
pub accepted_with : (accepts : List Card → Type 0) (chosen with rest : List Card) (card : Card) (need : ℕ) → 0 < need → with ≡ chosen ++ card ∷ [] → ((more : List Card) → IsAmong more (choices need (card ∷ rest)) → accepts (chosen ++ more)) → (more : List Card) → IsAmong more (choices (need - 1) rest) → accepts (with ++ more)
accepted_with accepts chosen with rest card need some is all more among =
    subst accepts (sym (append_assoc chosen (card ∷ []) more) ∙ ap (λ (l : List Card). l ++ more) (sym is))
    (all (card ∷ more) (subst (IsAmong (card ∷ more)) (sym (choices-cons need card rest some)) (IsAmong-left (card ∷ more) (map (λ others. card ∷ others) (choices (need - 1) rest)) (choices need rest) (IsAmong-map (λ others. card ∷ others) more (choices (need - 1) rest) among))))

-- and for those without it
pub accepted_without : (accepts : List Card → Type 0) (chosen rest : List Card) (card : Card) (need : ℕ) → 0 < need → ((more : List Card) → IsAmong more (choices need (card ∷ rest)) → accepts (chosen ++ more)) → (more : List Card) → IsAmong more (choices need rest) → accepts (chosen ++ more)
accepted_without accepts chosen rest card need some all more among =
    all more (subst (IsAmong more) (sym (choices-cons need card rest some)) (IsAmong-right more (map (λ others. card ∷ others) (choices (need - 1) rest)) (choices need rest) among))

-- nothing more is needed
pub greatest-zero : (points : List Card → Option ℕ) (chosen rest : List Card) → greatest (λ more. points (chosen ++ more)) (choices 0 rest) ≡ points chosen
unfolding choices
greatest-zero points chosen rest = greatest-one (λ more. points (chosen ++ more)) [] ∙ ap points (append-nil chosen)

pub accepted_zero : (accepts : List Card → Type 0) (chosen rest : List Card) → ((more : List Card) → IsAmong more (choices 0 rest) → accepts (chosen ++ more)) → accepts chosen
unfolding choices
accepted_zero accepts chosen rest all = subst accepts (append-nil chosen) (all [] (inl refl))

-- no card is left
pub greatest-empty : (points : List Card → Option ℕ) (need : ℕ) → 0 < need → greatest points (choices need []) ≡ None
unfolding choices
greatest-empty points zero some = absurd (omega arith)
greatest-empty points (suc n) some = greatest-none points

-- the card at a place of a row, and those after it
pub drop-row : (row : CardRow) (at : ℕ) → at < row.len → drop at (cards_of row) ≡ get_or row.cards at filler_card ∷ drop (at + 1) (cards_of row)
drop-row row at within =
    drop_more (cards_of row) at filler_card (omega (arith, length-take row.len row.cards, row.entries, row.fits))
    ∙ ap (λ (card : Card). card ∷ drop (at + 1) (cards_of row)) (get_or-take row.len row.cards at filler_card within)

-- the better of the best with a card and of the best without it is the best
pub best_step : (points : List Card → Option ℕ) (chosen with deck : List Card) (card : Card) (at need : ℕ) (best first second : Option ℕ) → 0 < need → with ≡ chosen ++ card ∷ [] → drop at deck ≡ card ∷ drop (at + 1) deck → best ≡ better first second → first ≡ greatest (λ more. points (with ++ more)) (choices (need - 1) (drop (at + 1) deck)) → second ≡ greatest (λ more. points (chosen ++ more)) (choices need (drop (at + 1) deck)) → best ≡ greatest (λ more. points (chosen ++ more)) (choices need (drop at deck))
best_step points chosen with deck card at need best first second some is left better_is first_is second_is =
    better_is
    ∙ ap (λ (o : Option ℕ). better o second) first_is
    ∙ ap (λ (o : Option ℕ). better (greatest (λ more. points (with ++ more)) (choices (need - 1) (drop (at + 1) deck))) o) second_is
    ∙ sym (greatest-step points chosen with (drop (at + 1) deck) card need some is)
    ∙ ap (λ (l : List Card). greatest (λ more. points (chosen ++ more)) (choices need l)) (sym left)

-- after the last card none is left
pub drop-past : (row : CardRow) (at : ℕ) → row.len ≤ at → drop at (cards_of row) ≡ []
drop-past row at past = drop_all at (cards_of row) (omega (arith, length-take row.len row.cards, row.entries, row.fits))

-- the best of the best of each is the best of all
pub greatest_of_both : (points : List Card → Option ℕ) (start : List Card) (n : ℕ) (first : List Card) (m : ℕ) (second : List Card) → start ≡ [] → greatest (λ chosen. greatest (λ more. points ((start ++ chosen) ++ more)) (choices m second)) (choices n first) ≡ greatest points (choices_of_both n first m second)
greatest_of_both points start n first m second none =
    greatest-agree (λ chosen. greatest (λ more. points ((start ++ chosen) ++ more)) (choices m second)) (λ chosen. greatest points (map (λ others. chosen ++ others) (choices m second))) (choices n first) (λ chosen.
    ap (λ (l : List Card). greatest (λ more. points ((l ++ chosen) ++ more)) (choices m second)) none
    ∙ sym (greatest-map points (λ others. chosen ++ others) (choices m second)))
    ∙ sym (greatest-flat_map points (λ chosen. map (λ others. chosen ++ others) (choices m second)) (choices n first))
