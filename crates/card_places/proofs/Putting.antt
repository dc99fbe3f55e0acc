-- One more card is dealt.
use Rattle.std.proofs.Common.{◌≡◌, ℕ, ◌+◌, Bool, Option, None, List, [], ◌∷◌, ◌++◌, length, take, sym, ap, ◌∙◌, arith, append_assoc}
use Rattle.std.proofs.lemmas.List.{length-take, length-map}
use Rattle.card_set.specs.declared.card.Slot.{Slot}
use Rattle.play_event.specs.Places.{Place, places_dealt}
use Rattle.card_places.specs.declared.dealt_cards.DealtCards.{DealtCards}
use Rattle.card_places.specs.Plain.{place_of}
use Rattle.card_places.specs.Placed.{placed}

abbrev pub fresh : Option ℕ → ℕ → Bool → ℕ → ℕ → Slot → Place
fresh owner street past_deck index number slot = record { owner = owner; street = street; index = index; number = number; slot = slot; past_deck = past_deck; gone_after = None; discarded = 0 }

pub dealt_more : (owner : Option ℕ) (street : ℕ) (past_deck : Bool) (index number : ℕ) (cards : List Slot) (slot : Slot) → places_dealt owner street past_deck index number (cards ++ slot ∷ []) ≡ places_dealt owner street past_deck index number cards ++ fresh owner street past_deck (index + length cards) (number + length cards) slot ∷ []
dealt_more owner street past_deck index number [] slot =
    let i : index ≡ index + 0 = omega arith in
    let n : number ≡ number + 0 = omega arith in
    ap (λ k. fresh owner street past_deck k number slot ∷ []) i ∙ ap (λ k. fresh owner street past_deck (index + 0) k slot ∷ []) n
dealt_more owner street past_deck index number (card ∷ cards) slot =
    let i : index + 1 + length cards ≡ index + length (card ∷ cards) = omega arith in
    let n : number + 1 + length cards ≡ number + length (card ∷ cards) = omega arith in
    ap (λ ps. fresh owner street past_deck index number card ∷ ps) (
    dealt_more owner street past_deck (index + 1) (number + 1) cards slot
    ∙ ap (λ k. places_dealt owner street past_deck (index + 1) (number + 1) cards ++ fresh owner street past_deck k (number + 1 + length cards) slot ∷ []) i
    ∙ ap (λ k. places_dealt owner street past_deck (index + 1) (number + 1) cards ++ fresh owner street past_deck (index + length (card ∷ cards)) k slot ∷ []) n
    )

pub placed_length : (p : DealtCards) → length (placed p) ≡ p.count
placed_length p = omega (arith, length-map (take p.count p.rows) place_of, length-take p.count p.rows, p.most, p.full)

-- the places after one more card
pub put_more : (before : List Place) (owner : Option ℕ) (street : ℕ) (past_deck : Bool) (index number : ℕ) (cards more : List Slot) (slot : Slot) (now next : List Place) (i n : ℕ) → now ≡ before ++ places_dealt owner street past_deck index number cards → next ≡ now ++ fresh owner street past_deck i n slot ∷ [] → more ≡ cards ++ slot ∷ [] → i ≡ index + length cards → n ≡ number + length cards → next ≡ before ++ places_dealt owner street past_deck index number more
put_more before owner street past_deck index number cards more slot now next i n now_is next_is more_is i_is n_is =
    next_is
    ∙ ap (λ ps. ps ++ fresh owner street past_deck i n slot ∷ []) now_is
    ∙ append_assoc before (places_dealt owner street past_deck index number cards) (fresh owner street past_deck i n slot ∷ [])
    ∙ ap (λ k. before ++ (places_dealt owner street past_deck index number cards ++ fresh owner street past_deck k n slot ∷ [])) i_is
    ∙ ap (λ k. before ++ (places_dealt owner street past_deck index number cards ++ fresh owner street past_deck (index + length cards) k slot ∷ [])) n_is
    ∙ ap (λ ps. before ++ ps) (sym (dealt_more owner street past_deck index number cards slot))
    ∙ ap (λ cs. before ++ places_dealt owner street past_deck index number cs) (sym more_is)
