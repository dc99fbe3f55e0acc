-- Legal events keep the dealt cards of a hand free of clashes.
use Rattle.std.proofs.Common.{◌≡◌, ℕ, ◌≤◌, Bool, true, false, ◌&&◌, ◌||◌, not, inl, inr, Option, Some, None, List, [], ◌∷◌, map, filter, length, count_by, refl, sym, ◌∙◌, ap, arith, if◌then◌else◌}
use Rattle.std.specs.List.{list_any}
use Rattle.std.proofs.lemmas.Bool.{and_parts}
use Rattle.std.proofs.lemmas.List.{length-append}
use Rattle.std.proofs.lemmas.Option.{same_Some}
use Rattle.card_set.proofs.Options.{some_is_none}
use Rattle.card_set.specs.declared.card.Card.{Card}
use Rattle.card_set.specs.declared.card.Slot.{Slot}
use Rattle.card_set.specs.declared.card.Slot.TheVariants as slots
use Rattle.play_event.specs.declared.code.Code.{Code}
use Rattle.play_event.specs.declared.setup.Setup.{Setup}
use Rattle.play_event.specs.declared.setup.Rules.{Rules}
use Rattle.play_event.specs.Said as said
use Rattle.play_event.specs.Said.{Said}
use Rattle.play_event.specs.Past.{Past, moves_of}
use Rattle.play_event.specs.Due.{turn}
use Rattle.play_event.specs.Openers.{InTurn}
use Rattle.card_set.specs.Known.{hides_card, known_among}
use Rattle.play_event.specs.PlayerToAct.{player_to_act}
use Rattle.play_event.specs.Places.{Place, is_held_by, is_up, places_dealt, after_deal, after_fold, is_past_deck, is_in_group, folded_place, gone_now}
use Rattle.play_event.specs.NameMatching.{after_discard, after_show, discarded_now, unmatched_names, blanks_in, can_be_named, is_show_of_all}
use Rattle.play_event.specs.Table.{places_of, up_cards}
use Rattle.play_event.specs.Taken.{has_taken_card, has_misplaced_card, is_misplaced, newly_known}
use Rattle.play_event.specs.CardReasons.{is_card_taken}
use Rattle.play_event.specs.MoveReasons.{actor_of}
use Rattle.play_event.specs.Reasons.{why}
use Rattle.play_event.specs.Scripts.{with_event, past_of, resolved_by}
use Rattle.play_event.specs.Laws.{AreLegal, NoneClash}
use Rattle.play_event.proofs.ReasonLaws.{no_reason_holds}
use Rattle.play_event.proofs.Kept.{AreKept, ComesFrom, comes_from, fold_keeps, names_keep, IsMark, held_is_there}
use Rattle.play_event.proofs.ClashLaws.{GoneWithin, kept_none_clash, deal_none_clash, among_append, are_dealt}

-- the dealt cards do not clash, and none was gone later than now
abbrev Safe : List Place → Type 0
Safe placed = NoneClash placed × GoneWithin placed

-- there are as many kept cards
kept_length : (count : ℕ) (before after : List Place) → AreKept count before after → length after ≡ length before
kept_length count [] [] kept = refl
kept_length count [] (new ∷ news) kept = absurd kept
kept_length count (old ∷ olds) [] kept = absurd kept
kept_length count (old ∷ olds) (new ∷ news) kept = omega (arith, kept_length count olds news kept.1)

gone_from : (before : List Place) (new : Place) (after : List Place) (count : ℕ) → GoneWithin before → ComesFrom (length before) before after new → new.gone_after ≡ Some count → count ≤ length before
gone_from before new after count within from is = elim (from.kept.gone_after) [
  | inl same ↦ within from.old from.among count (sym same ∙ is)
  | inr fresh ↦ let now : length before ≡ count = same_Some (length before) count (sym fresh.1 ∙ is) in omega (arith, now)
]

kept_gone_within : (before after : List Place) → AreKept (length before) before after → GoneWithin before → GoneWithin after
kept_gone_within before after kept within place among count is =
    omega (arith, kept_length (length before) before after kept, gone_from before place after count within (comes_from (length before) before after kept place among) is)

kept_safe : (code : Code) (before after : List Place) → AreKept (length before) before after → has_misplaced_card code before after ≡ false → Safe before → Safe after
kept_safe code before after kept fits safe = (kept_none_clash code (length before) before after kept fits safe.0, kept_gone_within before after kept safe.1)

-- a deal
deal_gone_within : (code : Code) (owner : Option ℕ) (street : ℕ) (cards : List Slot) (placed : List Place) → GoneWithin placed → GoneWithin (after_deal code owner street cards placed)
deal_gone_within code owner street cards placed within place among count is =
    let late : Bool = is_past_deck code placed street in
    let index : ℕ = count_by (is_in_group owner street) placed in
    let news : List Place = places_dealt owner street late index (length placed) cards in
    elim (among_append placed news place among) [
      | inl old ↦ omega (arith, within place old count is, length-append placed news)
      | inr new ↦ absurd (some_is_none (sym is ∙ (are_dealt owner street late index (length placed) cards place new).gone_after))
    ]

deal_safe : (code : Code) (owner : Option ℕ) (street : ℕ) (cards : List Slot) (placed : List Place) → has_taken_card code placed street cards ≡ false → Safe placed → Safe (after_deal code owner street cards placed)
deal_safe code owner street cards placed free safe =
    (deal_none_clash code owner street cards placed safe.1 free safe.0, deal_gone_within code owner street cards placed safe.1)

-- a fold makes no card known
as_known : (old new : Slot) → new ≡ old → (hides_card old && not (hides_card new)) ≡ false
as_known slots.Unknown new same = ap (λ s. not (hides_card s)) same
as_known (slots.Known card) new same = refl

folded_slot : (b : Bool) (count : ℕ) (place : Place) → (if b then gone_now count place else place).slot ≡ place.slot
folded_slot true count place = refl
folded_slot false count place = refl

fold_knows_nothing : (seat count : ℕ) (placed : List Place) → newly_known placed (map (folded_place seat count) placed) ≡ []
fold_knows_nothing seat count [] = refl
fold_knows_nothing seat count (place ∷ rest) =
    ap (λ b. if b then (folded_place seat count place ∷ newly_known rest (map (folded_place seat count) rest)) else newly_known rest (map (folded_place seat count) rest)) (as_known place.slot (folded_place seat count place).slot (folded_slot (is_held_by seat place) count place))
    ∙ fold_knows_nothing seat count rest

fold_safe : (code : Code) (seat : ℕ) (placed : List Place) → Safe placed → Safe (after_fold seat placed)
fold_safe code seat placed safe =
    kept_safe code placed (after_fold seat placed) (fold_keeps seat (length placed) placed)
    (ap (list_any (is_misplaced code (after_fold seat placed))) (fold_knows_nothing seat (length placed) placed)) safe

-- discards and shows
pub discard_mark : (street count : ℕ) → IsMark count (discarded_now street count)
discard_mark street count = record { slot = λ place. refl; number = λ place. refl; past_deck = λ place. refl; gone_after = λ place. inr refl }

pub show_mark : (count : ℕ) → IsMark count (λ (place : Place). place)
show_mark count = record { slot = λ place. refl; number = λ place. refl; past_deck = λ place. refl; gone_after = λ place. inl refl }

discard_safe : (code : Code) (street seat : ℕ) (names : List Slot) (placed : List Place) → has_misplaced_card code placed (after_discard street seat names placed) ≡ false → Safe placed → Safe (after_discard street seat names placed)
discard_safe code street seat names placed fits safe =
    kept_safe code placed (after_discard street seat names placed)
    (names_keep (length placed) (is_held_by seat) (discarded_now street (length placed)) (discard_mark street (length placed)) (held_is_there seat) (known_among names) (unmatched_names (filter (is_held_by seat) placed) (known_among names)) (blanks_in names) placed)
    fits safe

covered_is_there : (code : Code) (seat : ℕ) (all : Bool) (place : Place) → can_be_named code seat all place ≡ true → place.gone_after ≡ None
covered_is_there code seat all place covered = held_is_there seat place (and_parts (is_held_by seat place) (all || not (is_up code place)) covered).0

show_safe : (code : Code) (seat : ℕ) (names : List Card) (placed : List Place) → has_misplaced_card code placed (after_show code seat names placed) ≡ false → Safe placed → Safe (after_show code seat names placed)
show_safe code seat names placed fits safe =
    let covers : Place → Bool = can_be_named code seat (is_show_of_all placed seat names) in
    kept_safe code placed (after_show code seat names placed)
    (names_keep (length placed) covers (λ place. place) (show_mark (length placed)) (covered_is_there code seat (is_show_of_all placed seat names)) names (unmatched_names (filter covers placed) names) 0 placed)
    fits safe

-- each legal event
resolved_safe : (setup : Setup) (before : Past) (street : ℕ) (turn : InTurn) (event : Said) → is_card_taken setup.code (places_of setup.code before) street event ≡ false → Safe (places_of setup.code before) → Safe (places_of setup.code (resolved_by setup (moves_of before) street turn event ∷ before))
resolved_safe setup before street turn (said.Hole seat cards) free safe = deal_safe setup.code (Some seat) street cards (places_of setup.code before) free safe
resolved_safe setup before street turn (said.Board cards) free safe = deal_safe setup.code None street (map (λ card. slots.Known card) cards) (places_of setup.code before) free safe
resolved_safe setup before street turn (said.Fold named) free safe = fold_safe setup.code (actor_of named turn) (places_of setup.code before) safe
resolved_safe setup before street turn (said.Call named stated) free safe = safe
resolved_safe setup before street turn (said.Raise named amount) free safe = safe
resolved_safe setup before street turn (said.BringIn named) free safe = safe
resolved_safe setup before street turn (said.Discard seat cards) free safe = discard_safe setup.code street seat cards (places_of setup.code before) free safe
resolved_safe setup before street turn (said.Show seat cards) free safe = show_safe setup.code seat cards (places_of setup.code before) free safe
resolved_safe setup before street turn (said.Muck seat) free safe = safe

event_safe : (setup : Setup) (rules : Rules) (before : Past) (event : Said) → why setup rules before event ≡ None → Safe (places_of setup.code before) → Safe (places_of setup.code (with_event setup event before))
unfolding with_event
event_safe setup rules before event legal safe =
    let street = (turn setup before).0 in
    resolved_safe setup before street (player_to_act setup (up_cards setup.code before) (moves_of before) street) event (no_reason_holds setup rules before event legal).1.1.1.1.0 safe

events_safe : (setup : Setup) (rules : Rules) (events : List Said) → AreLegal setup rules events → Safe (places_of setup.code (past_of setup events))
events_safe setup rules [] legal = (λ a b in_a in_b differ. absurd in_a, λ place among count is. absurd among)
events_safe setup rules (event ∷ before) legal = event_safe setup rules (past_of setup before) event legal.0 (events_safe setup rules before legal.1)

pub none_clash : (setup : Setup) (rules : Rules) (events : List Said) → AreLegal setup rules events → NoneClash (places_of setup.code (past_of setup events))
none_clash setup rules events legal = (events_safe setup rules events legal).0
