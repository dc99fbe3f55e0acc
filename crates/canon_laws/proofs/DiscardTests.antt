-- Cards of the board are never discarded, and a card is discarded only on streets with a draw; so
-- the tests of what is out agree.
use Rattle.std.proofs.Common.{◌≡◌, ℕ, ◌+◌, ◌≤◌, ◌<◌, Bool, true, false, ◌&&◌, ◌||◌, ◌==◌, nat_lt, nat_le, inl, inr, Option, Some, None, List, [], ◌∷◌, map, filter, length, count_by, refl, sym, ◌∙◌, ap, subst, arith, if◌then◌else◌}
use Rattle.std.proofs.lemmas.Bool.{and_right, eq-eqb, ne_eqb, cases_lt, cases_eq, both_ways, lt-ltb, le-ltb, le-leb, lt-leb, ltb-true, or_right}
use Rattle.card_set.specs.declared.card.Slot.{Slot}
use Rattle.card_set.specs.declared.card.Slot.TheVariants as slots
use Rattle.play_event.specs.declared.code.Code.{Code}
use Rattle.play_event.specs.declared.setup.Setup.{Setup}
use Rattle.play_event.specs.declared.setup.Rules.{Rules}
use Rattle.play_event.specs.Streets.{has_draw}
use Rattle.play_event.specs.Said.{Said}
use Rattle.play_event.specs.Past.{Past, Resolved, is_folding}
use Rattle.play_event.specs.Due.{turn}
use Rattle.card_set.specs.Known.{known_among}
use Rattle.play_event.specs.Places.{Place, is_in_group, is_past_deck, places_dealt, after_deal, is_held_by, folded_place, after_fold, gone_now}
use Rattle.play_event.specs.NameMatching.{after_discard, after_show, unmatched_names, blanks_in, can_be_named, is_show_of_all}
use Rattle.play_event.specs.Table.{places_of}
use Rattle.play_event.specs.Scripts.{with_event, past_of}
use Rattle.play_event.specs.Laws.{IsAmong, AreLegal}
use Rattle.play_event.proofs.ClashLaws.{among_append}
use Rattle.play_laws.proofs.LegalEvents.{Stepped, deals, boards, moves, discards, shows, mucks, stepped}
use Rattle.play_laws.proofs.QuietEvents.{HowMarked, kept, marked, AreMarked, discard_marks, show_marks, is_nothing, held_parts}
use Rattle.play_laws.proofs.DealtPlaces.{are_new}
use Rattle.play_laws.proofs.DrawnDiscards.{out_drawn}
use Rattle.play_laws.proofs.FittingSteps.{drew}
use Rattle.canon_laws.proofs.FreeGroups.{is_out_by}
use Rattle.canon_laws.proofs.TraceOrder.{IsOwner, a_seat, the_board, DrewLive, drew_live}
use Rattle.canon_laws.proofs.DiscardsRun.{is_out_to, is_below}
use Rattle.canon_laws.proofs.TraceOrderCounts.{AreOwned}
use Rattle.card_set.proofs.Options.{some_is_none}

-- what is discarded is a seat's
abbrev pub OutSeats : List Place → Type 0
OutSeats placed = (place : Place) → IsAmong placed place → 0 < place.discarded → place.owner ≡ None → ⊥

marked_seats : (covers : Place → Bool) (count draw : ℕ) (olds news : List Place) → ((old : Place) → covers old ≡ true → old.owner ≡ None → ⊥) → OutSeats olds → AreMarked covers count draw olds news → OutSeats news
marked_seats covers count draw [] [] seat out is place among = absurd among
marked_seats covers count draw [] (first ∷ news) seat out is place among = absurd is
marked_seats covers count draw (old ∷ olds) [] seat out is place among = absurd among
marked_seats covers count draw (old ∷ olds) (first ∷ news) seat out is place (inl same) =
    let P : Place → Type 0 = λ p. 0 < p.discarded → p.owner ≡ None → ⊥ in
    subst P same (by_how is.0.how)
  where
    by_how : HowMarked covers count draw old first → 0 < first.discarded → first.owner ≡ None → ⊥
    by_how (kept gone still) some none = out old (inl refl) (omega (arith, some, still)) (sym is.0.owner ∙ none)
    by_how (marked covered now on) some none = seat old covered (sym is.0.owner ∙ none)
marked_seats covers count draw (old ∷ olds) (first ∷ news) seat out is place (inr later) = marked_seats covers count draw olds news seat (λ other among. out other (inr among)) is.1 place later

fold_seats : (who count : ℕ) (placed : List Place) → OutSeats placed → OutSeats (map (folded_place who count) placed)
fold_seats who count [] out place among = absurd among
fold_seats who count (first ∷ rest) out place (inl same) =
    let P : Place → Type 0 = λ p. 0 < p.discarded → p.owner ≡ None → ⊥ in subst P same (one (is_held_by who first))
  where
    one : (b : Bool) → 0 < (if b then gone_now count first else first).discarded → (if b then gone_now count first else first).owner ≡ None → ⊥
    one true = out first (inl refl)
    one false = out first (inl refl)
fold_seats who count (first ∷ rest) out place (inr later) = fold_seats who count rest (λ other among. out other (inr among)) place later

deal_seats : (code : Code) (owner : Option ℕ) (at : ℕ) (cards : List Slot) (placed : List Place) → OutSeats placed → OutSeats (after_deal code owner at cards placed)
deal_seats code owner at cards placed out place among some none = elim (among_append placed (places_dealt owner at (is_past_deck code placed at) (count_by (is_in_group owner at) placed) (length placed) cards) place among) [
  | inl old ↦ out place old some none
  | inr new ↦ omega (arith, some, (are_new owner at (is_past_deck code placed at) (count_by (is_in_group owner at) placed) (length placed) cards place new).discarded)
]

no_board : (who : ℕ) (old : Place) → is_held_by who old ≡ true → old.owner ≡ None → ⊥
no_board who old held none = some_is_none (sym (held_parts who old held).1 ∙ none)

seats_step : (setup : Setup) (before : Past) (at : ℕ) (event : Resolved) → Stepped setup before at event → OutSeats (places_of setup.code before) → OutSeats (places_of setup.code (event ∷ before))
seats_step setup before at _ (deals who cards due is some few free) out = deal_seats setup.code (Some who) at cards (places_of setup.code before) out
seats_step setup before at _ (boards cards due some few free) out = deal_seats setup.code None at (map (λ card. slots.Known card) cards) (places_of setup.code before) out
seats_step setup before at _ (mucks who may) out = out
seats_step setup before at _ (shows who cards may free) out =
    let placed = places_of setup.code before in
    let covers : Place → Bool = can_be_named setup.code who (is_show_of_all placed who cards) in
    marked_seats is_nothing (length placed) at placed (after_show setup.code who cards placed) (λ old is none. both_ways false refl is) out (show_marks covers (length placed) at cards (unmatched_names (filter covers placed) cards) 0 placed)
seats_step setup before at _ (discards who cards no_deal draw next few free held) out =
    let placed = places_of setup.code before in
    marked_seats (is_held_by who) (length placed) at placed (after_discard at who cards placed) (no_board who) out (discard_marks (is_held_by who) (length placed) at (known_among cards) (unmatched_names (filter (is_held_by who) placed) (known_among cards)) (blanks_in cards) placed)
seats_step setup before at _ (moves played no_deal no_draw on) out = by_fold (is_folding played.act)
  where
    by_fold : (b : Bool) → OutSeats (if b then after_fold played.seat (places_of setup.code before) else places_of setup.code before)
    by_fold true = fold_seats played.seat (length (places_of setup.code before)) (places_of setup.code before) out
    by_fold false = out

-- after legal events no card of the board is discarded
pub out_seats : (setup : Setup) (rules : Rules) (events : List Said) → AreLegal setup rules events → OutSeats (places_of setup.code (past_of setup events))
unfolding with_event
out_seats setup rules [] legal = λ place among some none. among
out_seats setup rules (event ∷ events) legal = seats_step setup (past_of setup events) (turn setup (past_of setup events)).0 _ (stepped setup rules (past_of setup events) event legal.0) (out_seats setup rules events legal.1)

-- who discarded a card
pub record OutBy (setup : Setup) (before : Past) (place : Place) : Type 0 where
  pub seat : ℕ
  pub owner : place.owner ≡ Some seat
  pub drew : DrewLive setup before place.discarded seat
  pub draws : has_draw setup.code place.discarded ≡ true

-- a card is discarded on a street that draws, by a seat that has drawn
pub out_is : (setup : Setup) (rules : Rules) (events : List Said) (place : Place) → AreLegal setup rules events → IsAmong (places_of setup.code (past_of setup events)) place → 0 < place.discarded → OutBy setup (past_of setup events) place
out_is setup rules events place legal among some = by_owner place.owner refl
  where
    by_owner : (owner : Option ℕ) → place.owner ≡ owner → OutBy setup (past_of setup events) place
    by_owner None none = absurd (out_seats setup rules events legal place among some none)
    by_owner (Some seat) mine =
        let has = out_drawn setup.code (past_of setup events) place.discarded seat place among (mine, (refl, omega (arith, some))) in
        record { seat = seat; owner = mine; drew = drew_live setup rules events legal place.discarded seat has; draws = drew setup rules events legal place.discarded seat has }

-- tests: before the first seat of a draw, what was out before the street is out
less_is : (a b : ℕ) → nat_lt a (b + 1) ≡ nat_le a b
less_is a b = elim (cases_lt b a) [
  | inl more ↦ le-ltb a (b + 1) (omega (arith, more)) ∙ sym (lt-leb a b more)
  | inr less ↦ lt-ltb a (b + 1) (omega (arith, less)) ∙ sym (le-leb a b less)
]

-- what is out before a street is out to its first seat
pub before_first : (setup : Setup) (placed : List Place) (before : ℕ) (place : Place) → AreOwned setup placed → IsAmong placed place → is_out_by before place ≡ is_out_to (before + 1) 1 place
before_first setup placed before place owned among =
    ap (λ b. nat_lt 0 place.discarded && b) (sym (less_is place.discarded before) ∙ sym (none (nat_lt place.discarded (before + 1)) ((place.discarded == (before + 1)) && is_below 1 place.owner) (and_right (place.discarded == (before + 1)) (is_below 1 place.owner) (not_below place.owner (owned place among)))))
  where
    none : (a b : Bool) → b ≡ false → (a || b) ≡ a
    none true b is = refl
    none false b is = is

    not_below : (owner : Option ℕ) → IsOwner setup owner → is_below 1 owner ≡ false
    not_below _ (a_seat seat least most) = le-ltb seat 1 least
    not_below _ the_board = refl

-- after the last seat, what is out by the street is out
pub after_last : (setup : Setup) (rules : Rules) (events : List Said) (street : ℕ) (place : Place) → AreLegal setup rules events → IsAmong (places_of setup.code (past_of setup events)) place → 1 ≤ street → is_out_to street (1 + setup.stacks.seats) place ≡ is_out_by street place
after_last setup rules events street place legal among some = by_some (nat_lt 0 place.discarded) refl
  where
    above : street ≤ place.discarded → (place.discarded ≡ street → ⊥) → street < place.discarded
    above more differ = elim (cases_lt street place.discarded) [ inl less ↦ less | inr same ↦ absurd (differ (omega (arith, more, same))) ]

    by_order : (nat_lt place.discarded street || ((place.discarded == street) && true)) ≡ nat_le place.discarded street
    by_order = elim (cases_lt place.discarded street) [
      | inl less ↦ ap (λ b. b || ((place.discarded == street) && true)) (lt-ltb place.discarded street less) ∙ sym (le-leb place.discarded street (omega (arith, less)))
      | inr more ↦ elim (cases_eq place.discarded street) [
        | inl same ↦ ap (λ b. nat_lt place.discarded street || (b && true)) (eq-eqb place.discarded street same) ∙ (or_right (nat_lt place.discarded street) true refl ∙ sym (le-leb place.discarded street (omega (arith, same))))
        | inr differ ↦ ap (λ b. b || ((place.discarded == street) && true)) (le-ltb place.discarded street more) ∙ (ap (λ b. b && true) (ne_eqb place.discarded street differ) ∙ sym (lt-leb place.discarded street (above more differ)))
      ]
    ]

    by_some : (b : Bool) → nat_lt 0 place.discarded ≡ b → (b && (nat_lt place.discarded street || ((place.discarded == street) && is_below (1 + setup.stacks.seats) place.owner))) ≡ (b && nat_le place.discarded street)
    by_some false none = refl
    by_some true pos =
        let it = out_is setup rules events place legal among (ltb-true 0 place.discarded pos) in
        let below : is_below (1 + setup.stacks.seats) place.owner ≡ true = ap (is_below (1 + setup.stacks.seats)) it.owner ∙ lt-ltb it.seat (1 + setup.stacks.seats) (omega (arith, it.drew.most)) in
        ap (λ b. nat_lt place.discarded street || ((place.discarded == street) && b)) below ∙ by_order

-- on a street without a draw nothing is discarded
pub no_draw_out : (setup : Setup) (rules : Rules) (events : List Said) (before : ℕ) (place : Place) → AreLegal setup rules events → IsAmong (places_of setup.code (past_of setup events)) place → has_draw setup.code (before + 1) ≡ false → is_out_by before place ≡ is_out_by (before + 1) place
no_draw_out setup rules events before place legal among no_draw = by_some (nat_lt 0 place.discarded) refl
  where
    by_some : (b : Bool) → nat_lt 0 place.discarded ≡ b → (b && nat_le place.discarded before) ≡ (b && nat_le place.discarded (before + 1))
    by_some false none = refl
    by_some true pos =
        let it = out_is setup rules events place legal among (ltb-true 0 place.discarded pos) in
        elim (cases_lt before place.discarded) [
          | inr less ↦ le-leb place.discarded before less ∙ sym (le-leb place.discarded (before + 1) (omega (arith, less)))
          | inl more ↦ elim (cases_lt (before + 1) place.discarded) [
            | inl above ↦ lt-leb place.discarded before more ∙ sym (lt-leb place.discarded (before + 1) above)
            | inr same ↦
                let on : place.discarded ≡ before + 1 = omega (arith, same, more) in
                absurd (both_ways (has_draw setup.code (before + 1)) no_draw (ap (has_draw setup.code) (sym on) ∙ it.draws))
          ]
        ]
