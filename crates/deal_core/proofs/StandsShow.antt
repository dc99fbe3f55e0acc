-- After a show or a muck the state stands for the past with it.
use Rattle.std.proofs.Common.{◌≡◌, ◌≢◌, ℕ, Bool, true, false, ◌||◌, ◌==◌, List, ◌∷◌, refl, sym, ap, ◌∙◌}
use Rattle.std.proofs.lemmas.Bool.{eqb-true}
use Rattle.card_set.specs.declared.card.Card.{Card}
use Rattle.chip_ledger.specs.declared.live_row.LiveRow.{LiveRow}
use Rattle.chip_ledger.specs.LiveRow.{flag_of}
use Rattle.play_event.specs.declared.setup.Setup.{Setup}
use Rattle.play_event.specs.Said as said
use Rattle.play_event.specs.Past.{Past, Shown}
use Rattle.play_event.specs.Showing.{has_shown, has_mucked}
use Rattle.play_event.specs.Due.{turn}
use Rattle.play_event.specs.NameMatching.{after_show}
use Rattle.play_event.specs.Scripts.{with_event}
use Rattle.card_places.specs.declared.card_state.CardState.{CardState}
use Rattle.card_places.specs.declared.draws.Draws.{Draws}
use Rattle.card_places.specs.Drawn.{has_drawn_at, named_at}
use Rattle.card_places.specs.Placed.{placed}
use Rattle.card_places.specs.Shown.{IsShown, IsMucked}
use Rattle.deal_core.proofs.Same.{back, same_places}
use Rattle.deal_core.specs.Standing.{StandsFor}
use Rattle.card_set.proofs.Numbers.{unequal_other}

-- a flag that is set for one seat
flag_is : (old new : LiveRow) (seat n : ℕ) (before b : Bool) → (seat == n) ≡ b → flag_of new seat ≡ true → (n ≢ seat → flag_of new n ≡ flag_of old n) → flag_of old n ≡ before → flag_of new n ≡ (b || before)
flag_is old new seat n before true is now others was = ap (flag_of new) (sym (eqb-true seat n is)) ∙ now
flag_is old new seat n before false is now others was = others (unequal_other seat n is) ∙ was

pub show_stands : (t next : CardState) (setup : Setup) (past : Past) (seat : ℕ) (cards : List Card) → StandsFor t past → IsShown t next seat cards → StandsFor next (with_event setup (said.Show seat cards) past)
unfolding with_event
show_stands t next setup past seat cards stands shown = record {
  places = shown.places ∙ ap (after_show t.table.code seat cards) stands.places ∙ same_places t next (Shown (turn setup past).0 seat cards ∷ past) shown.table;
  drew = λ street n in_hand. ap (λ (d : Draws). has_drawn_at d street n) shown.draws ∙ stands.drew street n (back t next n shown.seats in_hand);
  named = λ street n in_hand. ap (λ (d : Draws). named_at d street n) shown.draws ∙ stands.named street n (back t next n shown.seats in_hand);
  shown = λ n in_hand. flag_is t.shown next.shown seat n (has_shown past n) (seat == n) refl shown.shown (shown.others n in_hand.first) (stands.shown n (back t next n shown.seats in_hand));
  mucked = λ n in_hand. ap (λ (r : LiveRow). flag_of r n) shown.mucked ∙ stands.mucked n (back t next n shown.seats in_hand);
}

pub muck_stands : (t next : CardState) (setup : Setup) (past : Past) (seat : ℕ) → StandsFor t past → IsMucked t next seat → StandsFor next (with_event setup (said.Muck seat) past)
unfolding with_event
muck_stands t next setup past seat stands mucked = record {
  places = ap placed mucked.places ∙ stands.places ∙ same_places t next past mucked.table;
  drew = λ street n in_hand. ap (λ (d : Draws). has_drawn_at d street n) mucked.draws ∙ stands.drew street n (back t next n mucked.seats in_hand);
  named = λ street n in_hand. ap (λ (d : Draws). named_at d street n) mucked.draws ∙ stands.named street n (back t next n mucked.seats in_hand);
  shown = λ n in_hand. ap (λ (r : LiveRow). flag_of r n) mucked.shown ∙ stands.shown n (back t next n mucked.seats in_hand);
  mucked = λ n in_hand. flag_is t.mucked next.mucked seat n (has_mucked past n) (seat == n) refl mucked.mucked (mucked.others n in_hand.first) (stands.mucked n (back t next n mucked.seats in_hand));
}
