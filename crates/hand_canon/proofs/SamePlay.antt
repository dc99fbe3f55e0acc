-- Records that say the same plain hand say the same play.
use Rattle.std.proofs.Common.{◌≡◌, ℕ, ◌<◌, get_or, slice_index_or, Option, None, sym, ap, ap₂, ◌∙◌, arith}
use Rattle.std.proofs.lemmas.List.{get_or-take}
use Rattle.card_set.proofs.RowLaws.{cards_same, slots_same}
use Rattle.chip_ledger.specs.declared.numbers.Seat.{Seat}
use Rattle.chip_ledger.proofs.Same.{seat_same}
use Rattle.hand_canon.proofs.SameSetups.{amounts_same, rakes_same, setups_same}
use Rattle.card_set.proofs.Options.{options_same}
use Rattle.hand_canon.specs.declared.record.Record.{Record}
use Rattle.play_event.specs.declared.event.Event.{Event}
use Rattle.play_event.specs.declared.event.Kind.{Kind}
use Rattle.play_event.specs.declared.event.Kind.TheVariants as kinds
use Rattle.play_event.specs.declared.setup.Setup.{Setup}
use Rattle.play_event.specs.Said.{Numbered, kind_said, numbered, seat_named}
use Rattle.hand_canon.specs.PlainHands.{PlainHand, PlainSetup, plain, plain_setup}
use Rattle.card_set.proofs.Lists.{lists_same}
use Rattle.chip_ledger.specs.SeatRow.{amounts_in}
use Rattle.hand_canon.specs.StatedFacts.{stated_from}

actor_same : (a b : Option Seat) → seat_named a ≡ seat_named b → a ≡ b
actor_same a b same = options_same (λ (seat : Seat). seat.number) seat_same a b same

kind_same : (a b : Kind) → kind_said a ≡ kind_said b → a ≡ b
kind_same (kinds.Hole a xs) (kinds.Hole b ys) same = ap₂ kinds.Hole (seat_same a b (cc)) (slots_same xs ys (cc))
kind_same (kinds.Board xs) (kinds.Board ys) same = ap kinds.Board (cards_same xs ys (cc))
kind_same (kinds.Fold a) (kinds.Fold b) same = ap kinds.Fold (actor_same a b (cc))
kind_same (kinds.Call a n) (kinds.Call b m) same = ap₂ kinds.Call (actor_same a b (cc)) (cc)
kind_same (kinds.Raise a x) (kinds.Raise b y) same = ap₂ kinds.Raise (actor_same a b (cc)) (cc)
kind_same (kinds.BringIn a) (kinds.BringIn b) same = ap kinds.BringIn (actor_same a b (cc))
kind_same (kinds.Discard a xs) (kinds.Discard b ys) same = ap₂ kinds.Discard (seat_same a b (cc)) (slots_same xs ys (cc))
kind_same (kinds.Show a xs) (kinds.Show b ys) same = ap₂ kinds.Show (seat_same a b (cc)) (cards_same xs ys (cc))
kind_same (kinds.Muck a) (kinds.Muck b) same = ap kinds.Muck (seat_same a b (cc))
kind_same a b same = absurd (cc)

event_same : (a b : Event) → numbered a ≡ numbered b → a ≡ b
event_same a b same =
    ap₂ (λ at kind. record { at = at; kind = kind }) (ap (λ (n : Numbered). n.0) same)
    (kind_same a.kind b.kind (ap (λ (n : Numbered). n.1) same))

-- setups that say the same are equal
pub setup_same : (s t : Setup) → plain_setup s ≡ plain_setup t → s.rakes.rakes ≡ t.rakes.rakes → s ≡ t
setup_same s t same rakes =
    setups_same s t (record {
      code = ap (λ (setup : PlainSetup). setup.code) same;
      stacks = amounts_same s.stacks t.stacks (ap (λ (setup : PlainSetup). setup.stacks) same);
      antes = amounts_same s.antes t.antes (ap (λ (setup : PlainSetup). setup.antes) same);
      dead_antes = ap (λ (setup : PlainSetup). setup.dead_antes) same;
      blinds = amounts_same s.blinds t.blinds (ap (λ (setup : PlainSetup). setup.blinds) same);
      bring_in = ap (λ (setup : PlainSetup). setup.sizes.bring_in) same;
      small_bet = ap (λ (setup : PlainSetup). setup.sizes.small_bet) same;
      big_bet = ap (λ (setup : PlainSetup). setup.sizes.big_bet) same;
      min_bet = ap (λ (setup : PlainSetup). setup.sizes.min_bet) same;
      rakes = rakes_same s.rakes t.rakes rakes;
    })

pub same_setup : (a b : Record) → plain a ≡ plain b → a.setup ≡ b.setup
same_setup a b same =
    setup_same a.setup b.setup (ap (λ (hand : PlainHand). hand.setup) same) (ap (λ (hand : PlainHand). hand.rakes) same)

pub same_rules : (a b : Record) → plain a ≡ plain b → a.rules ≡ b.rules
same_rules a b same = ap (λ (hand : PlainHand). hand.rules) same

pub same_script : (a b : Record) → plain a ≡ plain b → a.script ≡ b.script
same_script a b same = lists_same numbered event_same a.script b.script (ap (λ (hand : PlainHand). hand.script) same)

pub same_stated : (a b : Record) → plain a ≡ plain b → a.stated ≡ b.stated
unfolding stated_from
same_stated a b same =
    let s = a.stated in
    let t = b.stated in
    let finish = options_same amounts_in amounts_same s.finish t.finish (ap (λ (hand : PlainHand). hand.stated.finish) same) in
    let wins = options_same amounts_in amounts_same s.wins t.wins (ap (λ (hand : PlainHand). hand.stated.wins) same) in
    let first : s ≡ stated_from t.finish t.wins s.pot_total s.values =
    ap₂ (λ finish wins. stated_from finish wins s.pot_total s.values) finish wins in
    first ∙ ap₂ (λ total values. stated_from t.finish t.wins total values) (ap (λ (hand : PlainHand). hand.stated.pot_total) same) (ap (λ (hand : PlainHand). hand.stated.values) same)

-- the names of the seats
pub same_name : (a b : Record) → plain a ≡ plain b → (index : ℕ) → index < a.setup.stacks.seats
    → slice_index_or a.notes.names index None ≡ slice_index_or b.notes.names index None
same_name a b same index within =
    let count : a.setup.stacks.seats ≡ b.setup.stacks.seats = ap (λ (setup : Setup). setup.stacks.seats) (same_setup a b same) in
    sym (get_or-take a.setup.stacks.seats a.notes.names index None within)
    ∙ ap (λ (hand : PlainHand). get_or hand.notes.names index None) same
    ∙ get_or-take b.setup.stacks.seats b.notes.names index None (omega (arith, within, count))
