-- A play that the format cannot write is in no bytes: each hand that is read is under the rules of
-- hand histories, where no raise of a legal hand is closed.
use Rattle.std.proofs.Common.{◌≡◌, ℕ, ◌+◌, ◌-◌, nat_lt, Bool, true, false, if◌then◌else◌, List, [], ◌∷◌, ◌++◌, map, Option, Some, None, Result, Ok, Err, IfOk, length, refl, sym, ap, subst, ◌∙◌}
use Rattle.std.specs.List.{AllByRecursion, list_any}
use Rattle.toml.specs.Data.{Data, Members}
use Rattle.chip_ledger.specs.declared.seat_row.TheConstants.{MOST_AMOUNT}
use Rattle.phh_reading.specs.declared.field_fault.FieldKey.TheVariants as keys
use Rattle.phh_reading.specs.Fields.{field_value, key_place, list_said, required_value}
use Rattle.phh_reading.specs.NoteFields.{notes_said}
use Rattle.phh_reading.specs.Rows.{row_said}
use Rattle.phh_reading.specs.SetupFields.{setup_said}
use Rattle.phh_reading.specs.Events.{counts_after, events_said}
use Rattle.phh_reading.specs.declared.events.EventCounts.{EventCounts}
use Rattle.play_event.specs.Said.{Numbered}
use Rattle.card_set.proofs.Any.{list_any-map}
use Rattle.card_set.proofs.Tests.{false_true}
use Rattle.first_fault.specs.Reading.{◌>>=◌, read_if, thread_from}
use Rattle.play_event.specs.HistoryRules.{history_rules}
use Rattle.play_event.specs.Played.{move_said}
use Rattle.hand_canon.specs.SoundRecord.{script_said}
use Rattle.hand_canon.specs.declared.record.Record.{Record}
use Rattle.hand_canon.specs.declared.trace.Play.{Play}
use Rattle.hand_canon.specs.declared.writing.Unspelled.{Unspelled}
use Rattle.hand_canon.specs.declared.writing.Unspelled.TheVariants as facts
use Rattle.hand_canon.specs.LegalPlay.{IsTraceOfLegal}
use Rattle.canon_laws.proofs.SuitedRules.{suits_own}
use Rattle.phh_reading.specs.Hand.{finish_stated, hand_said, rakes_at}
use Rattle.phh_reading.specs.Reading.{Wrong, at_variant, document_of, document_said, hands_of, hands_said, numbered_hand, reading, records_said, result_in_hand, those_said}
use Rattle.phh_reading.specs.declared.field_fault.FieldFault.{FieldFault}
use Rattle.phh_reading.specs.declared.field_fault.FieldFaultKind.{FieldFaultKind}
use Rattle.phh_reading.specs.declared.field_fault.FieldFaultKind.TheVariants as whats
use Rattle.first_fault.specs.declared.limits.Quantity.TheVariants as quantities
use Rattle.first_fault.specs.declared.limits.TheConstants.{MOST_HANDS}
use Rattle.phh_format.specs.Spelled.{unspelled}
use Rattle.hand_canon.specs.Sharp.{IsOther}
use Rattle.first_fault.proofs.Thread.{bound}
use Rattle.hand_canon.specs.PlainHands.{PlainHand, PlainSetup, plain}
use Rattle.hand_canon.specs.SaidNotes.{SaidNotes}

-- a hand under the rules of hand histories
abbrev IsRuled : PlainHand → Type 0
IsRuled hand = hand.rules ≡ history_rules

abbrev AreRuled : {S : Type 0} → List PlainHand × S → Type 0
AreRuled found = AllByRecursion IsRuled found.0

module _ (file_moves place : ℕ) (members : Members) where
  -- what is read after each field, in order
  abbrev after_notes : PlainSetup → List Numbered × EventCounts → Option (List ℕ) → List ℕ → SaidNotes → Result (PlainHand × ℕ) FieldFault
  after_notes setup events finish rakes notes =
      Ok (record { setup = setup; rakes = rakes; rules = history_rules; script = events.0; stated = finish_stated finish; notes = notes }, events.1.file_moves)

  abbrev after_rakes : PlainSetup → List Numbered × EventCounts → Option (List ℕ) → List ℕ → Result (PlainHand × ℕ) FieldFault
  after_rakes setup events finish rakes = notes_said place (length setup.stacks) members >>= after_notes setup events finish rakes

  abbrev after_finish : PlainSetup → List Numbered × EventCounts → Option (List ℕ) → Result (PlainHand × ℕ) FieldFault
  after_finish setup events finish = rakes_at members >>= after_rakes setup events finish

  abbrev finish_read : PlainSetup → Result (Option (List ℕ)) FieldFault
  finish_read setup = read_if (row_said (length setup.stacks) MOST_AMOUNT keys.FinishingStacks) (field_value keys.FinishingStacks members)

  abbrev after_events : PlainSetup → List Numbered × EventCounts → Result (PlainHand × ℕ) FieldFault
  after_events setup events = finish_read setup >>= after_finish setup events

  abbrev after_actions : PlainSetup → List Data → Result (PlainHand × ℕ) FieldFault
  after_actions setup actions = events_said (length setup.stacks) (counts_after file_moves) actions >>= after_events setup

  abbrev actions_read : Result (List Data) FieldFault
  actions_read = required_value keys.Actions members >>= list_said (key_place keys.Actions)

  abbrev after_setup : PlainSetup → Result (PlainHand × ℕ) FieldFault
  after_setup setup = actions_read >>= after_actions setup

  abbrev IsFound : PlainHand × ℕ → Type 0
  IsFound found = IsRuled found.0

  hand_ruled : IfOk (hand_said file_moves place members) IsFound
  unfolding hand_said
  hand_ruled =
      bound IsFound (setup_said members) after_setup (λ setup.
      bound IsFound actions_read (after_actions setup) (λ actions.
      bound IsFound (events_said (length setup.stacks) (counts_after file_moves) actions) (after_events setup) (λ events.
      bound IsFound (finish_read setup) (after_finish setup events) (λ finish.
      bound IsFound (rakes_at members) (after_rakes setup events finish) (λ rakes.
      bound IsFound (notes_said place (length setup.stacks) members) (after_notes setup events finish rakes) (λ notes. refl))))))

one_ruled : (number : ℕ) (read : Result (PlainHand × ℕ) FieldFault) → IfOk read (λ found. IsRuled found.0) → IfOk (result_in_hand number read >>= λ found. Ok (found.0 ∷ [], found.1)) AreRuled
one_ruled number (Ok found) is = (is, tt)
one_ruled number (Err fault) is = tt

by_limit : (here : Result (List PlainHand × ℕ) Wrong) (number : ℕ) (what : FieldFaultKind) (late : Bool) → IfOk here AreRuled → IfOk (if late then at_variant number what else here) AreRuled
by_limit here number what true is = tt
by_limit here number what false is = is

numbered_ruled : (file_moves number : ℕ) (members : Members) → IfOk (numbered_hand file_moves number members) AreRuled
unfolding numbered_hand
numbered_ruled file_moves number members =
    by_limit (result_in_hand number (hand_said file_moves (number - 1) members) >>= λ found. Ok (found.0 ∷ [], found.1)) number (whats.TooMany quantities.Hands) (nat_lt MOST_HANDS number) (one_ruled number (hand_said file_moves (number - 1) members) (hand_ruled file_moves (number - 1) members))

both_ruled : (some more : List PlainHand) → AllByRecursion IsRuled some → AllByRecursion IsRuled more → AllByRecursion IsRuled (some ++ more)
both_ruled [] more each others = others
both_ruled (hand ∷ some) more each others = (each.0, both_ruled some more each.1 others)

then_ruled : (found : List PlainHand × ℕ) (others : Result (List PlainHand × ℕ) Wrong) → AreRuled found → IfOk others AreRuled → IfOk (others >>= λ rest. Ok (found.0 ++ rest.0, rest.1)) AreRuled
then_ruled found (Ok rest) is all = both_ruled found.0 rest.0 is all
then_ruled found (Err fault) is all = tt

-- hands after the first one, from the moves of the file after it
rest_ruled : (rest : ℕ → Result (List PlainHand × ℕ) Wrong) (first : Result (List PlainHand × ℕ) Wrong) → IfOk first AreRuled → ((file_moves : ℕ) → IfOk (rest file_moves) AreRuled)
    → IfOk (first >>= λ found. rest found.1 >>= λ others. Ok (found.0 ++ others.0, others.1)) AreRuled
rest_ruled rest (Ok found) is all = then_ruled found (rest found.1) is (all found.1)
rest_ruled rest (Err fault) is all = tt

threaded : (file_moves number : ℕ) (hands : List Members) → IfOk (thread_from numbered_hand file_moves number hands) AreRuled
unfolding thread_from
threaded file_moves number [] = tt
threaded file_moves number (members ∷ rest) =
    rest_ruled (λ moves. thread_from numbered_hand moves (number + 1) rest) (numbered_hand file_moves number members) (numbered_ruled file_moves number members) (λ moves. threaded moves (number + 1) rest)

records_ruled : (hands : List Members) → IfOk (records_said hands) (AllByRecursion IsRuled)
records_ruled hands = by_hands (hands_said hands) (threaded 0 1 hands)
  where
    by_hands : (found : Result (List PlainHand × ℕ) Wrong) → IfOk found AreRuled → IfOk (found >>= λ them. Ok them.0) (AllByRecursion IsRuled)
    by_hands (Ok found) is = is
    by_hands (Err fault) is = tt

those_ruled : (hands : Option (List Members)) → IfOk (those_said hands) (AllByRecursion IsRuled)
those_ruled (Some hands) = records_ruled hands
those_ruled None = tt

document_ruled : (document : Option Members) → IfOk (document_said document) (AllByRecursion IsRuled)
document_ruled None = tt
document_ruled (Some members) = those_ruled (hands_of members)

-- each hand that is read from bytes is under the rules of hand histories
reading_ruled : (bytes : List ℕ) → IfOk (reading bytes) (AllByRecursion IsRuled)
unfolding reading
reading_ruled bytes = document_ruled (document_of bytes)

-- so a legal one has no closed raise
none_closed : (play : Play) (hand : Record) → hand.rules ≡ history_rules → IsTraceOfLegal hand play.trace → list_any (λ move. move.closed) play.trace.moves ≡ false
none_closed play hand ruled traced =
    let suits = suits_own hand.setup hand.rules (script_said hand) traced.legal.played in
    sym (list_any-map (λ move. move.closed) move_said play.trace.moves)
    ∙ ap (λ core. list_any (λ move. move.closed) core.moves) traced.whole.core
    ∙ suits.no_closed_raise (ap (λ rules. rules.reopen) ruled)

closed_is : (closed : Bool) (fact : Unspelled) → (if closed then Some facts.ReopenedShort else None) ≡ Some fact → closed ≡ true
closed_is true fact is = refl
closed_is false fact is = absurd (cc)

each_other : (play : Play) (fact : Unspelled) → unspelled play ≡ Some fact → (hands : List Record) → AllByRecursion IsRuled (map plain hands) → AllByRecursion (IsOther play) hands
unfolding unspelled
each_other play fact is [] ruled = tt
each_other play fact is (hand ∷ hands) ruled = (
  λ traced. false_true (sym (none_closed play hand ruled.0 traced) ∙ closed_is (list_any (λ move. move.closed) play.trace.moves) fact is),
  each_other play fact is hands ruled.1,
)

-- what the format cannot write is in no bytes
pub unspelled_unsaid : (play : Play) (fact : Unspelled) → unspelled play ≡ Some fact → (bytes : List ℕ) (hands : List Record) → reading bytes ≡ Ok (map plain hands) → AllByRecursion (IsOther play) hands
unspelled_unsaid play fact is bytes hands reads =
    let P : Result (List PlainHand) Wrong → Type 0 = λ read. IfOk read (AllByRecursion IsRuled) in
    each_other play fact is hands (subst P reads (reading_ruled bytes))
