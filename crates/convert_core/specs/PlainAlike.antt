-- Records of hand histories that say the same with plain lists are alike.
-- This is a proof: no reader needs it.
use Rattle.std.proofs.Common.{◌≡◌, ℕ, List, [], ◌∷◌, map, take, option_map, sym, subst, ap, ◌∙◌}
use Rattle.std.specs.List.{AllByRecursion}
use Rattle.hand_canon.specs.AllowedNotes.{AreAllowed}
use Rattle.hand_canon.specs.declared.record.Record.{Record}
use Rattle.hand_canon.specs.Histories.{IsHistory}
use Rattle.hand_canon.specs.PlainHands.{PlainHand, plain}
use Rattle.hand_canon.proofs.SamePlay.{same_rules, same_script, same_setup, same_stated}
use Rattle.play_event.specs.declared.setup.Setup.{Setup}
use Rattle.convert_core.specs.SameParts.{names_same}
use Rattle.convert_core.specs.SameRecords.{AllAlike, AreAlike}

module _ (a b : Record) (is : IsHistory a) (it : IsHistory b) (same : plain a ≡ plain b) where
  -- their setups are equal
  setups : a.setup ≡ b.setup
  setups = same_setup a b same

  -- they have the same number of seats
  count : a.setup.stacks.seats ≡ b.setup.stacks.seats
  count = ap (λ (setup : Setup). setup.stacks.seats) setups

  -- the seats have the same names
  names : take a.setup.stacks.seats a.notes.names ≡ take a.setup.stacks.seats b.notes.names
  names =
      ap (λ (hand : PlainHand). hand.notes.names) same
      ∙ ap (λ (n : ℕ). take n b.notes.names) (sym count)

  -- the seats have the same numbers
  numbers :
      option_map (take a.setup.stacks.seats) a.notes.seats
      ≡ option_map (take a.setup.stacks.seats) b.notes.seats
  numbers =
      ap (λ (hand : PlainHand). hand.notes.seats) same
      ∙ ap (λ (n : ℕ). option_map (take n) b.notes.seats) (sym count)

  -- the notes of the other record are allowed for the same number of seats
  allowed : AreAllowed a.setup.stacks.seats b.notes
  allowed = subst (λ (n : ℕ). AreAllowed n b.notes) (sym count) it.sound.notes

  -- two hands that say the same are alike
  pub hand_alike : AreAlike a b
  hand_alike =
      record {
        same =
            record {
              setup = setups;
              rules = same_rules a b same;
              script = same_script a b same;
              stated = same_stated a b same;
            };
        notes =
            record {
              names =
                  names_same a.setup.stacks.seats a.notes.names b.notes.names names
                  is.sound.notes.no_more_names allowed.no_more_names;
              seats = numbers;
              seat_count = ap (λ (hand : PlainHand). hand.notes.seat_count) same;
              hand = ap (λ (hand : PlainHand). hand.notes.hand) same;
              texts = ap (λ (hand : PlainHand). hand.notes.texts) same;
              year = ap (λ (hand : PlainHand). hand.notes.year) same;
              month = ap (λ (hand : PlainHand). hand.notes.month) same;
              day = ap (λ (hand : PlainHand). hand.notes.day) same;
              time = ap (λ (hand : PlainHand). hand.notes.time) same;
              zone = ap (λ (hand : PlainHand). hand.notes.zone) same;
            };
      }

-- records that say the same are alike, one by one
pub all_alike : (records others : List Record) → AllByRecursion IsHistory records
    → AllByRecursion IsHistory others → map plain records ≡ map plain others
    → AllAlike records others
unfolding AllAlike
all_alike [] [] all each same = tt
all_alike [] (b ∷ others) all each same = absurd (cc)
all_alike (a ∷ rest) [] all each same = absurd (cc)
all_alike (a ∷ rest) (b ∷ others) all each same =
    (hand_alike a b all.0 each.0 (cc), all_alike rest others all.1 each.1 (cc))
