-- What comes next by the calls on the cards is what comes next after the past.
use Rattle.std.proofs.Common.{◌≡◌, ℕ, Option, Some, None, ap, ◌∙◌}
use Rattle.chip_ledger.specs.SeatsSaid.{seat_said}
use Rattle.play_event.specs.declared.reason.Due.{Due}
use Rattle.play_event.specs.declared.setup.Rules.{Rules}
use Rattle.play_event.specs.declared.setup.Setup.{Setup}
use Rattle.play_event.specs.Dealing.{board_cards_owed, cards_owed}
use Rattle.play_event.specs.Due.{turn}
use Rattle.play_event.specs.Past.{Past}
use Rattle.card_places.specs.declared.owing.NextDeal.{NextDeal}
use Rattle.deal_core.specs.NextDeal.{IsNextDeal, owed_to}
use Rattle.hand_gen.specs.Coming.{board_of, coming, comes_at, deal_comes, deal_of, hole_of}
use Rattle.hand_gen.specs.Seen.{dealt_to}
use Rattle.hand_gen.specs.HandSource.{HandSource}

-- what comes when this is due
pub coming_at : (setup : Setup) (rules : Rules) (past : Past) (stock : HandSource) (street : ℕ) (due : Due) → turn setup past ≡ (street, due) → coming setup rules past stock ≡ comes_at setup rules past stock street due
unfolding coming
coming_at setup rules past stock street due is = ap (λ (t : ℕ × Due). comes_at setup rules past stock t.0 t.1) is

-- what a deal brings to an owner that is due this number of cards
by_owner : (setup : Setup) (past : Past) (on : ℕ) (stock : HandSource) (owner : Option ℕ) (count : ℕ) → count ≡ owed_to setup past on owner → dealt_to owner count stock ≡ deal_of owner (cards_owed setup past on) (board_cards_owed setup past on) stock
by_owner setup past on stock None count is = ap (λ n. board_of n stock) is
by_owner setup past on stock (Some seat) count is = ap (λ n. hole_of n stock seat) is

-- a deal
pub deal_is : (setup : Setup) (past : Past) (on : ℕ) (stock : HandSource) (deal : NextDeal) → IsNextDeal setup past on deal → dealt_to (seat_said deal.owner) deal.count stock ≡ deal_comes setup past on stock
deal_is setup past on stock deal next =
    by_owner setup past on stock (seat_said deal.owner) deal.count next.count
    ∙ ap (λ owner. deal_of owner (cards_owed setup past on) (board_cards_owed setup past on) stock) next.owner
