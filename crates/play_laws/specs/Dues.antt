-- Kinds of what is due.
use Rattle.std.specs.Prelude.{◌≤◌, ℕ, Bool, true, false, ◌==◌}
use Rattle.play_event.specs.declared.reason.Due.TheVariants as dues
use Rattle.play_event.specs.declared.reason.Due.{Due}

-- a deal or a draw is due
abbrev pub is_deal_or_draw : Due → Bool
is_deal_or_draw (dues.Deal street) = true
is_deal_or_draw (dues.Draw street) = true
is_deal_or_draw dues.BringIn = false
is_deal_or_draw dues.Move = false
is_deal_or_draw dues.Show = false
is_deal_or_draw dues.Over = false

-- a deal, a draw or a show is due
abbrev pub is_cards_due : Due → Bool
is_cards_due (dues.Deal street) = true
is_cards_due (dues.Draw street) = true
is_cards_due dues.Show = true
is_cards_due dues.BringIn = false
is_cards_due dues.Move = false
is_cards_due dues.Over = false

-- the street of a deal or a draw is from 1 to this number
abbrev pub IsDueWithin : ℕ → Due → Type 0
IsDueWithin most (dues.Deal on) = (1 ≤ on) × (on ≤ most)
IsDueWithin most (dues.Draw on) = (1 ≤ on) × (on ≤ most)
IsDueWithin most dues.BringIn = Unit {0}
IsDueWithin most dues.Move = Unit {0}
IsDueWithin most dues.Show = Unit {0}
IsDueWithin most dues.Over = Unit {0}

-- a deal or a draw is of this street
abbrev pub is_of_street : ℕ → Due → Bool
is_of_street street (dues.Deal on) = on == street
is_of_street street (dues.Draw on) = on == street
is_of_street street dues.BringIn = true
is_of_street street dues.Move = true
is_of_street street dues.Show = true
is_of_street street dues.Over = true

-- nobody has moved on the street while its cards or its bring-in is due
abbrev pub is_before_moves : Due → Bool
is_before_moves (dues.Deal street) = true
is_before_moves (dues.Draw street) = true
is_before_moves dues.BringIn = true
is_before_moves dues.Move = false
is_before_moves dues.Show = false
is_before_moves dues.Over = false

-- a move is due
abbrev pub is_move : Due → Bool
is_move dues.Move = true
is_move dues.BringIn = false
is_move (dues.Deal street) = false
is_move (dues.Draw street) = false
is_move dues.Show = false
is_move dues.Over = false
