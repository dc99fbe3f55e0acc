-- When a deal, a draw or a show is complete, and when the walk over the streets has reached it.
use Rattle.std.specs.Prelude.{◌≡◌, ℕ, Bool, false, not, None}
use Rattle.play_event.specs.Dealing.{is_deal_due, is_draw_due}
use Rattle.play_event.specs.Due.{due_on}
use Rattle.play_event.specs.Games.{street_count}
use Rattle.play_event.specs.Past.{Past}
use Rattle.play_event.specs.Showing.{is_show_due}
use Rattle.play_event.specs.Streets.{has_draw}
use Rattle.play_event.specs.declared.reason.Due.TheVariants as dues
use Rattle.play_event.specs.declared.reason.Due.{Due}
use Rattle.play_event.specs.declared.setup.Setup.{Setup}

-- the deal, draw or show that is due is complete in the past
abbrev pub is_done : Setup → Past → Due → Bool
is_done setup past (dues.Deal street) = not (is_deal_due setup past street)
is_done setup past (dues.Draw street) = not (is_draw_due setup past street)
is_done setup past dues.Show = not (is_show_due setup past)
is_done setup past dues.BringIn = false
is_done setup past dues.Move = false
is_done setup past dues.Over = false

-- the walk over the streets has reached this due
abbrev pub HasCome : Setup → Past → ℕ → Due → Type 0
HasCome setup past street (dues.Deal on) = (on ≡ street) × (has_draw setup.code street ≡ false)
HasCome setup past street (dues.Draw on) = (on ≡ street) × (is_deal_due setup past street ≡ false)
HasCome setup past street dues.Show =
    (street ≡ street_count setup.code) × (due_on setup past street ≡ None)
HasCome setup past street dues.BringIn = ⊥
HasCome setup past street dues.Move = ⊥
HasCome setup past street dues.Over = ⊥
