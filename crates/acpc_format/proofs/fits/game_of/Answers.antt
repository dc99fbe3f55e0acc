use Rattle.std.proofs.Common.{ℕ, List, sym, ap, ◌∙◌}
use Rattle.acpc_game.specs.GameFile.{has_short_stack}
use Rattle.acpc_format.proofs.Making.{makes_game}
use Rattle.acpc_format.proofs.fits.game_of.Goals as goal
use Rattle.chip_ledger.specs.SeatRow.{amounts_in}

pub make_game-requires : goal.make_game-requires
make_game-requires c =
    let setup = c.args.play.now.trace.setup in
    makes_game c.in-Some.no_limit setup c.requires (sym c.limit_of.ensures ∙ c.in-Some.is)
    (ap (λ (stacks : List ℕ). has_short_stack stacks (amounts_in setup.blinds)) (sym c.as_slice.ensures)
    ∙ ap (has_short_stack c.as_slice.result.now) (sym c.as_slice-2.ensures)
    ∙ sym c.has_unplayable_stack.ensures ∙ c.if-has_unplayable_stack.false)
    (sym c.fits_greatest_blind.ensures ∙ c.if-not-fits_greatest_blind.false)
