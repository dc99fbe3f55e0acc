-- The state is of the game of the type.
use Rattle.std.proofs.Common.{◌≡◌, ℕ, sym, ap, subst, ◌∙◌}
use Rattle.play_event.specs.declared.code.Code.{Code}
use Rattle.play_event.specs.declared.reason.Due.{Due}
use Rattle.play_event.specs.Games.{street_count}
use Rattle.play_laws.specs.Dues.{IsDueWithin}

pub due_in : (code game : Code) (streets : ℕ) (due : Due) → code ≡ game → streets ≡ street_count game → IsDueWithin streets due → IsDueWithin (street_count code) due
due_in code game streets due code_is streets_is within =
    subst (λ (n : ℕ). IsDueWithin n due) (streets_is ∙ ap street_count (sym code_is)) within
