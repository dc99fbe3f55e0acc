-- A stated fact that differs from the replayed one, as text.
use Rattle.std.specs.Prelude.{ℕ, List, ◌++◌, codes}
use Rattle.std.specs.Fmt.{decimal, signed_decimal}
use Rattle.hand_canon.specs.declared.agreement.FactDiffers.{FactDiffers}
use Rattle.hand_canon.specs.declared.agreement.Which.{Which}
use Rattle.hand_canon.specs.declared.agreement.Which.TheVariants as whiches

-- which stated fact differs
abbrev pub which_text : Which → List ℕ
which_text (whiches.Finish seat) = codes "finish p" ++ decimal seat.number
which_text (whiches.Win seat) = codes "win p" ++ decimal seat.number
which_text whiches.Pots = codes "pots"
which_text (whiches.Value seat) = codes "value p" ++ decimal seat.number

-- a stated fact that differs, with both numbers
abbrev pub differs_text : FactDiffers → List ℕ
differs_text differs =
    which_text differs.which
    ++ (codes " stated "
    ++ (signed_decimal differs.stated
    ++ (codes ", replayed " ++ signed_decimal differs.replayed)))
