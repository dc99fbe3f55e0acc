-- Each notation keeps the laws.
-- This is a proof: no reader needs it.
use Rattle.convert_core.specs.AcpcLaws as in_acpc
use Rattle.convert_core.specs.Formats.{meaning_of}
use Rattle.convert_core.specs.Lawful.{Lawful}
use Rattle.convert_core.specs.OhhLaws as in_ohh
use Rattle.convert_core.specs.PhhLaws as in_phh
use Rattle.convert_core.specs.declared.format.Format.{Format}
use Rattle.convert_core.specs.declared.format.Format.TheVariants as formats

pub lawful_of : (format : Format) → Lawful (meaning_of format)
lawful_of formats.Phh = in_phh.lawful
lawful_of (formats.Ohh dialect) = in_ohh.lawful dialect
lawful_of (formats.Acpc game) = in_acpc.lawful game
