-- Two texts that are the same table.
use Rattle.std.specs.Prelude.{◌≡◌, ℕ, List, Some}
use Rattle.toml.specs.Data.{Members}
use Rattle.toml.specs.Parse.{parse_document}

-- two texts are the same table: TOML reads both as this document
pub record AreSameTable (bytes too : List ℕ) : Type 0 where
  pub document : Members
  pub first : parse_document bytes ≡ Some document
  pub second : parse_document too ≡ Some document
