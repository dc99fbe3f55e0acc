-- What holds of a game if nothing shows that handref does not support it.
use Rattle.std.proofs.Common.{◌≡◌, Bool, true, false, nat_le, ◌&&◌, List, [], ◌∷◌, Option, Some, None, refl}
use Rattle.std.specs.List.{AllByRecursion}
use Rattle.acpc_game.specs.declared.key.GameKey.{GameKey}
use Rattle.acpc_game.specs.declared.key.GameKey.TheVariants as keys
use Rattle.acpc_game.specs.Keys.{or_else}
use Rattle.acpc_game.specs.GameFile.{first_unsupported, unsupported_counts, unsupported_chips}
use Rattle.acpc_game.specs.GameEntries.{EntrySaid, number_at}
use Rattle.acpc_game.specs.Playable.{IsPlayable}
use Rattle.std.proofs.lemmas.Bool.{not-false}
use Rattle.first_fault.specs.Conditions.{first_where}

none_of : (tests : List (Bool × GameKey)) → first_where tests ≡ None → AllByRecursion (λ test. test.0 ≡ false) tests
none_of [] none = tt
none_of ((true, key) ∷ rest) none = absurd (cc (none))
none_of ((false, key) ∷ rest) none = (refl, none_of rest none)

none_both : (first second : Option GameKey) → or_else first second ≡ None → (first ≡ None) × (second ≡ None)
none_both (Some key) second none = absurd (cc (none))
none_both None second none = (refl, none)

pub playable : (entries : List EntrySaid) → first_unsupported entries ≡ None → IsPlayable entries
unfolding first_unsupported
playable entries none =
    let both = none_both (first_where (unsupported_counts entries)) (first_where (unsupported_chips entries)) none in
    let cards = none_of (unsupported_counts entries) both.0 in
    let stacked = none_of (unsupported_chips entries) both.1 in
    let in_order = stacked.1 in
    let opener = in_order.1 in
    let blind = opener.1 in
    let sizes = blind.1 in
    let first_size = sizes.1 in
    record {
      players = not-false (nat_le 2 (number_at keys.NumPlayers entries) && nat_le (number_at keys.NumPlayers entries) 10) cards.0;
      stacked = stacked.0;
      in_order = in_order.0;
      blind = blind.0;
      sizes = sizes.0;
      first_size = first_size.0;
    }
