-- How the places of the canonical script relate to those of the script.
use Rattle.std.specs.Prelude.{◌≡◌, Bool, ◌||◌, if◌then◌else◌, List, [], ◌∷◌, is_some}
use Rattle.play_event.specs.Past.{Move}
use Rattle.play_event.specs.Places.{Place}
use Rattle.play_laws.specs.LegalPlaces.{has_owner_folded}

-- how a place of the canonical script relates to the place of the same card in the script: the
-- moves so far and the discards so far decide what is gone
pub record Mirrors (moves : List Move) (out : Place → Bool) (mine final : Place) : Type 0 where
  pub owner : mine.owner ≡ final.owner
  pub street : mine.street ≡ final.street
  pub index : mine.index ≡ final.index
  pub slot : mine.slot ≡ final.slot
  pub discarded : mine.discarded ≡ (if out final then final.discarded else 0)
  pub gone_after : is_some mine.gone_after ≡ (out final || has_owner_folded moves final.owner)

-- so do all places, in the same order
abbrev pub AreMirrored : List Move → (Place → Bool) → List Place → List Place → Type 0
AreMirrored moves out [] [] = Unit {0}
AreMirrored moves out [] (final ∷ finals) = ⊥
AreMirrored moves out (mine ∷ mines) [] = ⊥
AreMirrored moves out (mine ∷ mines) (final ∷ finals) = Mirrors moves out mine final × AreMirrored moves out mines finals
