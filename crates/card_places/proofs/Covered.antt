-- One more place that the event applies to.
use Rattle.std.proofs.Common.{◌≡◌, ◌+◌, Bool, true, false, ◌&&◌, cond, if◌then◌else◌, List, [], ◌∷◌, ◌++◌, filter, count_by, ap, ◌∙◌, arith}
use Rattle.std.proofs.lemmas.List.Elements.{filter-append}
use Rattle.std.proofs.lemmas.List.{append-nil}
use Rattle.card_set.proofs.Counting.{count_by-push}
use Rattle.play_event.specs.Places.{Place}

by_cover : (p : Place → Bool) (b : Bool) (xs : List Place) (x : Place) → count_by p (xs ++ (if b then (x ∷ []) else [])) ≡ count_by p xs + cond (b && p x) 1 0
by_cover p true xs x = count_by-push p xs x
by_cover p false xs x = ap (count_by p) (append-nil xs) ∙ omega arith

pub free_more : (p q : Place → Bool) (xs : List Place) (x : Place) → count_by p (filter q (xs ++ x ∷ [])) ≡ count_by p (filter q xs) + cond (q x && p x) 1 0
free_more p q xs x = ap (count_by p) (filter-append q xs (x ∷ [])) ∙ by_cover p (q x) (filter q xs) x
