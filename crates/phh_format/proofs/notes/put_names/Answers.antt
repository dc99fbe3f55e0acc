use Rattle.std.proofs.Common.{◌≡◌, ℕ, suc, ◌+◌, ◌++◌, ◌∷◌, [], List, map, ap, sym, ◌∙◌, arith}
use Rattle.std.specs.List.{range_with_len}
use Rattle.std.proofs.lemmas.List.{map_push}
use Rattle.toml.specs.Data.{Data, string}
use Rattle.toml.specs.View.{view}
use Rattle.card_set.proofs.Ranges.{range_more}
use Rattle.phh_format.proofs.notes.put_names.Goals as goal
use Rattle.hand_canon.specs.AllowedNotes.{name_written}

pub loop-index-preserved : goal.loop-index-preserved
loop-index-preserved c =
    let n = c.loop-index.index in
    let f = name_written c.args.notes.now in
    let next : n + 1 ≡ suc n = omega arith in
    let last : 1 + n ≡ n + 1 = omega arith in
    let longer : range_with_len 1 (n + 1) ≡ range_with_len 1 n ++ (n + 1) ∷ [] =
    ap (range_with_len 1) next ∙ range_more 1 n ∙ ap (λ (seat : ℕ). range_with_len 1 n ++ seat ∷ []) last in
    let more : map string (map f (range_with_len 1 (n + 1))) ≡ map string (map f (range_with_len 1 n)) ++ string (f (n + 1)) ∷ [] =
    ap (λ (seats : List ℕ). map string (map f seats)) longer ∙ ap (map string) (map_push f (range_with_len 1 n) (n + 1)) ∙ map_push string (map f (range_with_len 1 n)) (f (n + 1)) in
    ap (map view) c.in_ok-try_push.ensures.items ∙ map_push view c.loop-index.values.items c.text.result
    ∙ ap (λ (d : Data). map view c.loop-index.values.items ++ d ∷ []) (c.text.ensures ∙ ap string c.in_ok-name.ensures)
    ∙ ap (λ (ds : List Data). ds ++ string (f (n + 1)) ∷ []) c.loop-index.invariant
    ∙ sym more
