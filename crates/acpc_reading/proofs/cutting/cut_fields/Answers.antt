use Rattle.std.proofs.Common.{◌≡◌, ℕ, ◌+◌, List, ◌∷◌, ◌∙◌, length, ap, arith}
use Rattle.acpc_game.specs.Parts.{parts_of}
use Rattle.acpc_reading.specs.Left.{len_left, parts_left}
use Rattle.acpc_reading.proofs.SixFields.{sixth_colon}
use Rattle.acpc_reading.proofs.cutting.cut_fields.Goals as goal

pub returns-in-Some-clause-fields : goal.returns-in-Some-clause-fields
returns-in-Some-clause-fields c =
    let a = c.cut_at.result.0.now in
    let b = c.cut_at-2.result.0.now in
    let d = c.cut_at-3.result.0.now in
    let e = c.cut_at-4.result.0.now in
    let f = c.cut_at-5.result.0.now in
    let g = c.cut_at-6.result.0.now in
    let first : parts_of 58 c.args.line.now ≡ a ∷ parts_of 58 c.in_default-Some.rest.now = c.cut_at.ensures.parts ∙ ap (λ rest. a ∷ parts_left 58 rest) c.in_default-Some.is-1 in
    let first_len : length c.args.line.now ≡ length a + (1 + length c.in_default-Some.rest.now) = c.cut_at.ensures.len ∙ ap (λ rest. length a + len_left rest) c.in_default-Some.is-1 in
    let second : parts_of 58 c.in_default-Some.rest.now ≡ b ∷ parts_of 58 c.in_default-Some-cut_at.rest.now = (rw c.in_default-Some.rest-is at c.cut_at-2.ensures.parts) ∙ ap (λ rest. b ∷ parts_left 58 rest) c.in_default-Some-cut_at.is-1 in
    let second_len : length c.in_default-Some.rest.now ≡ length b + (1 + length c.in_default-Some-cut_at.rest.now) = (rw c.in_default-Some.rest-is at c.cut_at-2.ensures.len) ∙ ap (λ rest. length b + len_left rest) c.in_default-Some-cut_at.is-1 in
    let third : parts_of 58 c.in_default-Some-cut_at.rest.now ≡ d ∷ parts_of 58 c.in_default-Some-cut_at-2.rest.now = (rw c.in_default-Some-cut_at.rest-is at c.cut_at-3.ensures.parts) ∙ ap (λ rest. d ∷ parts_left 58 rest) c.in_default-Some-cut_at-2.is-1 in
    let third_len : length c.in_default-Some-cut_at.rest.now ≡ length d + (1 + length c.in_default-Some-cut_at-2.rest.now) = (rw c.in_default-Some-cut_at.rest-is at c.cut_at-3.ensures.len) ∙ ap (λ rest. length d + len_left rest) c.in_default-Some-cut_at-2.is-1 in
    let fourth : parts_of 58 c.in_default-Some-cut_at-2.rest.now ≡ e ∷ parts_of 58 c.in_default-Some-cut_at-3.rest.now = (rw c.in_default-Some-cut_at-2.rest-is at c.cut_at-4.ensures.parts) ∙ ap (λ rest. e ∷ parts_left 58 rest) c.in_default-Some-cut_at-3.is-1 in
    let fourth_len : length c.in_default-Some-cut_at-2.rest.now ≡ length e + (1 + length c.in_default-Some-cut_at-3.rest.now) = (rw c.in_default-Some-cut_at-2.rest-is at c.cut_at-4.ensures.len) ∙ ap (λ rest. length e + len_left rest) c.in_default-Some-cut_at-3.is-1 in
    let fifth : parts_of 58 c.in_default-Some-cut_at-3.rest.now ≡ f ∷ parts_of 58 c.in_default-Some-cut_at-4.rest.now = (rw c.in_default-Some-cut_at-3.rest-is at c.cut_at-5.ensures.parts) ∙ ap (λ rest. f ∷ parts_left 58 rest) c.in_default-Some-cut_at-4.is-1 in
    let fifth_len : length c.in_default-Some-cut_at-3.rest.now ≡ length f + (1 + length c.in_default-Some-cut_at-4.rest.now) = (rw c.in_default-Some-cut_at-3.rest-is at c.cut_at-5.ensures.len) ∙ ap (λ rest. length f + len_left rest) c.in_default-Some-cut_at-4.is-1 in
    let sixth : parts_of 58 c.in_default-Some-cut_at-4.rest.now ≡ g ∷ parts_of 58 c.in-Some.more.now = (rw c.in_default-Some-cut_at-4.rest-is at c.cut_at-6.ensures.parts) ∙ ap (λ rest. g ∷ parts_left 58 rest) c.in-Some.is in
    let sixth_len : length c.in_default-Some-cut_at-4.rest.now ≡ length g + (1 + length c.in-Some.more.now) = (rw c.in_default-Some-cut_at-4.rest-is at c.cut_at-6.ensures.len) ∙ ap (λ rest. length g + len_left rest) c.in-Some.is in
    let cut : parts_of 58 c.args.line.now ≡ a ∷ b ∷ d ∷ e ∷ f ∷ g ∷ parts_of 58 c.in-Some.more.now = first ∙ ap (λ (rest : List (List ℕ)). a ∷ rest) (second ∙ ap (λ (rest : List (List ℕ)). b ∷ rest) (third ∙ ap (λ (rest : List (List ℕ)). d ∷ rest) (fourth ∙ ap (λ (rest : List (List ℕ)). e ∷ rest) (fifth ∙ ap (λ (rest : List (List ℕ)). f ∷ rest) (sixth))))) in
    let len : length c.args.line.now ≡ length a + (1 + (length b + (1 + (length d + (1 + (length e + (1 + (length f + (1 + (length g + (1 + length c.in-Some.more.now))))))))))) = omega (arith, first_len, second_len, third_len, fourth_len, fifth_len, sixth_len) in
    rw c.fault_at-in-Some.ensures (sixth_colon c.args.line.now a b d e f g c.in-Some.more.now cut len)
