-- One more play is counted.
use Rattle.std.proofs.Common.{◌≡◌, ℕ, ◌+◌, List, [], ◌∷◌, ◌++◌, length, sum_by, sym, subst, ap, ◌∙◌, arith, length-append}
use Rattle.std.proofs.lemmas.List.{length-map, map-append}
use Rattle.std.proofs.lemmas.List.Elements.{All-push}
use Rattle.std.proofs.lemmas.List.Sums.{sum_by_push}
use Rattle.hand_canon.specs.Sound.{IsSound}
use Rattle.hand_canon.specs.declared.record.Record.{Record}
use Rattle.hand_canon.specs.declared.trace.Play.{Play}
use Rattle.hand_gen.specs.declared.summary.PlayCounts.{PlayCounts}
use Rattle.hand_gen.specs.declared.summary.Summary.{Summary}
use Rattle.hand_gen.specs.Load.{AreCountsOf, IsLoadTo, IsSummaryOf}
use Rattle.hand_gen.specs.Loaded.{IsWithCounts}
use Rattle.hand_gen.specs.Made.{AreMadeFrom, IsMade, number_behind, number_behind_all}
use Rattle.hand_gen.proofs.MadeLaws.{number_more, one_hand_more}
use Rattle.card_set.proofs.Entries.{zip_push}
use Rattle.hand_canon.specs.Plays.{hands_of}

-- one more summand
one_sum : (f : PlayCounts → ℕ) (counts : List PlayCounts) (more : PlayCounts) (before after : ℕ) → before ≡ sum_by f counts → after ≡ before + f more → after ≡ sum_by f (counts ++ more ∷ [])
one_sum f counts more before after is step = omega (arith, is, step, sum_by_push f counts more)

-- the summary of one more play
summary_more : (plays : List Play) (play : Play) (before after : Summary) (more : PlayCounts) → IsSummaryOf plays before → AreCountsOf play more → IsWithCounts before more after → IsSummaryOf (plays ++ play ∷ []) after
summary_more plays play before after more is counted step =
    record {
      counts = is.counts ++ more ∷ [];
      counted = zip_push AreCountsOf plays is.counts play more is.counted counted;
      hands = omega (arith, is.hands, step.hands, length-append plays (play ∷ []));
      moves = one_sum (λ (c : PlayCounts). c.moves) is.counts more before.moves after.moves is.moves step.moves;
      pots = one_sum (λ (c : PlayCounts). c.pots) is.counts more before.pots after.pots is.pots step.pots;
      phh = one_sum (λ (c : PlayCounts). c.phh) is.counts more before.phh after.phh is.phh step.phh;
      ohh = one_sum (λ (c : PlayCounts). c.ohh.hands) is.counts more before.ohh after.ohh is.ohh step.ohh;
      ohh_bytes = one_sum (λ (c : PlayCounts). c.ohh.bytes) is.counts more before.ohh_bytes after.ohh_bytes is.ohh_bytes step.ohh_bytes;
      acpc = one_sum (λ (c : PlayCounts). c.acpc.hands) is.counts more before.acpc after.acpc is.acpc step.acpc;
      acpc_bytes = one_sum (λ (c : PlayCounts). c.acpc.bytes) is.counts more before.acpc_bytes after.acpc_bytes is.acpc_bytes step.acpc_bytes;
    }

-- how many plays were counted
pub count_is : (seed number : ℕ) (summary : Summary) (loaded : IsLoadTo seed number summary) (count : ℕ) → summary.hands ≡ count → length loaded.plays ≡ count
count_is seed number summary loaded count is = sym loaded.sums.hands ∙ is

-- one more hand is loaded
pub one_play_more : (seed number : ℕ) (before after : Summary) (play : Play) (more : PlayCounts) (place next : ℕ) → IsLoadTo seed number before → before.hands ≡ place → IsMade place number play.hand → next ≡ number_behind number play.hand → IsSound play → AreCountsOf play more → IsWithCounts before more after → IsLoadTo seed next after
one_play_more seed number before after play more place next loaded count made behind sound counted step =
    let hands : List Record = hands_of loaded.plays in
    let long : length hands ≡ length loaded.plays = length-map loaded.plays (λ (p : Play). p.hand) in
    let place_is : place ≡ 0 + length hands = omega (arith, long, loaded.sums.hands, count) in
    let here : IsMade (0 + length hands) (number_behind_all seed hands) play.hand =
    subst (λ n. IsMade (0 + length hands) n play.hand) loaded.number_is (subst (λ n. IsMade n number play.hand) place_is made) in
    let pushed : hands_of (loaded.plays ++ play ∷ []) ≡ hands ++ play.hand ∷ [] = map-append (λ (p : Play). p.hand) loaded.plays (play ∷ []) in
    record {
      plays = loaded.plays ++ play ∷ [];
      made = subst (AreMadeFrom 0 seed) (sym pushed) (one_hand_more 0 seed hands play.hand loaded.made here);
      number_is = behind ∙ ap (λ n. number_behind n play.hand) loaded.number_is ∙ sym (ap (number_behind_all seed) pushed ∙ number_more seed hands play.hand);
      sound = All-push IsSound loaded.plays play loaded.sound sound;
      sums = summary_more loaded.plays play before after more loaded.sums counted step;
    }
