-- The hands so far are made, and the generator is after them.
use Rattle.std.proofs.Common.{◌≡◌, All, length}
use Rattle.hand_gen.specs.Made.{AreMadeFrom, number_behind_all}
use Rattle.hand_gen.specs.Sound.{IsSoundHand}
use Rattle.hand_gen.proofs.making.make.Given as goal

abbrev pub invariant-loop-place : goal.invariant-loop-place
invariant-loop-place l =
    record {
      made : AreMadeFrom 0 l.seed l.hands;
      number_is : l.number ≡ number_behind_all l.seed l.hands;
      counted : length l.hands ≡ l.place;
      sound : All IsSoundHand l.hands;
    }
