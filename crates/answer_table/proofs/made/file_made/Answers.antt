-- The plays that are written are sound.
use Rattle.std.proofs.Common.{subst, sym, List}
use Rattle.std.proofs.lemmas.List.Elements.{recursion_from_All}
use Rattle.std.specs.List.{AllByRecursion}
use Rattle.hand_canon.specs.Sound.{IsSound}
use Rattle.hand_canon.specs.declared.trace.Play.{Play}
use Rattle.answer_table.proofs.made.file_made.Goals as goal

pub write-requires-clause-sound : goal.write-requires-clause-sound
write-requires-clause-sound c =
    subst (λ (plays : List Play). AllByRecursion IsSound plays) (sym c.deref-2.ensures.value) (recursion_from_All IsSound c.in-Ok.plays.items c.in-Ok.ensures.sound)
