-- The events of a sound play are legal, and the player to act is known after each of them.
use Rattle.std.proofs.Common.{ap, arith, length, refl}
use Rattle.std.proofs.lemmas.List.{length-map}
use Rattle.hand_canon.specs.SoundRecord.{script_said}
use Rattle.hand_canon.specs.declared.trace.Play.{Play}
use Rattle.play_event.specs.Said.{said_of}
use Rattle.play_laws.proofs.LegalScripts.{legal_script}
use Rattle.hand_options.proofs.Asked.{seat_told}
use Rattle.hand_options.proofs.asking.options.Goals as goal

pub options_at-requires-clause-legal_before : goal.options_at-requires-clause-legal_before
options_at-requires-clause-legal_before c = λ index below.
    let hand = c.play.result.now.hand in
    (legal_script hand.setup hand.rules (script_said hand)).1 c.play.ensures.sound.legal.played.legal index
    (omega (arith, below, c.requires, ap (λ (play : Play). length play.hand.script) c.play.ensures.same, length-map hand.script said_of))

pub returns-clause-known : goal.returns-clause-known
returns-clause-known c =
    let hand = c.play.result.now.hand in
    let played = c.play.ensures.sound.legal.played in
    seat_told hand.setup hand.setup hand.rules (script_said hand) c.args.events c.options_at.result refl
    ((legal_script hand.setup hand.rules (script_said hand)).1 played.legal) played.complete
    (omega (arith, c.requires, ap (λ (play : Play). length play.hand.script) c.play.ensures.same, length-map hand.script said_of))
    c.options_at.ensures.legal c.options_at.ensures.undecided
