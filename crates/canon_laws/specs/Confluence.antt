-- The confluence of scripts: the canonical script of a legal script's trace is legal, and has this
-- trace.
use Rattle.std.specs.Prelude.{◌≡◌, List}
use Rattle.play_event.specs.declared.setup.Setup.{Setup}
use Rattle.play_event.specs.declared.setup.Rules.{Rules}
use Rattle.play_event.specs.Said.{Said}
use Rattle.play_event.specs.TraceCore.{core_after}
use Rattle.play_event.specs.CanonScript.{canon_of}
use Rattle.play_event.specs.PlayedScript.{IsPlayed}

-- the other script is played to its end, and leaves the trace of this one
pub record HasTraceOf (setup : Setup) (rules : Rules) (script other : List Said) : Type 0 where
  pub played : IsPlayed setup rules other
  pub same : core_after setup other ≡ core_after setup script

-- the canonical script of a script's trace is played to its end, and leaves the same trace
abbrev pub IsConfluent : Setup → Rules → List Said → Type 0
IsConfluent setup rules script = HasTraceOf setup rules script (canon_of setup script)
