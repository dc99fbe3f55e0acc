-- When a script is played to its end, when it has the trace of another one, and when it suits other
-- rules.
pub mod Confluence
pub mod OtherRules
