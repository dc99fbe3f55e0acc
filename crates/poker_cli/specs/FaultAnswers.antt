-- An answer of the program, as the definitions see it; and the answers that report a fault.
use Rattle.std.specs.Prelude.{string_bytes, ◌≡◌, Some, Result, Ok, Err}
use Rattle.std.specs.declared.alloc.Global.{Global}
use Rattle.std.specs.declared.string.String.{String}
use Rattle.convert_core.specs.declared.convert_fault.ConvertFault.{ConvertFault}
use Rattle.convert_core.specs.declared.convert_fault.ConvertFault.TheVariants as convert_faults
use Rattle.convert_core.specs.declared.refusal.PlaysFault.{PlaysFault}
use Rattle.convert_core.specs.declared.refusal.PlaysFault.TheVariants as plays_faults
use Rattle.poker_cli.specs.AnswerParts.{Answer, done, to_fault, to_refusal, to_unspelled}
use Rattle.poker_cli.specs.declared.answer.Answer as made

-- the status and the bytes of an answer
abbrev pub answer_said : made.Answer → Answer
answer_said answer =
    record { status = answer.status; output = answer.output.items; line = string_bytes answer.line }

-- the answer says why bytes cannot be converted or have no plays; none if memory ran out
abbrev pub IsFaultAnswer : ConvertFault → Answer → Type 0
IsFaultAnswer (convert_faults.Format fault) answer = to_fault fault ≡ Some answer
IsFaultAnswer (convert_faults.Refused number why) answer = answer ≡ to_refusal number why
IsFaultAnswer (convert_faults.Unspelled number fact) answer = answer ≡ to_unspelled number fact
IsFaultAnswer (convert_faults.Memory memory) answer = ⊥

-- the answer says which hand is refused; none if memory ran out
abbrev pub IsPlaysFaultAnswer : PlaysFault → Answer → Type 0
IsPlaysFaultAnswer (plays_faults.Refused number why) answer = answer ≡ to_refusal number why
IsPlaysFaultAnswer (plays_faults.Memory memory) answer = ⊥

-- the answer has a text as its output, or says which hand is refused
abbrev pub IsTextAnswer : Result (String Global) PlaysFault → Answer → Type 0
IsTextAnswer (Ok text) answer = answer ≡ done (string_bytes text)
IsTextAnswer (Err fault) answer = IsPlaysFaultAnswer fault answer
