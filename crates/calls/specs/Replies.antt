-- What each answer of the code stands for: its number or its values. Assumes nothing.
use Rattle.std.specs.Prelude.{Some, None, Ok, Err, Option, Result}
use Rattle.calls.specs.Handing.{NextAnswer, handed_out, finished, full}
use Rattle.calls.specs.Calls.{Said, next_said, run_said, run_refused, figures_said}
use Rattle.calls.specs.declared.answers.Handed.{Handed}
use Rattle.calls.specs.declared.answers.Ran.{Ran}
use Rattle.calls.specs.declared.answers.Reply.{Reply}
use Rattle.calls.specs.declared.answers.Reply.TheVariants as reply
use Rattle.calls.specs.declared.refusal.Full.{Full}
use Rattle.calls.specs.declared.refusal.RunError.{RunError}

-- an answer of next: the state's number and its verdict, or 'finished', or refused
abbrev pub next_answer : Result (Option Handed) Full → NextAnswer
next_answer (Ok (Some h)) = handed_out h.state.number h.verdict
next_answer (Ok None) = finished
next_answer (Err e) = full

-- an answer of run: how it ended and its count, or refused
abbrev pub run_answer : Result Ran RunError → Said
run_answer (Ok r) = run_said r
run_answer (Err e) = run_refused

-- the answer of a call
abbrev pub said_by : Reply → Said
said_by (reply.Next a) = next_said (next_answer a)
said_by (reply.Run a) = run_answer a
said_by (reply.Figures f) = figures_said f
