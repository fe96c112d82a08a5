-- The status of a failure, and what a command that fails leaves buffered and creates.
use Rattle.std.proofs.Common.{◌≡◌, ◌≢◌, ap, inl, ℕ, List, Option, None, Some, Result, Ok, Err}
use Rattle.std.specs.Prelude.{IfErr, IsErrAnd}
use Rattle.pv_model.specs.Machine.{Bytes}
use Rattle.pv_questions.specs.Answered.{BuffersNothing}
use Rattle.pv_questions.specs.Failures.{failure_status}
use Rattle.pv_questions.specs.declared.failure.Failure.{Failure}
use Rattle.pv_questions.specs.declared.failure.Failure.TheVariants.{Read, Memory, Write, Refused, Incomplete, Different}
use Rattle.pv_cli_commands.specs.Created.{CreatesOnly}

status-not_zero : (failure : Failure) → failure_status failure ≢ 0
status-not_zero (Read origin) h = cc
status-not_zero Memory h = cc
status-not_zero (Write target) h = cc
status-not_zero (Refused refusal) h = cc
status-not_zero Incomplete h = cc
status-not_zero Different h = cc

-- a failure has another status than success
pub failed_with_status : (result : Result (Unit {0}) Failure) → IfErr result (λ failure. failure_status failure ≢ 0)
failed_with_status (Ok done) = tt
failed_with_status (Err failure) = status-not_zero failure

-- if nothing is buffered, the result does not matter
pub buffers_nothing : (result : Result (Unit {0}) Failure) (waiting : ℕ) → waiting ≡ 0 → BuffersNothing result waiting
buffers_nothing (Ok done) waiting h = h
buffers_nothing (Err (Read origin)) waiting h = h
buffers_nothing (Err Memory) waiting h = h
buffers_nothing (Err (Write target)) waiting h = tt
buffers_nothing (Err (Refused refusal)) waiting h = h
buffers_nothing (Err Incomplete) waiting h = h
buffers_nothing (Err Different) waiting h = h

-- a failure that is passed on
pub passed_on : (failure : Failure) (result : Result (Unit {0}) Failure) → IsErrAnd result (λ passed. passed ≡ failure) → result ≡ Err failure
passed_on failure (Ok done) is = absurd is
passed_on failure (Err passed) is = ap Err is

-- nothing was created
pub creates_nothing : (name : Option Bytes) (before after : List Bytes) → after ≡ before → CreatesOnly name before after
creates_nothing None before after is = is
creates_nothing (Some name) before after is = inl is
