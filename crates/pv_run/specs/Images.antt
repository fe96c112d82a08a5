-- The output of a run on an image.
use Rattle.std.specs.Prelude.{◌≡◌, ◌⊎◌, ⊤, Option, Result, Ok, Err, IfErr, IfOk, OnOk}
use Rattle.pv_model.specs.declared.run_fault.RunFault.{RunFault}
use Rattle.pv_model.specs.declared.fault.ImageFault.TheVariants.{Memory as ImageMemory}
use Rattle.pv_model.specs.declared.run_fault.RunFault.TheVariants.{Read, Image, Schedule as ScheduleLine, Init, Memory, WriteTrace, WriteImage}
use Rattle.pv_model.specs.declared.stream.Sink.{Ghosts as Writing}
use Rattle.pv_model.specs.declared.stream.Source.{Ghosts as Reading}
use Rattle.pv_model.specs.Machine.{Bytes, named_tree, Started, image_started, Rose, Tree}
use Rattle.pv_run.specs.Run.{BufferedOnlyIfCut, EitherFailsToGive, HasBegun, HasStopped, IfBoth, IsSummaryOf, IsTextOf, text_of}
use Rattle.pv_run.specs.declared.turns.Summary.{Summary}
use Rattle.pv_laws_runs.specs.Asked.{AsksOfImage}
use Rattle.pv_session.specs.Running.{run_of}
use Rattle.pv_streams.specs.Sinks.{and_all}
use Rattle.pv_image_write.specs.Written.{WritesImage, BeginsImage as BeginsWrittenImage}

-- the output grew by bytes that hold a tree: its root and its named nodes
abbrev pub WrittenImage : Tree → Option Bytes → Option Bytes → Type 0
WrittenImage t before after = WritesImage (named_tree t) before after

-- a prefix of bytes that hold a tree was written
abbrev pub BeginsNamedImage : Tree → Option Bytes → Option Bytes → Type 0
BeginsNamedImage t before after = BeginsWrittenImage (named_tree t) before after

-- the tree after a run
abbrev pub last_tree : Started → Tree
last_tree it = (run_of it.state it.schedule).final.tree

-- a run on an image was made: the bytes are an image of a tree on which the machine boots, the text parses as a
-- schedule, the trace grew by exactly the text of the machine's run, and the image by bytes that hold the tree after
-- it; the summary counts the steps and the lines
pub record HasRunOn (image turns : Bytes) (trace_before trace_after image_before image_after : Option Bytes) (summary : Summary) : Type 0 where
  pub it : Started
  pub asks : AsksOfImage image turns it
  pub written : trace_after ≡ and_all trace_before (text_of it)
  pub as_written : WrittenImage (last_tree it) image_before image_after
  pub counts : IsSummaryOf it summary
  -- it is the start that the checks yield
  pub is_asked : image_started image turns ≡ Ok it

-- a run was made, and a prefix of the image after it was written
pub record HasRunUncut (asked : Result Started RunFault) (trace_before trace_after image_before image_after : Option Bytes) : Type 0 where
  pub text : Bytes
  pub summary : Summary
  pub is_run : IsTextOf asked text summary
  pub written : trace_after ≡ and_all trace_before text
  pub begun : BeginsNamedImage (last_tree is_run.it) image_before image_after

-- a run was made, and its text was written
pub record HasRunToEnd (asked : Result Started RunFault) (before after : Option Bytes) : Type 0 where
  pub text : Bytes
  pub summary : Summary
  pub is_run : IsTextOf asked text summary
  pub written : after ≡ and_all before text

-- the first refusal of the input, after which nothing was written; or a run that stopped, after which no image was
-- written. Memory is needed before the first step, at an execve, or for the image after the run
abbrev pub AppearsOn : Result Started RunFault → Option Bytes → Option Bytes → Option Bytes → Option Bytes → RunFault → Type 0
AppearsOn asked tb ta ib ia WriteImage = HasRunUncut asked tb ta ib ia
AppearsOn asked tb ta ib ia WriteTrace = HasBegun asked tb ta × (ia ≡ ib)
AppearsOn asked tb ta ib ia Memory = ((ta ≡ tb) ⊎ (HasStopped asked tb ta ⊎ HasRunToEnd asked tb ta)) × (ia ≡ ib)
AppearsOn asked tb ta ib ia Read = (ta ≡ tb) × (ia ≡ ib)
AppearsOn asked tb ta ib ia fault = (asked ≡ Err fault) × (ta ≡ tb) × (ia ≡ ib)

-- the possible errors of the start of a run on an image; out of memory is not nested in another error
abbrev pub IsImageError : RunFault → Type 0
IsImageError (Image ImageMemory) = ⊥
IsImageError (Image fault) = ⊤
IsImageError (ScheduleLine n) = ⊤
IsImageError (Init n) = ⊤
IsImageError Memory = ⊤
IsImageError fault = ⊥

-- the possible errors of writing an image
abbrev pub IsWriteError : RunFault → Type 0
IsWriteError Memory = ⊤
IsWriteError WriteImage = ⊤
IsWriteError fault = ⊥

-- the possible errors of a run on an image
abbrev pub IsRunError : RunFault → Type 0
IsRunError Read = ⊤
IsRunError WriteTrace = ⊤
IsRunError WriteImage = ⊤
IsRunError fault = IsImageError fault

-- nothing was written, unless the run stopped; no image was written, unless its writing failed
abbrev pub WritesNeitherUnlessCut : Option Bytes → Option Bytes → Option Bytes → Option Bytes → RunFault → Type 0
WritesNeitherUnlessCut tb ta ib ia WriteImage = ⊤
WritesNeitherUnlessCut tb ta ib ia WriteTrace = ia ≡ ib
WritesNeitherUnlessCut tb ta ib ia Memory = ia ≡ ib
WritesNeitherUnlessCut tb ta ib ia fault = (ta ≡ tb) × (ia ≡ ib)

-- a schedule was run on an image: `given` is the condition on the bytes of both if they are known, and `Unread` states
-- that a read failed
pub record RunsGivenImage {W O : Type 0} (tracing : Writing W) (writing : Writing O) (given : (Bytes → Bytes → Type 0) → Type 0) (Unread : Type 0)
    (trace trace_new : W) (image image_new : O) (result : Result Summary RunFault) : Type 0 where
  -- success: the trace grew by exactly the text of the machine's run, and the sink received bytes that hold the tree
  -- after it
  pub ran : IfOk result (λ summary. given (λ bytes turns.
      HasRunOn bytes turns (tracing.written trace) (tracing.written trace_new) (writing.written image) (writing.written image_new) summary))
  -- failure: the error is the first of the bytes, or the trace or the image could not be written completely
  pub refused : IfErr result (λ fault. given (λ bytes turns.
      AppearsOn (image_started bytes turns) (tracing.written trace) (tracing.written trace_new) (writing.written image) (writing.written image_new) fault))
  pub kind : IfErr result IsRunError
  pub unwritten : IfErr result (WritesNeitherUnlessCut (tracing.written trace) (tracing.written trace_new) (writing.written image) (writing.written image_new))
  -- everything that was written is flushed
  pub empty : OnOk result (tracing.buffered trace_new ≡ 0)
  pub stopped : IfErr result (λ fault. tracing.buffered trace ≡ 0 → BufferedOnlyIfCut fault (tracing.buffered trace_new))
  pub flushed : OnOk result (writing.buffered image_new ≡ 0)
  -- a failed read or write was counted
  pub read : result ≡ Err Read → Unread
  pub write_trace : result ≡ Err WriteTrace → Rose (tracing.failures trace) (tracing.failures trace_new)
  pub write_image : result ≡ Err WriteImage → Rose (writing.failures image) (writing.failures image_new)

-- the schedule that a source gives was run on the image that another gives
abbrev pub RunsImage : {A B W O : Type 0} → Reading A → Reading B → Writing W → Writing O → (first last : A) → (second second_last : B)
    → (trace trace_new : W) → (image image_new : O) → Result Summary RunFault → Type 0
RunsImage reading other tracing writing first last second second_last trace trace_new image image_new result =
    RunsGivenImage tracing writing (IfBoth (reading.remaining first) (other.remaining second))
    (EitherFailsToGive reading other first last second second_last) trace trace_new image image_new result
