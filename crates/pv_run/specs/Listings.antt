-- The output of an image's listing.
use Rattle.std.specs.Prelude.{◌≡◌, ◌⊎◌, ⊤, ℕ, Option, Result, Ok, Err, IfErr, IfSome, OnErr, OnOk}
use Rattle.pv_model.specs.declared.fault.ImageFault.{ImageFault}
use Rattle.pv_model.specs.declared.fault.ImageFault.TheVariants.{Memory as ImageMemory}
use Rattle.pv_model.specs.declared.store_fault.ListFault.{ListFault}
use Rattle.pv_model.specs.declared.store_fault.ListFault.TheVariants.{Read, Image, Memory, Write}
use Rattle.pv_model.specs.declared.stream.Sink.{Ghosts as Writing}
use Rattle.pv_model.specs.declared.stream.Source.{Ghosts as Reading}
use Rattle.pv_model.specs.Machine.{Bytes, listing, mounted, Rose, Tree}
use Rattle.pv_streams.specs.declared.stop.Stop.{Stop}
use Rattle.pv_streams.specs.declared.stop.Stop.TheVariants.{Memory as NoMemory, Write as NotWritten}
use Rattle.pv_streams.specs.Sinks.{and_all, WritesPrefix}
use Rattle.pv_streams.specs.Sources.{FailsToGive}

-- the output grew by exactly the listing of the tree
pub record HasListed (held : Result Tree ImageFault) (before after : Option Bytes) : Type 0 where
  pub tree : Tree
  pub is_held : held ≡ Ok tree
  pub written : after ≡ and_all before (listing tree)

-- a prefix of the listing of the tree was written
pub record HasBegunListing (held : Result Tree ImageFault) (before after : Option Bytes) : Type 0 where
  pub tree : Tree
  pub is_held : held ≡ Ok tree
  pub written : WritesPrefix (listing tree) before after

-- the image is refused and nothing was written; or there was no memory or a write failed, and a prefix of the listing
-- was written
abbrev pub StopsListing : Result Tree ImageFault → Option Bytes → Option Bytes → ListFault → Type 0
StopsListing held before after Read = after ≡ before
StopsListing held before after (Image fault) = (held ≡ Err fault) × (after ≡ before)
StopsListing held before after Memory = (after ≡ before) ⊎ HasBegunListing held before after
StopsListing held before after Write = HasBegunListing held before after

-- the possible errors of the listing of an image: out of memory is not nested in another error
abbrev pub IsListError : ListFault → Type 0
IsListError (Image ImageMemory) = ⊥
IsListError fault = ⊤

-- nothing was written, unless there was no memory or a write failed
abbrev pub WritesNothingUnlessBegun : Option Bytes → Option Bytes → ListFault → Type 0
WritesNothingUnlessBegun before after Memory = ⊤
WritesNothingUnlessBegun before after Write = ⊤
WritesNothingUnlessBegun before after fault = after ≡ before

-- everything that was written is flushed, unless a write failed
abbrev pub BufferedOnlyIfUnlisted : ListFault → ℕ → Type 0
BufferedOnlyIfUnlisted Write waiting = ⊤
BufferedOnlyIfUnlisted fault waiting = waiting ≡ 0

-- a text was written and flushed: the complete text, or a prefix of it if there is no memory or a write failed
pub record WritesFlushed {W : Type 0} (sink : Writing W) (text : Bytes) (old new : W) (result : Result (Unit {0}) Stop) : Type 0 where
  pub whole : OnOk result (sink.written new ≡ and_all (sink.written old) text)
  pub empty : OnOk result (sink.buffered new ≡ 0)
  pub prefix : OnErr result (WritesPrefix text (sink.written old) (sink.written new))
  pub stopped : result ≡ Err NoMemory → sink.buffered new ≡ 0
  pub failed : result ≡ Err NotWritten → Rose (sink.failures old) (sink.failures new)

-- an image was listed: `given` is the condition on its bytes if they are known, and `Unread` states that a read failed
pub record ListsGiven {W : Type 0} (sink : Writing W) (given : (Bytes → Type 0) → Type 0) (Unread : Type 0) (old new : W) (result : Result (Unit {0}) ListFault) : Type 0 where
  -- success: the sink received exactly the listing of the image's tree
  pub listed : OnOk result (given (λ bytes. HasListed (mounted bytes) (sink.written old) (sink.written new)))
  -- failure: the error is the first of the bytes, or the listing could not be written completely
  pub refused : IfErr result (λ fault. given (λ bytes. StopsListing (mounted bytes) (sink.written old) (sink.written new) fault))
  pub kind : IfErr result IsListError
  pub unwritten : IfErr result (WritesNothingUnlessBegun (sink.written old) (sink.written new))
  pub empty : OnOk result (sink.buffered new ≡ 0)
  pub stopped : IfErr result (λ fault. sink.buffered old ≡ 0 → BufferedOnlyIfUnlisted fault (sink.buffered new))
  -- a failed read or write was counted
  pub read : result ≡ Err Read → Unread
  pub write : result ≡ Err Write → Rose (sink.failures old) (sink.failures new)

-- the image that a source gives was listed
abbrev pub ListsImage : {S W : Type 0} → Reading S → Writing W → (first last : S) → (old new : W) → Result (Unit {0}) ListFault → Type 0
ListsImage reading sink first last old new result = ListsGiven sink (IfSome (reading.remaining first)) (FailsToGive reading first last) old new result
