-- The output of an image to a sink.
use Rattle.std.specs.Prelude.{◌≡◌, ◌++◌, Option, Result, Err, OnOk}
use Rattle.pv_image_write.specs.declared.fault.WriteFault.{WriteFault}
use Rattle.pv_image_write.specs.declared.fault.WriteFault.TheVariants.{Memory, Write}
use Rattle.pv_model.specs.declared.stream.Sink.{Ghosts as Writing}
use Rattle.pv_model.specs.Machine.{Bytes, IsWrittenImageOf, Rose, Tree}
use Rattle.pv_streams.specs.Sinks.{and_all, WritesPrefix}

-- the output grew by an image of exactly this tree
pub record WritesImage (t : Tree) (before after : Option Bytes) : Type 0 where
  pub image : Bytes
  pub holds : IsWrittenImageOf image t
  pub written : after ≡ and_all before image

-- the output grew by a prefix of an image of exactly this tree
pub record BeginsImage (t : Tree) (before after : Option Bytes) : Type 0 where
  pub image : Bytes
  pub holds : IsWrittenImageOf image t
  pub written : WritesPrefix image before after

-- the contract of a writer of an image of exactly this tree: it writes and flushes the image; or a write fails after a
-- prefix of the image, and the sink counts the failure; or there is no memory, and nothing is written
pub record WritesTree {W : Type 0} (sink : Writing W) (t : Tree) (old new : W) (result : Result (Unit {0}) WriteFault) : Type 0 where
  pub whole : OnOk result (WritesImage t (sink.written old) (sink.written new))
  pub cut : result ≡ Err Write → BeginsImage t (sink.written old) (sink.written new)
  pub failed : result ≡ Err Write → Rose (sink.failures old) (sink.failures new)
  pub memory : result ≡ Err Memory → sink.written new ≡ sink.written old
  pub flushed : OnOk result (sink.buffered new ≡ 0)

-- the output grew by an image of exactly a tree that has this property
pub record WritesImageOf (IsTree : Tree → Type 0) (before after : Option Bytes) : Type 0 where
  pub tree : Tree
  pub is : IsTree tree
  pub image : WritesImage tree before after

-- the output grew by a prefix of such an image
pub record BeginsImageOf (IsTree : Tree → Type 0) (before after : Option Bytes) : Type 0 where
  pub tree : Tree
  pub is : IsTree tree
  pub image : BeginsImage tree before after

-- a front of some bytes was written, and the rest of them is in the window
pub record IsPartlyWritten (before now : Option Bytes) (window all : Bytes) : Type 0 where
  pub front : Bytes
  pub written : now ≡ and_all before front
  pub whole : all ≡ front ++ window
