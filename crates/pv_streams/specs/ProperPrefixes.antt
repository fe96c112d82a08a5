-- What was written of an answer if there is no memory for the rest of a search.
use Rattle.std.specs.Prelude.{◌≡◌, ◌<◌, ℕ, length, Option, Result, Err}
use Rattle.pv_model.specs.declared.stream.Sink.{Ghosts as Writing}
use Rattle.pv_model.specs.Machine.{Bytes}
use Rattle.pv_model.specs.Stream.{and_front}
use Rattle.pv_streams.specs.declared.stop.Stop.{Stop}
use Rattle.pv_streams.specs.declared.stop.Stop.TheVariants.{Memory}

-- the output grew by a proper prefix of a text
abbrev pub WritesProperPrefix : Bytes → Option Bytes → Option Bytes → Type 0
WritesProperPrefix text before after = (k : ℕ) × (k < length text) × (after ≡ and_front before k text)

-- if there is no memory, a proper prefix of the text was written
abbrev pub StopsInside : {W T : Type 0} → Writing W → Bytes → W → W → Result T Stop → Type 0
StopsInside sink text old new result = result ≡ Err Memory → WritesProperPrefix text (sink.written old) (sink.written new)
