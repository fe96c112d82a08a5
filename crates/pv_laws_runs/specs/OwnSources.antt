-- A bundle on which the machine starts is its own source.
use Rattle.std.specs.Prelude.{◌≡◌, ◌≢◌, IsTrue, codes, Ok}
use Rattle.std.specs.List.{AllByRecursion}
use Rattle.pv_model.specs.Machine.{Bytes, Manifest, read_bundle, further_name, read_source, Started, bundle_started}
use Rattle.pv_laws_answers.specs.OfLawsStates.States.{are_bytes}
use Rattle.pv_laws_grammar.specs.Accepted.{IsBundle, HasLineEnds}

-- no line `name` gives a file the further path `/init`
abbrev pub NamesNoInit : Manifest → Type 0
NamesNoInit m = AllByRecursion (λ e. (source : Bytes) → e.1 ≢ further_name (codes "/init") source) m.listed.entries

-- the machine starts on a bundle in which only an `exec` line, if any line, makes `/init`: on any other node at `/init`
-- it does not start, and a source has no line `name` that makes it
pub record StartsOn (bytes : Bytes) : Type 0 where
  pub are_bytes : IsTrue (are_bytes bytes)
  pub started : Started
  pub starts : bundle_started bytes ≡ Ok started
  pub manifest : Manifest
  pub read : read_bundle bytes ≡ Ok manifest
  pub init : NamesNoInit manifest

-- such a bundle is accepted, in the sense of sources
abbrev pub StartedBundlesAreAccepted : Type 0
StartedBundlesAreAccepted = (bytes : Bytes) → StartsOn bytes → IsBundle bytes

-- so it is its own source, if each line ends with an LF
abbrev pub StartedBundlesAreTheirOwn : Type 0
StartedBundlesAreTheirOwn = (bytes : Bytes) → StartsOn bytes → HasLineEnds bytes → read_source bytes ≡ Ok bytes
