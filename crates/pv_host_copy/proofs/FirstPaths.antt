-- Searching for the first path of a file or symbolic link, name by name.
use Rattle.std.proofs.Common.{◌≡◌, ◌∙◌, ap, ℕ, suc, ◌+◌, ◌<◌, true, false, List, [], ◌∷◌, length, drop, get_or, None, Some, refl, sym, arith}
use Rattle.std.specs.Prelude.{map}
use Rattle.std.specs.List.{list_all}
use Rattle.std.proofs.Math.Seq.{drop-cons}
use Rattle.std.proofs.lemmas.Bool.{and_parts}
use Rattle.pv_model.specs.declared.version.Version.{Version}
use Rattle.pv_host_copy.specs.declared.entry.Identity.{Identity}
use Rattle.pv_host_copy.specs.declared.first.First.{First}
use Rattle.pv_host_copy.specs.Firsts.{identity_and_path, has_path}
use Rattle.pv_host_copy.specs.Gathered.{first_path_of}
use Rattle.pv_host_copy.specs.Hosts.{same_identity}

-- the remaining paths have the same first path as all, and each is valid
pub record IsSought (v : Version) (identity : Identity) (left all : List First) : Type 0 where
  pub same : first_path_of identity (map identity_and_path left) ≡ first_path_of identity (map identity_and_path all)
  pub named : list_all (has_path v) left ≡ true

-- the next one, and those after it
pub next_first : {X : Type 0} (fs : List X) (i : ℕ) (f : X) → i < length fs → f ≡ get_or fs i f → drop i fs ≡ f ∷ drop (i + 1) fs
next_first fs i f within is =
    let more : suc i ≡ i + 1 = omega arith in
    drop-cons fs i f within ∙ ap (λ k. get_or fs i f ∷ drop k fs) more ∙ ap (λ first. first ∷ drop (i + 1) fs) (sym is)

module _ (v : Version) (identity : Identity) (left all rest : List First) (f : First) (front : left ≡ f ∷ rest) (sought : IsSought v identity left all) where
  here : first_path_of identity (map identity_and_path (f ∷ rest)) ≡ first_path_of identity (map identity_and_path all)
  here = ap (λ fs. first_path_of identity (map identity_and_path fs)) (sym front) ∙ sought.same

  halves : (has_path v f ≡ true) × (list_all (has_path v) rest ≡ true)
  halves = and_parts (has_path v f) (list_all (has_path v) rest) (ap (list_all (has_path v)) (sym front) ∙ sought.named)

  pub found-named : has_path v f ≡ true
  found-named = halves.0

  pub found-first : same_identity f.identity identity ≡ true → Some f.path.items ≡ first_path_of identity (map identity_and_path all)
  found-first same = sym (sym here ∙ rw same refl)

  pub sought-step : same_identity f.identity identity ≡ false → IsSought v identity rest all
  sought-step other = record { same = sym (sym here ∙ rw other refl); named = halves.1 }

pub sought-end : (v : Version) (identity : Identity) (left all : List First) → left ≡ [] → IsSought v identity left all → None ≡ first_path_of identity (map identity_and_path all)
sought-end v identity left all none sought = sym (ap (λ fs. first_path_of identity (map identity_and_path fs)) none) ∙ sought.same
