-- The entries of a source, added to the tree of a host directory.
use Rattle.std.proofs.Common.{◌≡◌, ◌∙◌, ap, arith, ℕ, ◌≤◌, Bool, true, false, List, [], ◌∷◌, ◌++◌, length, drop, Option, None, Some, Result, Ok, Err, refl, sym, inl, inr, append_assoc}
use Rattle.std.specs.Prelude.{not, ◌&&◌, bytes_eq, codes, if◌then◌else◌, map, nat_le, option_map, IfSome}
use Rattle.std.specs.List.{list_all}
use Rattle.std.proofs.lemmas.Bool.{and_parts, and_from, le-leb, leb-true}
use Rattle.std.proofs.lemmas.List.{append-nil}
use Rattle.pv_laws_trees.proofs.WalkPlaces.{list_all-weaker}
use Rattle.pv_model.specs.declared.fault.ManifestFault.{ManifestFault}
use Rattle.pv_model.specs.declared.version.Version.{Version}
use Rattle.pv_model.specs.declared.version.Version.TheVariants.{V1, V2}
use Rattle.pv_model.specs.Grammar.Manifests.{and_entries}
use Rattle.pv_model.specs.Machine.{Bytes, add_entries, add_entry, is_empty, is_manifest_path, is_name, is_name_byte, path_of, Entry, Tree, find_entry, is_directory_at, split_slashes}
use Rattle.pv_text.specs.Components.{components_after}
use Rattle.pv_image_manifest.specs.Adding.{error_at_line}
use Rattle.pv_image_manifest.specs.Contents.{has_paths, is_content}
use Rattle.pv_image_manifest.specs.declared.entry.Content.{Content}
use Rattle.pv_image_manifest.specs.declared.entry.Content.TheVariants.{Directory, File, Link, Name}
use Rattle.pv_image_manifest.specs.declared.fault.EntryFault.{EntryFault}
use Rattle.pv_image_manifest.specs.Paths.{is_path}
use Rattle.pv_host_copy.specs.declared.fault.CopyStop.{CopyStop}
use Rattle.pv_host_copy.specs.declared.fault.CopyStop.TheVariants as stop
use Rattle.pv_host_copy.specs.Gathered.{host_entries_of}
use Rattle.pv_host_copy.specs.Given.{IsMergedTree, NeedsNoSource, add_missing, merged_entries, has_directories, has_directory, is_present, leads_into}
use Rattle.pv_host_copy.specs.Hosts.{HostEntries, no_more, with_directory, with_file_entry, with_link, with_other, with_replaced}
use Rattle.pv_host_copy.specs.Imported.{IsTreeOf, greatest_tree}
use Rattle.pv_host_copy.specs.Stopped.{IsGivenRefused, StopsCopy, StopsGiven, StopsMerge, refused_pair}

-- ---- the path of a manifest's entry is one in an image of each version

longer-name : (name : Bytes) → is_name V1 name ≡ true → is_name V2 name ≡ true
longer-name name is =
    let not_up = not (bytes_eq name (codes "..")) in
    let not_dot = not (bytes_eq name (codes ".")) in
    let first = and_parts _ not_up is in
    let second = and_parts _ not_dot first.0 in
    let third = and_parts _ (list_all is_name_byte name) second.0 in
    let fourth = and_parts (not (is_empty name)) (nat_le (length name) 60) third.0 in
    let short : nat_le (length name) 255 ≡ true = le-leb (length name) 255 (omega (arith, leb-true (length name) 60 fourth.1)) in
    and_from _ not_up (and_from _ not_dot (and_from _ (list_all is_name_byte name) (and_from _ _ fourth.0 short) third.1) second.1) first.1

pub path-in_version : (v : Version) (path : Bytes) → is_manifest_path path ≡ true → is_path v path ≡ true
path-in_version V1 [] is = is
path-in_version V1 (b ∷ bs) is = is
path-in_version V2 [] is = is
path-in_version V2 (b ∷ bs) is =
    let parts = and_parts _ (list_all (is_name V1) (split_slashes bs)) is in
    and_from _ _ parts.0 (list_all-weaker (is_name V1) (is_name V2) longer-name (split_slashes bs) parts.1)

pub content-in_version : (v : Version) (content : Content) → is_content content ≡ true → has_paths (is_path v) content ≡ true
content-in_version v Directory is = refl
content-in_version v (File executable bytes) is = refl
content-in_version v (Link text) is = is
content-in_version v (Name source) is = path-in_version v source.items is

-- ---- the directories of a path, one by one

module _ (t : Tree) (path : Bytes) where
  -- the directory so far has the rest of the directories if the root has all
  pub record IsSoughtIn (d : ℕ) (rest : Option Bytes) : Type 0 where
    pub is : has_directories t (components_after rest) d ≡ has_directory t path
    pub directory : is_directory_at t d ≡ true

  module _ (d : ℕ) (rest : Option Bytes) (sought : IsSoughtIn d rest) where
    pub sought-end : rest ≡ None → true ≡ has_directory t path
    sought-end none = ap (λ r. has_directories t (components_after r) d) (sym none) ∙ sought.is

    module _ (names name : Bytes) (left : Option Bytes) (more : rest ≡ Some names) (split : split_slashes names ≡ name ∷ components_after left) where
      first : leads_into t (has_directories t (components_after left)) (find_entry t d name) ≡ has_directory t path
      first = ap (λ ns. has_directories t ns d) (sym (ap components_after more ∙ split)) ∙ sought.is

      pub sought-missing : find_entry t d name ≡ None → false ≡ has_directory t path
      sought-missing none = ap (leads_into t (has_directories t (components_after left))) (sym none) ∙ first

      module _ (n : ℕ) (found : find_entry t d name ≡ Some n) where
        here : (if is_directory_at t n then has_directories t (components_after left) n else false) ≡ has_directory t path
        here = ap (leads_into t (has_directories t (components_after left))) (sym found) ∙ first

        pub sought-other : is_directory_at t n ≡ false → false ≡ has_directory t path
        sought-other other = sym (ap (λ b. if b then has_directories t (components_after left) n else false) other) ∙ here

        pub sought-next : is_directory_at t n ≡ true → IsSoughtIn n left
        sought-next is = record { is = sym (ap (λ b. if b then has_directories t (components_after left) n else false) is) ∙ here; directory = is }

-- ---- the entries, one by one

missing-more : (es more : List (ℕ × Entry)) (t u : Tree) → add_missing es t ≡ Ok u → add_missing (es ++ more) t ≡ add_missing more u
missing-more [] more t u is = let same : t ≡ u = cc in ap (add_missing more) same
missing-more (e ∷ es) more t u is = by (is_present t e.1) (add_entry e.0 t e.1) is (λ next. missing-more es more next u)
  where
    by : (b : Bool) (added : Result Tree ManifestFault) → (if b then add_missing es t else and_entries added (add_missing es)) ≡ Ok u
        → ((next : Tree) → add_missing es next ≡ Ok u → add_missing (es ++ more) next ≡ add_missing more u)
        → (if b then add_missing (es ++ more) t else and_entries added (add_missing (es ++ more))) ≡ add_missing more u
    by true added is onward = onward t is
    by false (Ok next) is onward = onward next is
    by false (Err fault) is onward = cc

-- the entries before the rest were added
pub record IsAddedSoFar (given : List (ℕ × Entry)) (start : Tree) (left : List (ℕ × Entry)) (now : Tree) : Type 0 where
  pub earlier : List (ℕ × Entry)
  pub splits : given ≡ earlier ++ left
  pub added : add_missing earlier start ≡ Ok now

pub added-start : (given : List (ℕ × Entry)) (start : Tree) → IsAddedSoFar given start given start
added-start given start = record { earlier = []; splits = refl; added = refl }

pub added-end : (given : List (ℕ × Entry)) (start : Tree) (left : List (ℕ × Entry)) (now : Tree) → IsAddedSoFar given start left now → left ≡ [] → add_missing given start ≡ Ok now
added-end given start left now so_far none = ap (λ es. add_missing es start) (so_far.splits ∙ ap (λ es. so_far.earlier ++ es) none ∙ append-nil so_far.earlier) ∙ so_far.added

module _ (given : List (ℕ × Entry)) (start : Tree) (left : List (ℕ × Entry)) (now : Tree) (so_far : IsAddedSoFar given start left now)
    (e : ℕ × Entry) (rest : List (ℕ × Entry)) (front : left ≡ e ∷ rest) where
  next-added : (next : Tree) → add_missing (e ∷ []) now ≡ Ok next → IsAddedSoFar given start rest next
  next-added next is = record {
    earlier = so_far.earlier ++ e ∷ [];
    splits = so_far.splits ∙ ap (λ es. so_far.earlier ++ es) front ∙ sym (append_assoc so_far.earlier (e ∷ []) rest);
    added = missing-more so_far.earlier (e ∷ []) start now so_far.added ∙ is;
  }

  pub added-present : is_present now e.1 ≡ true → IsAddedSoFar given start rest now
  added-present is = next-added now (rw is refl)

  pub added-next : (next : Tree) → is_present now e.1 ≡ false → add_entry e.0 now e.1 ≡ Ok next → IsAddedSoFar given start rest next
  added-next next absent is = next-added next (rw absent (ap (λ r. and_entries r (add_missing [])) is))

  pub added-refused : (fault : EntryFault) → is_present now e.1 ≡ false → add_entry e.0 now e.1 ≡ Err (error_at_line e.0 fault) → IsGivenRefused given start (path_of e.1, fault)
  added-refused fault absent is = record {
    earlier = so_far.earlier;
    line = e.0;
    entry = e.1;
    later = rest;
    appears = so_far.splits ∙ ap (λ es. so_far.earlier ++ es) front;
    so_far = now;
    added = so_far.added;
    is_absent = absent;
    is_fault = is;
    is_path = refl;
  }

-- ---- both

module _ (v : Version) (given : List (ℕ × Entry)) where
  abbrev IsHostTree : Option HostEntries → Tree → Type 0
  IsHostTree known one = IfSome (option_map (merged_entries given []) known) (λ host. IsTreeOf v host one)

  pub merged : (known : Option HostEntries) (one t : Tree) → IsHostTree known one → add_missing given one ≡ Ok t → IfSome known (λ host. IsMergedTree v given host t)
  merged None one t is added = tt
  merged (Some host) one t is added = ap (λ r. and_entries r (add_missing given)) is ∙ added

  pub if-merged : (known : Option HostEntries) (P : HostEntries → Type 0) → IfSome (option_map (merged_entries given []) known) P → IfSome known (λ host. P (merged_entries given [] host))
  if-merged None P is = is
  if-merged (Some host) P is = is

  pub host-stops : (known : Option HostEntries) (s : CopyStop) → StopsCopy v (option_map (merged_entries given []) known) s → StopsMerge v given known s
  host-stops None stop.Read is = refl
  host-stops (Some host) stop.Read is = cc
  host-stops known stop.Memory is = tt
  host-stops None (stop.Entry refused) is = tt
  host-stops (Some host) (stop.Entry refused) is = inl is

  pub given-stops : (known : Option HostEntries) (one : Tree) (s : CopyStop) → IsHostTree known one → StopsGiven given one s → StopsMerge v given known s
  given-stops known one stop.Read is stops = absurd stops
  given-stops known one stop.Memory is stops = tt
  given-stops None one (stop.Entry refused) is stops = tt
  given-stops (Some host) one (stop.Entry refused) is stops = inr (one, is, stops)

-- ---- without a source

merged-nothing : (path : Bytes) (host : HostEntries) → merged_entries [] path host ≡ host
merged-nothing path no_more = refl
merged-nothing path (with_directory name inside rest) =
    ap (λ r. with_directory name (merged_entries [] (path ++ 47 ∷ name) inside) r) (merged-nothing path rest) ∙ ap (λ i. with_directory name i rest) (merged-nothing (path ++ 47 ∷ name) inside)
merged-nothing path (with_file_entry name identity executable bytes rest) = ap (with_file_entry name identity executable bytes) (merged-nothing path rest)
merged-nothing path (with_link name identity text rest) = ap (with_link name identity text) (merged-nothing path rest)
merged-nothing path (with_other name why rest) = ap (with_other name why) (merged-nothing path rest)
merged-nothing path (with_replaced name rest) = ap (with_replaced name) (merged-nothing path rest)

nothing-added : (r : Result Tree ManifestFault) → and_entries r (add_missing []) ≡ r
nothing-added (Ok t) = refl
nothing-added (Err fault) = refl

pub needs-no_source : NeedsNoSource
needs-no_source v host =
    ap (λ h. and_entries (add_entries (host_entries_of v h) (greatest_tree v)) (add_missing [])) (merged-nothing [] host) ∙ nothing-added (add_entries (host_entries_of v host) (greatest_tree v))
