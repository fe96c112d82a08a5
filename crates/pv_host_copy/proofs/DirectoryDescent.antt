-- The descent into host directories, name by name.
use Rattle.std.proofs.Common.{◌≡◌, ◌≢◌, ◌∙◌, ap, arith, ℕ, ◌+◌, ◌*◌, ◌<◌, true, false, List, [], ◌∷◌, ◌++◌, length, Option, None, Some, Result, Ok, Err, refl, sym, subst, append_assoc}
use Rattle.std.specs.Prelude.{Bool, ⊤, IfSome, IsSome, if◌then◌else◌}
use Rattle.std.proofs.lemmas.List.{append-nil}
use Rattle.pv_model.specs.declared.version.Version.{Version}
use Rattle.pv_model.specs.Machine.{Bytes, Entry, make, further_name, Node, Tree, directory_node}
use Rattle.pv_host_copy.specs.declared.entry.HostEntry.{HostEntry}
use Rattle.pv_host_copy.specs.declared.entry.HostNode.{HostNode}
use Rattle.pv_host_copy.specs.declared.entry.HostNode.TheVariants.{Directory, File, Link, Other, Replaced}
use Rattle.pv_host_copy.specs.declared.entry.Identity.{Identity}
use Rattle.pv_host_copy.specs.declared.fault.CopyStop.{CopyStop}
use Rattle.pv_host_copy.specs.declared.fault.CopyStop.TheVariants as stop
use Rattle.pv_image_manifest.specs.declared.fault.EntryFault.{EntryFault}
use Rattle.pv_host_copy.specs.declared.fault.HostFault.{HostFault}
use Rattle.pv_host_copy.specs.declared.fault.HostFault.TheVariants as host
use Rattle.pv_host_copy.specs.declared.fault.SkipReason.{SkipReason}
use Rattle.pv_host_copy.specs.declared.fault.SkipReason.TheVariants.{Name}
use Rattle.pv_host_copy.specs.declared.importing.Importing.{Importing}
use Rattle.pv_host_copy.specs.declared.walking.OpenDirectory.{OpenDirectory}
use Rattle.pv_host_copy.specs.Gathered.{Gathered, and_entry, and_first_entry, and_skipped, and_node, and_linked, and_directory, and_file, and_link, first_path_of, gather}
use Rattle.pv_host_copy.specs.Hosts.{HostEntries, no_more, with_directory, with_file_entry, with_link, with_other, with_replaced}
use Rattle.pv_host_copy.specs.Importing.{HoldsGathered, Steps, StopsImport, StopsIf, Goes, GoesIf, AddsDirectory}
use Rattle.pv_image_manifest.specs.Paths.{is_path}
use Rattle.pv_host_copy.specs.Paths.{path_under}
use Rattle.pv_host_copy.specs.Stopped.{IsEntryRefused, refused_pair, copy_stop_of}
use Rattle.pv_host_copy.specs.Reporting.{IsDirectory, IsFile, IsLink, IsFewer, IsOther, IsReplaced, ReportsEntry, left_below}
use Rattle.pv_host_copy.specs.Walking.{OpensNone, TakesNode, and_opened}
use Rattle.pv_host_copy.proofs.ImportSteps.{Continues, goes-known, steps-if, stops-if, stops-on}

-- ---- entries after the existing ones

-- a change appends entries
abbrev pub Extends : (Gathered → Gathered) → Type 0
Extends change = (g : Gathered) → (more : List (ℕ × Entry)) × ((change g).entries ≡ g.entries ++ more)

reported-extends : (path : Bytes) (why : SkipReason) → Extends (and_skipped path why)
reported-extends path why g = ([], sym (append-nil g.entries))

entry-extends : (e : Entry) → Extends (and_entry e)
entry-extends e g = ((length g.entries + 1, e) ∷ [], refl)

both-extend : (first next : Gathered → Gathered) → Extends first → Extends next → Extends (λ g. next (first g))
both-extend first next one other g =
    let a = one g in
    let b = other (first g) in
    (a.0 ++ b.0, b.1 ∙ ap (λ es. es ++ b.0) a.1 ∙ append_assoc g.entries a.0 b.0)

if-extends : (b : Bool) (this that : Gathered → Gathered) → Extends this → Extends that → Extends (λ g. if b then this g else that g)
if-extends true this that one other = one
if-extends false this that one other = other

first-extends : (path : Bytes) (identity : Identity) (e : Entry) → Extends (and_first_entry path identity e)
first-extends path identity e g = ((length g.entries + 1, e) ∷ [], refl)

node-extends : (path : Bytes) (identity : Identity) (node : Node) (has_place : Bool) (why : SkipReason) (first : Option Bytes) → Extends (λ g. and_node path identity node has_place why g first)
node-extends path identity node has_place why (Some first) = entry-extends (further_name path first)
node-extends path identity node has_place why None =
    if-extends has_place (and_first_entry path identity (make path node)) (and_skipped path why) (first-extends path identity (make path node)) (reported-extends path why)

module _ (v : Version) where
  linked-extends : (path : Bytes) (identity : Identity) (node : Node) (has_place : Bool) (why : SkipReason) → Extends (and_linked v path identity node has_place why)
  linked-extends path identity node has_place why =
      if-extends (is_path v path) (λ g. and_node path identity node has_place why g (first_path_of identity g.firsts)) (and_skipped path Name)
      (λ g. node-extends path identity node has_place why (first_path_of identity g.firsts) g) (reported-extends path Name)

  directory-extends : (path : Bytes) (inside : Gathered → Gathered) → Extends inside → Extends (and_directory v path inside)
  directory-extends path inside more =
      if-extends (is_path v path) (λ g. inside (and_entry (make path (directory_node [])) g)) (and_skipped path Name)
      (both-extend (and_entry (make path (directory_node []))) inside (entry-extends (make path (directory_node []))) more) (reported-extends path Name)

  pub gather-extends : (path : Bytes) (host : HostEntries) → Extends (gather v path host)
  gather-extends path no_more = λ g. ([], sym (append-nil g.entries))
  gather-extends path (with_directory name inside rest) =
      both-extend (and_directory v (path_under path name) (gather v (path_under path name) inside)) (gather v path rest)
      (directory-extends (path_under path name) (gather v (path_under path name) inside) (gather-extends (path_under path name) inside)) (gather-extends path rest)
  gather-extends path (with_file_entry name identity executable bytes rest) =
      both-extend (and_file v (path_under path name) identity executable bytes) (gather v path rest) (linked-extends (path_under path name) identity _ _ _) (gather-extends path rest)
  gather-extends path (with_link name identity text rest) =
      both-extend (and_link v (path_under path name) identity text) (gather v path rest) (linked-extends (path_under path name) identity _ _ _) (gather-extends path rest)
  gather-extends path (with_other name why rest) =
      both-extend (and_skipped (path_under path name) why) (gather v path rest) (reported-extends (path_under path name) why) (gather-extends path rest)
  gather-extends path (with_replaced name rest) = gather-extends path rest

-- an error stays the same if more entries follow
refused-more : (es more all : List (ℕ × Entry)) (start : Tree) (refused : Bytes × EntryFault) → all ≡ es ++ more → IsEntryRefused es start refused → IsEntryRefused all start refused
refused-more es more all start refused is r = record {
  earlier = r.earlier;
  line = r.line;
  entry = r.entry;
  later = r.later ++ more;
  appears = is ∙ ap (λ xs. xs ++ more) r.appears ∙ append_assoc r.earlier ((r.line, r.entry) ∷ r.later) more;
  so_far = r.so_far;
  added = r.added;
  is_fault = r.is_fault;
  is_path = r.is_path;
}

-- a change that stopped, and one that would have followed it
pub stops-both : (first next : Gathered → Gathered) (before : Importing) (s : CopyStop) → Extends next → StopsImport first before s → StopsImport (λ g. next (first g)) before s
stops-both first next before stop.Read more stops = stops
stops-both first next before stop.Memory more stops = tt
stops-both first next before (stop.Entry refused) more stops = λ start g h.
    let on = more (first g) in refused-more (first g).entries on.0 (next (first g)).entries start (refused_pair refused) on.1 (stops start g h)

-- ---- directories

module _ (v : Version) (before : Importing) (path : Bytes) (known : Option HostEntries) (same : v ≡ before.version) where
  -- a directory that was skipped, whatever it contains
  pub directory-reported : (after : Importing) → AddsDirectory path before (Ok false) after → IfSome known (λ entries. Steps (and_directory v path (gather v path entries)) before after)
  directory-reported after preserved = steps-if known (λ entries. and_directory v path (gather v path entries)) before after (λ entries is start g h.
      let unnamed : is_path v path ≡ false = ap (λ w. is_path w path) same ∙ preserved.0 in
      rw unnamed (preserved.1 start g h))

  -- a directory that cannot be added
  pub directory-stops : (s : CopyStop) → StopsImport (λ g. if is_path before.version path then and_entry (make path (directory_node [])) g else g) before s
      → StopsIf known (λ entries. and_directory v path (gather v path entries)) before s
  directory-stops s stops = stops-if known (λ entries. and_directory v path (gather v path entries)) before s (λ entries is. by (is_path before.version path) refl stops entries)
    where
      by : (b : Bool) → is_path before.version path ≡ b → StopsImport (λ g. if b then and_entry (make path (directory_node [])) g else g) before s
          → (entries : HostEntries) → StopsImport (and_directory v path (gather v path entries)) before s
      by true named stops entries =
          let at : is_path v path ≡ true = ap (λ w. is_path w path) same ∙ named in
          stops-on (and_directory v path (gather v path entries)) (λ g. gather v path entries (and_entry (make path (directory_node [])) g)) before before s (λ start g h. (g, h, rw at refl))
          (stops-both (and_entry (make path (directory_node []))) (gather v path entries) before s (gather-extends v path entries) stops)
      by false unnamed stops entries =
          let at : is_path v path ≡ false = ap (λ w. is_path w path) same ∙ unnamed in
          stops-on (and_directory v path (gather v path entries)) (and_skipped path Name) before before s (λ start g h. (g, h, rw at refl))
          (stops-both (λ g. g) (and_skipped path Name) before s (reported-extends path Name) stops)

-- ---- the next name of a directory

-- the node at a path is added or skipped, or stops the import; a directory is its remaining entries, and a file is the
-- remaining bytes of its reader
abbrev pub GoesByNode : {D R X : Type 0} → (D → Option HostEntries) → (R → Option Bytes) → Version → Bytes → HostNode D R → Importing → Result X CopyStop → Importing
    → Type 0
GoesByNode entries_of bytes_of v path (Directory d) before result after = GoesIf (entries_of d) (λ inside. and_directory v path (gather v path inside)) before result after
GoesByNode entries_of bytes_of v path (File identity executable r) before result after = GoesIf (bytes_of r) (and_file v path identity executable) before result after
GoesByNode entries_of bytes_of v path (Link identity text) before result after = Goes (and_link v path identity text.items) before result after
GoesByNode entries_of bytes_of v path (Other why) before result after = Goes (and_skipped path why) before result after
GoesByNode entries_of bytes_of v path Replaced before result after = Goes (λ g. g) before result after

module _ {D R : Type 0} (entries_of : D → Option HostEntries) (bytes_of : R → Option Bytes) (v : Version) {X : Type 0} (now next : Importing) (r : Result X CopyStop) where
  abbrev GoesBy : Bytes → HostNode D R → Type 0
  GoesBy path node = GoesByNode entries_of bytes_of v path node now r next

  directory-goes : (path : Bytes) (inside : HostEntries) (node : HostNode D R) → IsDirectory entries_of bytes_of inside node → GoesBy path node
      → Goes (and_directory v path (gather v path inside)) now r next
  directory-goes path inside (Directory d) is goes = goes-known (entries_of d) inside (λ entries. and_directory v path (gather v path entries)) now r next is goes
  directory-goes path inside (File i x f) is goes = absurd is
  directory-goes path inside (Link i t) is goes = absurd is
  directory-goes path inside (Other w) is goes = absurd is
  directory-goes path inside Replaced is goes = absurd is

  file-goes : (path : Bytes) (identity : Identity) (executable : Bool) (bytes : Bytes) (node : HostNode D R) → IsFile entries_of bytes_of identity executable bytes node → GoesBy path node
      → Goes (and_file v path identity executable bytes) now r next
  file-goes path identity executable bytes (File i x f) is goes =
      subst (λ j. Goes (and_file v path j executable bytes) now r next) is.0
      (subst (λ y. Goes (and_file v path i y bytes) now r next) is.1 (goes-known (bytes_of f) bytes (and_file v path i x) now r next is.2 goes))
  file-goes path identity executable bytes (Directory d) is goes = absurd is
  file-goes path identity executable bytes (Link i t) is goes = absurd is
  file-goes path identity executable bytes (Other w) is goes = absurd is
  file-goes path identity executable bytes Replaced is goes = absurd is

  link-goes : (path : Bytes) (identity : Identity) (text : Bytes) (node : HostNode D R) → IsLink entries_of bytes_of identity text node → GoesBy path node
      → Goes (and_link v path identity text) now r next
  link-goes path identity text (Link i t) is goes =
      subst (λ j. Goes (and_link v path j text) now r next) is.0 (subst (λ bs. Goes (and_link v path i bs) now r next) is.1 goes)
  link-goes path identity text (Directory d) is goes = absurd is
  link-goes path identity text (File i x f) is goes = absurd is
  link-goes path identity text (Other w) is goes = absurd is
  link-goes path identity text Replaced is goes = absurd is

  other-goes : (path : Bytes) (why : SkipReason) (node : HostNode D R) → IsOther entries_of bytes_of why node → GoesBy path node → Goes (and_skipped path why) now r next
  other-goes path why (Other w) is goes = subst (λ y. Goes (and_skipped path y) now r next) is goes
  other-goes path why (Directory d) is goes = absurd is
  other-goes path why (File i x f) is goes = absurd is
  other-goes path why (Link i t) is goes = absurd is
  other-goes path why Replaced is goes = absurd is

  replaced-goes : (path : Bytes) (node : HostNode D R) → IsReplaced entries_of bytes_of node → GoesBy path node → Goes (λ g. g) now r next
  replaced-goes path Replaced is goes = goes
  replaced-goes path (Directory d) is goes = absurd is
  replaced-goes path (File i x f) is goes = absurd is
  replaced-goes path (Link i t) is goes = absurd is
  replaced-goes path (Other w) is goes = absurd is

  module _ (path : Bytes) (e : HostEntry D R) (after : Option HostEntries) where
    -- the entries after the first, and the change of the first
    abbrev GoesFirst : HostEntries → Type 0
    GoesFirst rest =
        (left : HostEntries) × (after ≡ Some left)
        × ((change : Gathered → Gathered) × Goes change now r next × ((g : Gathered) → gather v path left (change g) ≡ gather v path rest g))

    abbrev GoesHere : Bytes → Type 0
    GoesHere name = GoesBy (path_under path name) e.node

    first-goes : (rest : HostEntries) → ReportsEntry entries_of bytes_of rest (Some e) after → GoesHere e.name.items → GoesFirst rest
    first-goes no_more reported goes = absurd reported
    first-goes (with_directory name inside rest) reported goes =
        (rest, reported.2, (and_directory v (path_under path name) (gather v (path_under path name) inside), directory-goes (path_under path name) inside e.node reported.1 (subst GoesHere reported.0 goes), λ g. refl))
    first-goes (with_file_entry name identity executable bytes rest) reported goes =
        (rest, reported.2, (and_file v (path_under path name) identity executable bytes, file-goes (path_under path name) identity executable bytes e.node reported.1 (subst GoesHere reported.0 goes), λ g. refl))
    first-goes (with_link name identity text rest) reported goes =
        (rest, reported.2, (and_link v (path_under path name) identity text, link-goes (path_under path name) identity text e.node reported.1 (subst GoesHere reported.0 goes), λ g. refl))
    first-goes (with_other name why rest) reported goes =
        (rest, reported.2, (and_skipped (path_under path name) why, other-goes (path_under path name) why e.node reported.1 (subst GoesHere reported.0 goes), λ g. refl))
    first-goes (with_replaced name rest) reported goes =
        (rest, reported.2, ((λ g. g), replaced-goes (path_under path name) e.node reported.1 (subst GoesHere reported.0 goes), λ g. refl))

-- ---- the directories that are being read, the current one last

module _ {D : Type 0} (entries_of : D → Option HostEntries) where
  -- their paths and entries, which are known
  abbrev pub AreKnown : List (OpenDirectory D) → List (Bytes × HostEntries) → Type 0
  AreKnown [] [] = ⊤
  AreKnown [] (k ∷ ks) = ⊥
  AreKnown (o ∷ os) [] = ⊥
  AreKnown (o ∷ os) (k ∷ ks) = (o.path.items ≡ k.0) × (entries_of o.directory ≡ Some k.1) × AreKnown os ks

  known-last : (os : List (OpenDirectory D)) (ks : List (Bytes × HostEntries)) (o : OpenDirectory D) (k : Bytes × HostEntries) → AreKnown os ks
      → o.path.items ≡ k.0 → entries_of o.directory ≡ Some k.1 → AreKnown (os ++ o ∷ []) (ks ++ k ∷ [])
  known-last [] [] o k are path is = (path, is, tt)
  known-last [] (x ∷ ks) o k are path is = absurd are
  known-last (y ∷ os) [] o k are path is = absurd are
  known-last (y ∷ os) (x ∷ ks) o k are path is = (are.0, are.1, known-last os ks o k are.2 path is)

  record LastKnown (os : List (OpenDirectory D)) (o : OpenDirectory D) (ks : List (Bytes × HostEntries)) : Type 0 where
    front : List (Bytes × HostEntries)
    last : Bytes × HostEntries
    splits : ks ≡ front ++ last ∷ []
    are : AreKnown os front
    path : o.path.items ≡ last.0
    is : entries_of o.directory ≡ Some last.1

  last-known : (os : List (OpenDirectory D)) (o : OpenDirectory D) (ks : List (Bytes × HostEntries)) → AreKnown (os ++ o ∷ []) ks → LastKnown os o ks
  last-known [] o [] are = absurd are
  last-known [] o (k ∷ []) are = record { front = []; last = k; splits = refl; are = tt; path = are.0; is = are.1 }
  last-known [] o (k ∷ x ∷ ks) are = absurd are.2
  last-known (y ∷ os) o [] are = absurd are
  last-known (y ∷ os) o (k ∷ ks) are =
      let l = last-known os o ks are.2 in
      record { front = k ∷ l.front; last = l.last; splits = ap (λ xs. k ∷ xs) l.splits; are = (are.0, are.1, l.are); path = l.path; is = l.is }

  known-none : (ks : List (Bytes × HostEntries)) → AreKnown [] ks → ks ≡ []
  known-none [] are = refl
  known-none (k ∷ ks) are = absurd are

module _ (v : Version) where
  -- with the rest of these directories, the last one first
  abbrev pub gather_all : List (Bytes × HostEntries) → Gathered → Gathered
  gather_all [] g = g
  gather_all (k ∷ ks) g = gather v k.0 k.1 (gather_all ks g)

  gather_all-last : (ks : List (Bytes × HostEntries)) (k : Bytes × HostEntries) (g : Gathered) → gather_all (ks ++ k ∷ []) g ≡ gather_all ks (gather v k.0 k.1 g)
  gather_all-last [] k g = refl
  gather_all-last (x ∷ ks) k g = ap (gather v x.0 x.1) (gather_all-last ks k g)

  gather_all-extends : (ks : List (Bytes × HostEntries)) → Extends (gather_all ks)
  gather_all-extends [] = λ g. ([], sym (append-nil g.entries))
  gather_all-extends (k ∷ ks) = both-extend (gather_all ks) (gather v k.0 k.1) (gather_all-extends ks) (gather-extends v k.0 k.1)

-- gathering the rest from the current state is gathering all entries from the initial state
abbrev pub GoesOn : {D : Type 0} → (D → Option HostEntries) → Version → Option HostEntries → List (OpenDirectory D) → Importing → Importing → Type 0
GoesOn entries_of v None ds before now = Unit {0}
GoesOn entries_of v (Some host) ds before now = (ks : List (Bytes × HostEntries)) × AreKnown entries_of ds ks × Continues (gather v [] host) before (gather_all v ks) now

-- the same with the current directory apart
record Parted {D : Type 0} (entries_of : D → Option HostEntries) (v : Version) (host : HostEntries) (os : List (OpenDirectory D)) (path : Bytes) (left : Option HostEntries) (before now : Importing) : Type 0 where
  front : List (Bytes × HostEntries)
  are : AreKnown entries_of os front
  entries : HostEntries
  is : left ≡ Some entries
  on : Continues (gather v [] host) before (λ g. gather_all v front (gather v path entries g)) now

module _ {D : Type 0} (entries_of : D → Option HostEntries) (v : Version) (before now : Importing) where
  pub goes_on-start : (all : Option HostEntries) (none ds : List (OpenDirectory D)) (o : OpenDirectory D) → none ≡ [] → ds ≡ none ++ o ∷ [] → o.path.items ≡ []
      → entries_of o.directory ≡ all → now ≡ before → GoesOn entries_of v all ds before now
  goes_on-start None none ds o empty only path is same = tt
  goes_on-start (Some host) none ds o empty only path is same = (
    ([], host) ∷ [],
    subst (λ os. AreKnown entries_of os (([], host) ∷ [])) (sym (only ∙ ap (λ os. os ++ o ∷ []) empty)) (path, is, tt),
    λ start g h. (g, subst (HoldsGathered start g) (sym same) h, refl),
  )

  part : (host : HostEntries) (os : List (OpenDirectory D)) (o : OpenDirectory D) (ds : List (OpenDirectory D)) → ds ≡ os ++ o ∷ [] → GoesOn entries_of v (Some host) ds before now
      → Parted entries_of v host os o.path.items (entries_of o.directory) before now
  part host os o ds splits goes =
      let l = last-known entries_of os o goes.0 (subst (λ xs. AreKnown entries_of xs goes.0) splits goes.1) in
      record {
        front = l.front;
        are = l.are;
        entries = l.last.1;
        is = l.is;
        on = λ start g h.
            let held = goes.2 start g h in (
              held.0,
              held.1,
              ap (λ (p : Bytes). gather_all v l.front (gather v p l.last.1 held.0)) l.path
                  ∙ sym (gather_all-last v l.front l.last held.0) ∙ sym (ap (λ (xs : List (Bytes × HostEntries)). gather_all v xs held.0) l.splits) ∙ held.2,
            );
      }

  -- at the end, everything was gathered
  pub goes_on-done : (all : Option HostEntries) (ds : List (OpenDirectory D)) → ds ≡ [] → GoesOn entries_of v all ds before now
      → IfSome all (λ host. Steps (gather v [] host) before now)
  goes_on-done None ds none goes = tt
  goes_on-done (Some host) ds none goes = λ start g h.
      let held = goes.2 start g h in
      let ks = known-none entries_of goes.0 (subst (λ xs. AreKnown entries_of xs goes.0) none goes.1) in
      subst (λ (k : Gathered). HoldsGathered start k now) (sym (ap (λ (xs : List (Bytes × HostEntries)). gather_all v xs held.0) ks) ∙ held.2) held.1

  module _ (os : List (OpenDirectory D)) (o : OpenDirectory D) (ds : List (OpenDirectory D)) (splits : ds ≡ os ++ o ∷ []) where
    -- the host failed to return the next name
    pub goes_on-unread : {Y : Type 0} (all : Option HostEntries) (fault : HostFault) (read : Result Y HostFault) → GoesOn entries_of v all ds before now → read ≡ Err fault
        → (IsSome (entries_of o.directory) → read ≢ Err host.Read) → StopsIf all (gather v []) before (copy_stop_of fault)
    goes_on-unread all host.Memory read goes is never = tt
    goes_on-unread None host.Read read goes is never = refl
    goes_on-unread (Some all) host.Read read goes is never =
        let p = part all os o ds splits goes in absurd (never (subst (λ x. IsSome x) (sym p.is) refl) is)

    module _ {R : Type 0} (bytes_of : R → Option Bytes) where
      no-more : (entries : HostEntries) (after : Option HostEntries) → ReportsEntry entries_of bytes_of entries None after → entries ≡ no_more
      no-more no_more after reported = refl
      no-more (with_directory name inside rest) after reported = absurd reported
      no-more (with_file_entry name identity executable bytes rest) after reported = absurd reported
      no-more (with_link name identity text rest) after reported = absurd reported
      no-more (with_other name why rest) after reported = absurd reported
      no-more (with_replaced name rest) after reported = absurd reported

      -- the current directory has no more names
      pub goes_on-end : (all : Option HostEntries) (after : Option HostEntries) → GoesOn entries_of v all ds before now
          → IfSome (entries_of o.directory) (λ entries. ReportsEntry entries_of bytes_of entries None after) → GoesOn entries_of v all os before now
      goes_on-end None after goes reported = tt
      goes_on-end (Some host) after goes reported =
          let p = part host os o ds splits goes in
          let none : p.entries ≡ no_more = no-more p.entries after (subst (λ x. IfSome x (λ entries. ReportsEntry entries_of bytes_of entries None after)) p.is reported) in (
            p.front,
            p.are,
            λ start g h. let held = p.on start g h in (held.0, held.1, ap (λ (es : HostEntries). gather_all v p.front (gather v o.path.items es held.0)) (sym none) ∙ held.2),
          )

      module _ (next : Importing) (same : v ≡ now.version) (e : HostEntry D R) (after : OpenDirectory D) (stays : after.path.items ≡ o.path.items)
          (reported : IfSome (entries_of o.directory) (λ entries. ReportsEntry entries_of bytes_of entries (Some e) (entries_of after.directory))) where
        abbrev place : Bytes
        place = path_under o.path.items e.name.items

        reports : (entries : HostEntries) → entries_of o.directory ≡ Some entries → ReportsEntry entries_of bytes_of entries (Some e) (entries_of after.directory)
        reports entries is = subst (λ x. IfSome x (λ known. ReportsEntry entries_of bytes_of known (Some e) (entries_of after.directory))) is reported

        -- if no directory is read next, the node was added or skipped with everything below it
        takes-goes : (node : HostNode D R) (r : Result (Option (OpenDirectory D)) CopyStop) → OpensNone r → TakesNode bytes_of place node now r next
            → GoesByNode entries_of bytes_of v place node now r next
        takes-goes (Directory d) (Ok None) none takes = directory-reported v now place (entries_of d) same next takes
        takes-goes (Directory d) (Ok (Some opened)) none takes = absurd none
        takes-goes (Directory d) (Err s) none takes = directory-stops v now place (entries_of d) same s takes
        takes-goes (File i x f) r none takes = subst (λ w. GoesIf (bytes_of f) (and_file w place i x) now r next) (sym same) takes.1
        takes-goes (Link i t) r none takes = subst (λ w. Goes (and_link w place i t.items) now r next) (sym same) takes.1
        takes-goes (Other w) r none takes = takes.1
        takes-goes Replaced r none takes = takes.1

        goes_on-settled : (host : HostEntries) → GoesOn entries_of v (Some host) ds before now → TakesNode bytes_of place e.node now (Ok None) next
            → GoesOn entries_of v (Some host) (os ++ after ∷ []) before next
        goes_on-settled host goes takes =
            let p = part host os o ds splits goes in
            let r : Result (Option (OpenDirectory D)) CopyStop = Ok None in
            let first = first-goes entries_of bytes_of v now next r o.path.items e (entries_of after.directory) p.entries (reports p.entries p.is) (takes-goes e.node r tt takes) in (
              p.front ++ (o.path.items, first.0) ∷ [],
              known-last entries_of os p.front after (o.path.items, first.0) p.are stays first.1,
              λ start g h.
                  let held = p.on start g h in (
                    first.2.0 held.0,
                    first.2.1 start held.0 held.1,
                    gather_all-last v p.front (o.path.items, first.0) (first.2.0 held.0) ∙ ap (gather_all v p.front) (first.2.2 held.0) ∙ held.2,
                  ),
            )

        -- the node of a directory that is read next
        record IsOpened (node : HostNode D R) (opened : OpenDirectory D) : Type 0 where
          is : node ≡ Directory opened.directory
          path : opened.path.items ≡ place
          added : AddsDirectory place now (Ok true) next

        opened-node : (node : HostNode D R) (opened : OpenDirectory D) → TakesNode bytes_of place node now (Ok (Some opened)) next → IsOpened node opened
        opened-node (Directory d) opened takes = record { is = ap Directory (sym takes.0); path = takes.1; added = takes.2 }
        opened-node (File i x f) opened takes = absurd takes.0
        opened-node (Link i t) opened takes = absurd takes.0
        opened-node (Other w) opened takes = absurd takes.0
        opened-node Replaced opened takes = absurd takes.0

        record FirstOpened (rest : HostEntries) (d : D) : Type 0 where
          inside : HostEntries
          left : HostEntries
          known : entries_of d ≡ Some inside
          remains : entries_of after.directory ≡ Some left
          is : (g : Gathered) → gather v o.path.items left (and_directory v place (gather v place inside) g) ≡ gather v o.path.items rest g

        first-opened : (rest : HostEntries) (d : D) → ReportsEntry entries_of bytes_of rest (Some e) (entries_of after.directory) → e.node ≡ Directory d → FirstOpened rest d
        first-opened no_more d reported is = absurd reported
        first-opened (with_directory name inside left) d reported is = record {
          inside = inside;
          left = left;
          known = subst (λ n. IsDirectory entries_of bytes_of inside n) is reported.1;
          remains = reported.2;
          is = λ g. ap (λ (n : Bytes). gather v o.path.items left (and_directory v (path_under o.path.items n) (gather v (path_under o.path.items n) inside) g)) reported.0;
        }
        first-opened (with_file_entry name identity executable bytes left) d reported is = absurd (subst (λ n. IsFile entries_of bytes_of identity executable bytes n) is reported.1)
        first-opened (with_link name identity text left) d reported is = absurd (subst (λ n. IsLink entries_of bytes_of identity text n) is reported.1)
        first-opened (with_other name why left) d reported is = absurd (subst (λ n. IsOther entries_of bytes_of why n) is reported.1)
        first-opened (with_replaced name left) d reported is = absurd (subst (λ n. IsReplaced entries_of bytes_of n) is reported.1)

        goes_on-opened : (host : HostEntries) (opened : OpenDirectory D) → GoesOn entries_of v (Some host) ds before now → TakesNode bytes_of place e.node now (Ok (Some opened)) next
            → GoesOn entries_of v (Some host) ((os ++ after ∷ []) ++ opened ∷ []) before next
        goes_on-opened host opened goes takes =
            let p = part host os o ds splits goes in
            let node = opened-node e.node opened takes in
            let first = first-opened p.entries opened.directory (reports p.entries p.is) node.is in
            let named : is_path v place ≡ true = ap (λ w. is_path w place) same ∙ node.added.0 in (
              (p.front ++ (o.path.items, first.left) ∷ []) ++ (place, first.inside) ∷ [],
              known-last entries_of (os ++ after ∷ []) (p.front ++ (o.path.items, first.left) ∷ []) opened (place, first.inside)
                  (known-last entries_of os p.front after (o.path.items, first.left) p.are stays first.remains) node.path first.known,
              λ start g h.
                  let held = p.on start g h in
                  let added = and_entry (make place (directory_node [])) held.0 in
                  let into : and_directory v place (gather v place first.inside) held.0 ≡ gather v place first.inside added = rw named refl in (
                    added,
                    node.added.1 start held.0 held.1,
                    gather_all-last v (p.front ++ (o.path.items, first.left) ∷ []) (place, first.inside) added
                        ∙ gather_all-last v p.front (o.path.items, first.left) (gather v place first.inside added)
                        ∙ ap (gather_all v p.front) (ap (gather v o.path.items first.left) (sym into) ∙ first.is held.0) ∙ held.2,
                  ),
            )

        -- one more name
        pub goes_on-next : (all : Option HostEntries) (opened : Option (OpenDirectory D)) → GoesOn entries_of v all ds before now → TakesNode bytes_of place e.node now (Ok opened) next
            → GoesOn entries_of v all (and_opened os after opened) before next
        goes_on-next None opened goes takes = tt
        goes_on-next (Some host) None goes takes = goes_on-settled host goes takes
        goes_on-next (Some host) (Some opened) goes takes = goes_on-opened host opened goes takes

        -- a name that stopped the import
        pub goes_on-stops : (all : Option HostEntries) (s : CopyStop) → GoesOn entries_of v all ds before now → TakesNode bytes_of place e.node now (Err s) next → StopsIf all (gather v []) before s
        goes_on-stops None stop.Read goes takes = refl
        goes_on-stops None stop.Memory goes takes = tt
        goes_on-stops None (stop.Entry refused) goes takes = tt
        goes_on-stops (Some host) s goes takes =
            let p = part host os o ds splits goes in
            let r : Result (Option (OpenDirectory D)) CopyStop = Err s in
            let first = first-goes entries_of bytes_of v now next r o.path.items e (entries_of after.directory) p.entries (reports p.entries p.is) (takes-goes e.node r tt takes) in
            stops-if (Some host) (gather v []) before s (λ known is.
            let equal : host ≡ known = cc in
            subst (λ k. StopsImport (gather v [] k) before s) equal
            (stops-on (gather v [] host) (λ g. gather_all v p.front (gather v o.path.items first.0 (first.2.0 g))) before now s
            (λ start g h. let held = p.on start g h in (held.0, held.1, ap (gather_all v p.front) (first.2.2 held.0) ∙ held.2))
            (stops-both first.2.0 (λ g. gather_all v p.front (gather v o.path.items first.0 g)) now s
            (both-extend (gather v o.path.items first.0) (gather_all v p.front) (gather-extends v o.path.items first.0) (gather_all-extends v p.front)) first.2.1)))

-- ---- termination

-- a bound of the number of steps that remain
abbrev pub steps_left : {D : Type 0} → (D → ℕ) → List (OpenDirectory D) → ℕ
steps_left left [] = 0
steps_left left (o ∷ os) = 2 * left o.directory + 1 + steps_left left os

steps-last : {D : Type 0} (left : D → ℕ) (os : List (OpenDirectory D)) (o : OpenDirectory D) → steps_left left (os ++ o ∷ []) ≡ steps_left left os + (2 * left o.directory + 1)
steps-last left [] o = omega arith
steps-last left (x ∷ os) o = let rest = steps-last left os o in omega (arith, rest)

module _ {D : Type 0} (left : D → ℕ) (os : List (OpenDirectory D)) (o : OpenDirectory D) (ds : List (OpenDirectory D)) (splits : ds ≡ os ++ o ∷ []) where
  steps-open : steps_left left ds ≡ steps_left left os + (2 * left o.directory + 1)
  steps-open = ap (steps_left left) splits ∙ steps-last left os o

  pub steps-end : steps_left left os < steps_left left ds
  steps-end = let is = steps-open in omega (arith, is)

  module _ {R : Type 0} (bytes_of : R → Option Bytes) (path : Bytes) (now next : Importing) (after : OpenDirectory D) where
    steps-opened : (opened : OpenDirectory D) (node : HostNode D R) → left after.directory + left_below left node < left o.directory
        → TakesNode bytes_of path node now (Ok (Some opened)) next → steps_left left ((os ++ after ∷ []) ++ opened ∷ []) < steps_left left ds
    steps-opened opened (Directory d) less takes =
        let is = steps-open in
        let last = steps-last left (os ++ after ∷ []) opened in
        let before = steps-last left os after in
        let same : left opened.directory ≡ left d = ap left takes.0 in
        omega (arith, is, last, before, same, less)
    steps-opened opened (File i x f) less takes = absurd takes.0
    steps-opened opened (Link i t) less takes = absurd takes.0
    steps-opened opened (Other w) less takes = absurd takes.0
    steps-opened opened Replaced less takes = absurd takes.0

    pub steps-next : (e : HostEntry D R) (opened : Option (OpenDirectory D)) → IsFewer left (left o.directory) (Some e) (left after.directory)
        → TakesNode bytes_of path e.node now (Ok opened) next → steps_left left (and_opened os after opened) < steps_left left ds
    steps-next e None fewer takes =
        let is = steps-open in
        let last = steps-last left os after in
        let less : left after.directory < left o.directory = omega (arith, fewer) in
        omega (arith, is, last, less)
    steps-next e (Some opened) fewer takes = steps-opened opened e.node fewer takes
