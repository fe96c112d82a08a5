-- The steps of an import.
use Rattle.std.proofs.Common.{◌≡◌, ◌≢◌, ◌∙◌, ap, arith, ℕ, ◌+◌, ◌≤◌, ◌<◌, Bool, true, false, [], ◌∷◌, ◌++◌, length, Option, None, Some, Result, Ok, Err, refl, sym, subst}
use Rattle.std.specs.Global.{Vec}
use Rattle.std.specs.Prelude.{map, nat_le, IfSome, IsSome, IsErrAnd, if◌then◌else◌}
use Rattle.std.proofs.lemmas.Bool.{le-leb, leb-true}
use Rattle.std.proofs.lemmas.List.{map_push}
use Rattle.pv_model.specs.declared.version.Version.{Version}
use Rattle.pv_model.specs.Machine.{Bytes, add_entry, path_of, Entry, make, further_name, greatest_length, Node, Tree, file_node, directory_node}
use Rattle.pv_tree.specs.Holding.{HeldTree}
use Rattle.pv_host_copy.specs.declared.entry.Identity.{Identity}
use Rattle.pv_host_copy.specs.declared.fault.CopyStop.{CopyStop}
use Rattle.pv_host_copy.specs.declared.fault.CopyStop.TheVariants as stop
use Rattle.pv_host_copy.specs.declared.fault.HostFault.{HostFault}
use Rattle.pv_host_copy.specs.declared.fault.HostFault.TheVariants as host
use Rattle.pv_host_copy.specs.declared.fault.Refused.{Refused}
use Rattle.pv_host_copy.specs.declared.fault.SkipReason.{SkipReason}
use Rattle.pv_host_copy.specs.declared.fault.SkipReason.TheVariants.{Name, Size}
use Rattle.pv_host_copy.specs.declared.first.First.{First}
use Rattle.pv_host_copy.specs.declared.importing.Importing.{Importing}
use Rattle.pv_host_copy.specs.declared.skipped.Skipped.{Skipped}
use Rattle.pv_host_copy.specs.Firsts.{identity_and_path, skipped_pair}
use Rattle.pv_host_copy.specs.Gathered.{Gathered, and_entry, and_skipped, and_first_entry, and_linked, and_file, first_path_of}
use Rattle.pv_host_copy.specs.Importing.{HoldsGathered, Steps, Refuses, StopsImport, StopsIf, Goes, GoesIf, Settles}
use Rattle.pv_image_manifest.specs.Adding.{error_at_line}
use Rattle.pv_image_manifest.specs.Paths.{is_path}
use Rattle.pv_image_manifest.proofs.TreePrefixes.{add_last}
use Rattle.pv_host_copy.specs.Reading.{AreBytesWithin}
use Rattle.pv_host_copy.specs.Stopped.{IsEntryRefused, refused_pair, copy_stop_of}

-- ---- a change that is a part of another

-- the current state, with the rest of a change, is the complete change of the previous state
abbrev pub Continues : (Gathered → Gathered) → Importing → (Gathered → Gathered) → Importing → Type 0
Continues all before rest now = (start : Tree) (g : Gathered) → HoldsGathered start g before → (so_far : Gathered) × HoldsGathered start so_far now × (rest so_far ≡ all g)

pub steps-on : (all rest : Gathered → Gathered) (before now after : Importing) → Continues all before rest now → Steps rest now after → Steps all before after
steps-on all rest before now after on steps = λ start g h. let held = on start g h in subst (λ k. HoldsGathered start k after) held.2 (steps start held.0 held.1)

pub stops-on : (all rest : Gathered → Gathered) (before now : Importing) (s : CopyStop) → Continues all before rest now → StopsImport rest now s → StopsImport all before s
stops-on all rest before now stop.Read on stops = stops
stops-on all rest before now stop.Memory on stops = tt
stops-on all rest before now (stop.Entry refused) on stops = λ start g h.
    let held = on start g h in subst (λ (k : Gathered). IsEntryRefused k.entries start (refused_pair refused)) held.2 (stops start held.0 held.1)

pub goes-on : {X : Type 0} (all rest : Gathered → Gathered) (before now after : Importing) (r : Result X CopyStop) → Continues all before rest now → Goes rest now r after
    → Goes all before r after
goes-on all rest before now after (Ok x) on goes = steps-on all rest before now after on goes
goes-on all rest before now after (Err s) on goes = stops-on all rest before now s on goes

-- ---- known contents

pub steps-if : {A : Type 0} (known : Option A) (change : A → Gathered → Gathered) (before after : Importing) → ((a : A) → known ≡ Some a → Steps (change a) before after)
    → IfSome known (λ a. Steps (change a) before after)
steps-if None change before after h = tt
steps-if (Some a) change before after h = h a refl

pub stops-if : {A : Type 0} (known : Option A) (change : A → Gathered → Gathered) (before : Importing) (s : CopyStop) → ((a : A) → known ≡ Some a → StopsImport (change a) before s)
    → StopsIf known change before s
stops-if None change before stop.Read h = refl
stops-if None change before stop.Memory h = tt
stops-if None change before (stop.Entry refused) h = tt
stops-if (Some a) change before stop.Read h = absurd (h a refl)
stops-if (Some a) change before stop.Memory h = tt
stops-if (Some a) change before (stop.Entry refused) h = h a refl

pub goes-if : {A X : Type 0} (known : Option A) (change : A → Gathered → Gathered) (before : Importing) (r : Result X CopyStop) (after : Importing)
    → ((a : A) → known ≡ Some a → Goes (change a) before r after) → GoesIf known change before r after
goes-if known change before (Ok x) after h = steps-if known change before after h
goes-if known change before (Err s) after h = stops-if known change before s h

pub stops-known : {A : Type 0} (known : Option A) (a : A) (change : A → Gathered → Gathered) (before : Importing) (s : CopyStop) → known ≡ Some a → StopsIf known change before s
    → StopsImport (change a) before s
stops-known known a change before stop.Read is stops = let none : None ≡ Some a = sym stops ∙ is in cc none
stops-known known a change before stop.Memory is stops = tt
stops-known known a change before (stop.Entry refused) is stops = subst (λ o. IfSome o (λ b. Refuses (change b) before (refused_pair refused))) is stops

pub goes-known : {A X : Type 0} (known : Option A) (a : A) (change : A → Gathered → Gathered) (before : Importing) (r : Result X CopyStop) (after : Importing)
    → known ≡ Some a → GoesIf known change before r after → Goes (change a) before r after
goes-known known a change before (Ok x) after is goes = subst (λ o. IfSome o (λ b. Steps (change b) before after)) is goes
goes-known known a change before (Err s) after is goes = stops-known known a change before s is goes

-- an error is passed on
pub goes-residual : {X : Type 0} (change : Gathered → Gathered) (before : Importing) (r : Result X CopyStop) (after : Importing) (s : CopyStop) → IsErrAnd r (λ given. given ≡ s)
    → StopsImport change before s → Goes change before r after
goes-residual change before (Ok x) after s is stops = absurd is
goes-residual change before (Err given) after s is stops = subst (StopsImport change before) (sym is) stops

pub goes_if-residual : {A X : Type 0} (known : Option A) (change : A → Gathered → Gathered) (before : Importing) (r : Result X CopyStop) (after : Importing) (s : CopyStop)
    → IsErrAnd r (λ given. given ≡ s) → StopsIf known change before s → GoesIf known change before r after
goes_if-residual known change before (Ok x) after s is stops = absurd is
goes_if-residual known change before (Err given) after s is stops = subst (StopsIf known change before) (sym is) stops

-- contents that cannot be known are unknown
pub unknown : {A : Type 0} (known : Option A) → (IsSome known → ⊥) → known ≡ None
unknown None never = refl
unknown (Some a) never = absurd (never refl)

-- ---- one step

-- one more entry
pub entry-steps : (before after : Importing) (e : Entry) (t : Tree) → t ≡ before.tree.value.tree → ((line : ℕ) → add_entry line t e ≡ Ok after.tree.value.tree)
    → after.firsts.items ≡ before.firsts.items → after.reported.items ≡ before.reported.items → Steps (and_entry e) before after
entry-steps before after e t is adds firsts reported = λ start g h. record {
  tree = add_last g.entries (length g.entries + 1, e) start t after.tree.value.tree (h.tree ∙ ap (λ u. Ok u) (sym is)) (adds (length g.entries + 1));
  firsts = ap (map identity_and_path) firsts ∙ h.firsts;
  reported = ap (map skipped_pair) reported ∙ h.reported;
}

-- an entry that cannot be added
pub entry-stops : (before : Importing) (e : Entry) (t : Tree) (refused : Refused) → t ≡ before.tree.value.tree → path_of e ≡ refused.path.items
    → ((line : ℕ) → add_entry line t e ≡ Err (error_at_line line refused.fault)) → StopsImport (and_entry e) before (stop.Entry refused)
entry-stops before e t refused is at fails = λ start g h. record {
  earlier = g.entries;
  line = length g.entries + 1;
  entry = e;
  later = [];
  appears = refl;
  so_far = t;
  added = h.tree ∙ ap (λ u. Ok u) (sym is);
  is_fault = fails (length g.entries + 1);
  is_path = at;
}

-- one more skipped path
pub reported-steps : (before after : Importing) (path : Bytes) (why : SkipReason) (t : Skipped) → after.tree.value ≡ before.tree.value → after.firsts.items ≡ before.firsts.items
    → after.reported.items ≡ before.reported.items ++ t ∷ [] → skipped_pair t ≡ (path, why) → Steps (and_skipped path why) before after
reported-steps before after path why t tree firsts reported is = λ start g h. record {
  tree = h.tree ∙ ap (λ (u : HeldTree). Ok u.tree) (sym tree);
  firsts = ap (map identity_and_path) firsts ∙ h.firsts;
  reported = ap (map skipped_pair) reported ∙ map_push skipped_pair before.reported.items t ∙ ap (λ ts. ts ++ skipped_pair t ∷ []) h.reported ∙ ap (λ p. g.reported ++ p ∷ []) is;
}

-- an entry that was added, with its first path
pub first-steps : (before mid after : Importing) (path : Bytes) (identity : Identity) (e : Entry) (f : First) → Steps (and_entry e) before mid → after.tree.value ≡ mid.tree.value
    → after.firsts.items ≡ mid.firsts.items ++ f ∷ [] → identity_and_path f ≡ (identity, path) → after.reported.items ≡ mid.reported.items → Steps (and_first_entry path identity e) before after
first-steps before mid after path identity e f added tree firsts is reported = λ start g h.
    let m = added start g h in
    record {
      tree = m.tree ∙ ap (λ (u : HeldTree). Ok u.tree) (sym tree);
      firsts = ap (map identity_and_path) firsts ∙ map_push identity_and_path mid.firsts.items f ∙ ap (λ fs. fs ++ identity_and_path f ∷ []) m.firsts ∙ ap (λ p. g.firsts ++ p ∷ []) is;
      reported = ap (map skipped_pair) reported ∙ m.reported;
    }

-- an entry that cannot be added, with its first path
pub first-stops : (before : Importing) (path : Bytes) (identity : Identity) (e : Entry) (s : CopyStop) → StopsImport (and_entry e) before s → StopsImport (and_first_entry path identity e) before s
first-stops before path identity e stop.Read stops = stops
first-stops before path identity e stop.Memory stops = tt
first-stops before path identity e (stop.Entry refused) stops = stops

-- ---- files and symbolic links

module _ (before : Importing) (path : Bytes) (identity : Identity) where
  pub settled-unnamed : (after : Importing) → is_path before.version path ≡ false → Steps (and_skipped path Name) before after → Settles path identity before (Ok true) after
  settled-unnamed after unnamed steps = λ node has_place why start g h. rw unnamed (steps start g h)

  module _ (first : Bytes) (named : is_path before.version path ≡ true) (found : first_path_of identity (map identity_and_path before.firsts.items) ≡ Some first) where
    further : (node : Node) (has_place : Bool) (why : SkipReason)
        → Continues (and_linked before.version path identity node has_place why) before (and_entry (further_name path first)) before
    further node has_place why = λ start g h.
        let there : first_path_of identity g.firsts ≡ Some first = ap (first_path_of identity) (sym h.firsts) ∙ found in
        (g, h, rw (named, there) refl)

    pub settled-further : (after : Importing) → Steps (and_entry (further_name path first)) before after → Settles path identity before (Ok true) after
    settled-further after steps = λ node has_place why.
        steps-on (and_linked before.version path identity node has_place why) (and_entry (further_name path first)) before before after (further node has_place why) steps

    pub settled-stops : (s : CopyStop) → StopsImport (and_entry (further_name path first)) before s
        → (node : Node) (has_place : Bool) (why : SkipReason) → StopsImport (and_linked before.version path identity node has_place why) before s
    settled-stops s stops = λ node has_place why.
        stops-on (and_linked before.version path identity node has_place why) (and_entry (further_name path first)) before before s (further node has_place why) stops

module _ (v : Version) (before now : Importing) (path : Bytes) (identity : Identity) (same : v ≡ before.version) (settled : Settles path identity before (Ok false) now) where
  -- a new one that the image can contain
  pub new-placed : (node : Node) (has_place : Bool) (why : SkipReason) → has_place ≡ true
      → Continues (and_linked v path identity node has_place why) before (and_first_entry path identity (make path node)) now
  new-placed node has_place why has = λ start g h.
      let named : is_path v path ≡ true = ap (λ w. is_path w path) same ∙ settled.0 in
      let none : first_path_of identity g.firsts ≡ None = ap (first_path_of identity) (sym h.firsts) ∙ settled.1 in
      (g, subst (HoldsGathered start g) (sym settled.2) h, rw (named, none, has) refl)

  -- a new one that the image cannot contain
  pub new-reported : (node : Node) (has_place : Bool) (why : SkipReason) → has_place ≡ false → Continues (and_linked v path identity node has_place why) before (and_skipped path why) now
  new-reported node has_place why hasnt = λ start g h.
      let named : is_path v path ≡ true = ap (λ w. is_path w path) same ∙ settled.0 in
      let none : first_path_of identity g.firsts ≡ None = ap (first_path_of identity) (sym h.firsts) ∙ settled.1 in
      (g, subst (HoldsGathered start g) (sym settled.2) h, rw (named, none, hasnt) refl)

-- ---- files

not_le : (a b : ℕ) → b < a → nat_le a b ≡ false
not_le a b above = by (nat_le a b) refl
  where
    by : (t : Bool) → nat_le a b ≡ t → t ≡ false
    by true is = absurd (omega (arith, leb-true a b is))
    by false is = refl

module _ (v : Version) (before now : Importing) (path : Bytes) (identity : Identity) (executable : Bool) (known : Option Bytes) (same : v ≡ before.version) where
  -- a file that was handled, whatever its bytes
  pub file-settled : (after : Importing) → Settles path identity before (Ok true) after → IfSome known (λ bytes. Steps (and_file v path identity executable bytes) before after)
  file-settled after settled = steps-if known (and_file v path identity executable) before after (λ bytes is.
      subst (λ w. Steps (and_linked w path identity (file_node executable bytes) (nat_le (length bytes) (greatest_length v)) Size) before after) (sym same)
      (settled (file_node executable bytes) (nat_le (length bytes) (greatest_length v)) Size))

  -- a file that stopped the import before its bytes were read
  pub file-stops : (s : CopyStop) → ((node : Node) (has_place : Bool) (why : SkipReason) → StopsImport (and_linked before.version path identity node has_place why) before s)
      → StopsIf known (and_file v path identity executable) before s
  file-stops s settles = stops-if known (and_file v path identity executable) before s (λ bytes is.
      subst (λ w. StopsImport (and_linked w path identity (file_node executable bytes) (nat_le (length bytes) (greatest_length v)) Size) before s) (sym same)
      (settles (file_node executable bytes) (nat_le (length bytes) (greatest_length v)) Size))

  -- a file that cannot be read
  pub file-unread : {Y : Type 0} (fault : HostFault) (read : Result Y HostFault) → read ≡ Err fault → (IsSome known → read ≢ Err host.Read)
      → StopsIf known (and_file v path identity executable) before (copy_stop_of fault)
  file-unread host.Memory read is never = tt
  file-unread host.Read read is never = unknown known (λ some. never some is)

  module _ (settled : Settles path identity before (Ok false) now) (limit : ℕ) (is_limit : limit ≡ greatest_length v) where
    -- a file that is too long
    pub file-reported : (after : Importing) → IfSome known (λ all. AreBytesWithin limit all None) → Steps (and_skipped path Size) now after
        → IfSome known (λ bytes. Steps (and_file v path identity executable bytes) before after)
    file-reported after read steps = steps-if known (and_file v path identity executable) before after (λ all is.
        let over : limit < length all = subst (λ o. IfSome o (λ all. AreBytesWithin limit all None)) is read in
        let long : greatest_length v < length all = subst (λ n. n < length all) is_limit over in
        steps-on (and_file v path identity executable all) (and_skipped path Size) before now after
        (new-reported v before now path identity same settled (file_node executable all) (nat_le (length all) (greatest_length v)) Size (not_le (length all) (greatest_length v) long)) steps)

    -- a file that the image can contain
    pub file-placed : {X : Type 0} (after : Importing) (r : Result X CopyStop) (bytes : Vec ℕ) → IfSome known (λ all. AreBytesWithin limit all (Some bytes))
        → Goes (and_first_entry path identity (make path (file_node executable bytes.items))) now r after → GoesIf known (and_file v path identity executable) before r after
    file-placed after r bytes read goes = goes-if known (and_file v path identity executable) before r after (λ all is.
        let whole : (bytes.items ≡ all) × (length all ≤ limit) = subst (λ o. IfSome o (λ all. AreBytesWithin limit all (Some bytes))) is read in
        let short : length all ≤ greatest_length v = subst (λ n. length all ≤ n) is_limit whole.1 in
        goes-on (and_file v path identity executable all) (and_first_entry path identity (make path (file_node executable all))) before now after r
        (new-placed v before now path identity same settled (file_node executable all) (nat_le (length all) (greatest_length v)) Size (le-leb (length all) (greatest_length v) short))
        (subst (λ bs. Goes (and_first_entry path identity (make path (file_node executable bs))) now r after) whole.0 goes))

-- ---- directories

-- a directory that cannot be added
pub keeps-stops : (before : Importing) (path : Bytes) (s : CopyStop) → is_path before.version path ≡ true → StopsImport (and_entry (make path (directory_node []))) before s
    → StopsImport (λ g. if is_path before.version path then and_entry (make path (directory_node [])) g else g) before s
keeps-stops before path s named stops = rw named stops
