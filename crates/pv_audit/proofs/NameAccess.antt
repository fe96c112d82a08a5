-- The access by all names of a file.
use Rattle.std.proofs.Common.{◌≡◌, ℕ, ◌<◌, Bool, true, false, cond, not, ◌&&◌, ◌||◌, List, [], ◌∷◌, ◌++◌, map, flat_map, fold, length, Option, None, Some, is_some, refl, ap, sym, ◌∙◌, arith, get_or, zero, suc, take, drop}
use Rattle.std.specs.Bool.{⊤}
use Rattle.std.proofs.lemmas.Bool.{and_parts}
use Rattle.std.proofs.lemmas.List.{map-append}
use Rattle.pv_model.specs.declared.perms.Perms.{Perms}
use Rattle.pv_model.specs.Machine.{Bytes, is_empty, State, process_at, Tree, ancestors, find_entry, is_directory_at, Table, permissions_at, directory_rights}
use Rattle.pv_model.specs.Closed.{opens_or_moves}
use Rattle.pv_laws_trees.proofs.TreeChanges.{has_entry-directory}
use Rattle.pv_audit.specs.declared.table_access.TableAccess.{TableAccess}
use Rattle.pv_audit.specs.declared.suspects.Suspect.{Suspect}
use Rattle.pv_audit.specs.Findings.{lesser, least, governing, passing, entries_passing, least_above, with_name_noted, table_entries, note_of, with_names_noted, are_live}
use Rattle.pv_calls_state.specs.OfTree.NodeNames.{names_after, names_from, IsNextNameOfNode}
use Rattle.pv_audit.proofs.LeastNumbers.{lesser-none, lesser-assoc, least-cons, passing-append}

-- a name with its directory
abbrev pub Named : Type 0
Named = ℕ × Bytes

-- without a last name, all names follow
after-none : (ns : List Named) → names_after None ns ≡ ns
after-none [] = refl
after-none (x ∷ ns) = ap (λ (ys : List Named). x ∷ ys) (after-none ns)

-- ---- one name at a time

abbrev pub with_c : Perms → Bool
with_c permissions = permissions.c

abbrev pub with_w : Perms → Bool
with_w permissions = permissions.w

module _ (t : Tree) (table : Table) where
  abbrev all_noted : TableAccess → List Named → TableAccess
  all_noted table_access ns = fold (λ (f : TableAccess) (name : Named). with_name_noted t table f name) table_access ns

  abbrev governed : List Named → List (Option ℕ)
  governed ns = map (governing t table) ns

  abbrev higher : List Named → List (Option ℕ)
  higher ns = map (directory_rights t table) (flat_map (λ (name : Named). ancestors t name.0) ns)

  pub gives-all : (table_access : TableAccess) (ns : List Named) → (all_noted table_access ns).gives ≡ lesser table_access.gives (least (entries_passing opens_or_moves table (governed ns)))
  gives-all table_access [] = sym (lesser-none table_access.gives)
  gives-all table_access (x ∷ ns) =
      gives-all (with_name_noted t table table_access x) ns
      ∙ lesser-assoc table_access.gives (passing opens_or_moves table (governing t table x)) (least (entries_passing opens_or_moves table (governed ns)))
      ∙ ap (lesser table_access.gives) (sym (least-cons opens_or_moves table (governing t table x) (governed ns)))

  pub above-all : (table_access : TableAccess) (ns : List Named) → (all_noted table_access ns).above ≡ lesser table_access.above (least (entries_passing with_c table (higher ns)))
  above-all table_access [] = sym (lesser-none table_access.above)
  above-all table_access (x ∷ ns) =
      above-all (with_name_noted t table table_access x) ns
      ∙ lesser-assoc table_access.above (least_above t table x.0) (least (entries_passing with_c table (higher ns)))
      ∙ ap (lesser table_access.above)
      (sym (ap (λ (os : List (Option ℕ)). least (entries_passing with_c table os)) (map-append (directory_rights t table) (ancestors t x.0) (flat_map (λ (name : Named). ancestors t name.0) ns))
      ∙ passing-append with_c table (map (directory_rights t table) (ancestors t x.0)) (higher ns)))

  or_assoc : (a b c : Bool) → ((a || b) || c) ≡ (a || (b || c))
  or_assoc true b c = refl
  or_assoc false b c = refl

  some-cons : (o : Option ℕ) (os : List (Option ℕ)) → (is_some (passing with_w table o) || not (is_empty (entries_passing with_w table os))) ≡ not (is_empty (entries_passing with_w table (o ∷ os)))
  some-cons None os = refl
  some-cons (Some k) os =
      elim (with_w (permissions_at table k)) as (λ b. (is_some (cond b (Some k) None) || not (is_empty (entries_passing with_w table os)))
      ≡ not (is_empty (cond b (k ∷ entries_passing with_w table os) (entries_passing with_w table os)))) [
        | true ↦ refl
        | false ↦ refl
      ]

  or_false : (b : Bool) → (b || false) ≡ b
  or_false true = refl
  or_false false = refl

  pub writes-all : (table_access : TableAccess) (ns : List Named) → (all_noted table_access ns).writes ≡ (table_access.writes || not (is_empty (entries_passing with_w table (governed ns))))
  writes-all table_access [] = sym (or_false table_access.writes)
  writes-all table_access (x ∷ ns) =
      writes-all (with_name_noted t table table_access x) ns
      ∙ or_assoc table_access.writes (is_some (passing with_w table (governing t table x))) (not (is_empty (entries_passing with_w table (governed ns))))
      ∙ ap (λ b. table_access.writes || b) (some-cons (governing t table x) (governed ns))

-- ---- one process at a time

pub with_name_noted-pid : (s : State) (ns : List Named) (x : Suspect) → (with_names_noted s ns x).pid ≡ x.pid
with_name_noted-pid s [] x = refl
with_name_noted-pid s (n ∷ ns) x = with_name_noted-pid s ns (note_of s n x)

pub with_name_noted-table_access : (s : State) (ns : List Named) (x : Suspect) → (with_names_noted s ns x).table_access ≡ all_noted s.tree (table_entries (process_at s x.pid)) x.table_access ns
with_name_noted-table_access s [] x = refl
with_name_noted-table_access s (n ∷ ns) x = with_name_noted-table_access s ns (note_of s n x)

pub with_name_noted-more : (s : State) (x : Named) (ns : List Named) (ys : List Suspect) → map (with_names_noted s (x ∷ ns)) ys ≡ map (with_names_noted s ns) (map (note_of s x) ys)
with_name_noted-more s x ns [] = refl
with_name_noted-more s x ns (y ∷ ys) = ap (λ (zs : List Suspect). with_names_noted s (x ∷ ns) y ∷ zs) (with_name_noted-more s x ns ys)

pub with_name_noted-nothing : (s : State) (ys : List Suspect) → map (with_names_noted s []) ys ≡ ys
with_name_noted-nothing s [] = refl
with_name_noted-nothing s (y ∷ ys) = ap (λ (zs : List Suspect). y ∷ zs) (with_name_noted-nothing s ys)

pub note-live : (s : State) (x : Named) (ys : List Suspect) → are_live s (map (note_of s x) ys) ≡ are_live s ys
note-live s x [] = refl
note-live s x (y ∷ ys) = ap (λ b. is_some (process_at s y.pid) && b) (note-live s x ys)

pub with_name_noted-live : (s : State) (ns : List Named) (ys : List Suspect) → are_live s (map (with_names_noted s ns) ys) ≡ are_live s ys
with_name_noted-live s ns [] = refl
with_name_noted-live s ns (y ∷ ys) = λ i. is_some (process_at s (with_name_noted-pid s ns y i)) && with_name_noted-live s ns ys i

pub live-at : (s : State) (ys : List Suspect) (k : ℕ) (d : Suspect) → are_live s ys ≡ true → k < length ys → is_some (process_at s (get_or ys k d).pid) ≡ true
live-at s [] k d live within = absurd (omega arith)
live-at s (y ∷ ys) zero d live within = (and_parts (is_some (process_at s y.pid)) (are_live s ys) live).0
live-at s (y ∷ ys) (suc k) d live within = live-at s ys k d (and_parts (is_some (process_at s y.pid)) (are_live s ys) live).1 (omega arith)

-- ---- all names of a file

module _ (s : State) (ns : List Named) where
  -- the access noted so far, with the remaining names noted, is the access by all names
  pub record IsNotedTo (next : Option Named) (old ys : List Suspect) : Type 0 where
    pub same : map (with_names_noted s ns) old ≡ map (with_names_noted s (names_from next ns)) ys
    pub live : are_live s ys ≡ true

  pub with_name_noted-all : (old ys : List Suspect) → IsNotedTo None old ys → ys ≡ map (with_names_noted s ns) old
  with_name_noted-all old ys so = sym (so.same ∙ with_name_noted-nothing s ys)

  pub with_name_noted-first : (next : Option Named) (ys : List Suspect) → are_live s ys ≡ true → names_after None ns ≡ names_from next ns → IsNotedTo next ys ys
  with_name_noted-first next ys live rest = record { same = ap (λ (xs : List Named). map (with_names_noted s xs) ys) (sym (after-none ns) ∙ rest); live = live }

  pub with_name_noted-next : (x : Named) (next : Option Named) (old ys zs : List Suspect) → IsNotedTo (Some x) old ys → names_after (Some x) ns ≡ names_from next ns → zs ≡ map (note_of s x) ys → IsNotedTo next old zs
  with_name_noted-next x next old ys zs so rest new = record {
    same = so.same ∙ with_name_noted-more s x (names_after (Some x) ns) ys ∙ (λ i. map (with_names_noted s (rest i)) (sym new i));
    live = ap (are_live s) new ∙ note-live s x ys ∙ so.live;
  }

  pub with_name_noted-fewer : (x : Named) (next : Option Named) → names_after (Some x) ns ≡ names_from next ns → length (names_from next ns) < length (names_from (Some x) ns)
  with_name_noted-fewer x next rest = omega (arith, ap length rest)

-- the next name is one of the node
pub IsOfNode : Tree → ℕ → Option Named → Type 0
IsOfNode t n None = ⊤
IsOfNode t n (Some x) = find_entry t x.0 x.1 ≡ Some n

pub of-next : (t : Tree) (n : ℕ) (last next : Option Named) → IsNextNameOfNode t n last next → IsOfNode t n next
unfolding IsOfNode
of-next t n last None is = tt
of-next t n last (Some x) is = is.named

pub of-directory : (t : Tree) (n : ℕ) (x : Named) → IsOfNode t n (Some x) → is_directory_at t x.0 ≡ true
unfolding IsOfNode
of-directory t n x is = has_entry-directory t x.0 x.1 n is

-- ---- one index at a time

pub undone : (g : Suspect → Suspect) (all : List Suspect) (k : ℕ) (d : Suspect) → k < length all → get_or (map g (take k all) ++ drop k all) k d ≡ get_or all k d
undone g [] k d within = absurd (omega arith)
undone g (y ∷ ys) zero d within = refl
undone g (y ∷ ys) (suc k) d within = undone g ys k d (omega arith)
