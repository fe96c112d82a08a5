-- The permissions that come with a step.
use Rattle.std.proofs.Common.{◌≡◌, ◌≢◌, ◌⊎◌, inl, inr, ⊎_elim, ℕ, Bool, true, false, not, ◌&&◌, ◌||◌, Option, None, Some, is_some, refl, ap, sym, ◌∙◌}
use Rattle.pv_model.specs.declared.call.Call.TheVariants.{Execve}
use Rattle.pv_model.specs.declared.outcome.Outcome.{Outcome}
use Rattle.pv_model.specs.declared.outcome.Outcome.TheVariants.{Value}
use Rattle.pv_model.specs.declared.perms.Perms.{Perms}
use Rattle.pv_model.specs.declared.judgement.Judgement.TheVariants.{Allowed}
use Rattle.pv_model.specs.Machine.{Bytes, GovernsName, covers, permission_r, permission_c, Next, calls_for, next, Promises, is_file, Program, Process, State, process_at, step, Node, Tree, node_at, is_directory_at, find_entry, parent, IsAtOrAbove, Table, permissions_at, Governs, own, from_above, judgement}
use Rattle.pv_model.specs.Closed.{by_name, by_directory}
use Rattle.pv_model.specs.Tree.{itself, above}
use Rattle.pv_laws_trees.proofs.TreeChanges.{has_entry-directory, directory_is_some}
use Rattle.pv_laws_trees.proofs.Trees.{IsOrdered, parent-entry, ordered, sound, entry-parent}
use Rattle.pv_laws_states.specs.States.{EncodesPrograms, IsValid}
use Rattle.pv_laws_states.proofs.ValidBySteps.{step-keeps_valid}
use Rattle.pv_laws_access.specs.Growth.{begins_image}
use Rattle.pv_laws_access.proofs.ProcessesAfterEnds.{valid-in_order}
use Rattle.pv_laws_access.proofs.ProgramImages.{grows-never, execve-leaves}
use Rattle.pv_laws_access.proofs.PromiseLimits.{equal-or_not}
use Rattle.pv_laws_access.proofs.NameOrigins.{IsMovedBy, names-moved}
use Rattle.pv_laws_access.proofs.Confinement.{governed, governed-directory}
use Rattle.pv_laws_access.proofs.NamingCalls.{names-given}
use Rattle.pv_laws_access.specs.Moves.{IsRenamedTo, IsGivenName, by_rename, by_link, ComesFrom, it_governed, it_was_given, one_above_was_renamed, gives_any, GivesNothing, StillGrantsNothing}

module _ (program_of : Bytes → Option Program) (encodes : EncodesPrograms program_of) (s : State) (pid : ℕ) (whole : IsValid s) (table : Table) where
  abbrev t : Tree
  t = s.tree

  abbrev t' : Tree
  t' = (step program_of s pid).after.tree

  whole' : IsValid (step program_of s pid).after
  whole' = step-keeps_valid program_of encodes s pid whole

  rank' : IsOrdered t'
  rank' = ordered t' (sound t' whole'.tree.well_formed).each_node

  -- a directory at or above another was moved, and the entry that governs the moved one governs the other
  record IsAboveMoved (d : ℕ) : Type 0 where
    directory : ℕ
    over : IsAtOrAbove t' directory d
    moved : IsMovedBy s pid directory
    up : ℕ
    word : Bytes
    given : IsGivenName program_of s pid directory up word
    is : is_directory_at t directory ≡ true
    flows : (j : ℕ) → Governs t table directory j → Governs t table d j

  record HasOne (d : ℕ) : Type 0 where
    word : Bytes
    node : ℕ
    found : find_entry t d word ≡ Some node

  -- climbing from a directory that existed before
  climbed : (d k : ℕ) → HasOne d → Governs t' table d k → Governs t table d k ⊎ IsAboveMoved d
  climbed _ _ h (own d k is) = inl (own d k is)
  climbed _ _ h (from_above d up k apart none is rest) =
      let dir : is_directory_at t d ≡ true = has_entry-directory t d h.word h.node h.found in
      let entry = parent-entry t' rank' d up apart is in
      ⊎_elim
      (λ (same : find_entry t up entry.0 ≡ Some d).
      let before : parent t d ≡ Some up = entry-parent t (sound t whole.tree.well_formed) d up entry.0 dir same in
      ⊎_elim
      (λ (g : Governs t table up k). inl (from_above d up k apart none before g))
      (λ (m : IsAboveMoved up). inr (record {
        directory = m.directory;
        over = above d up apart is m.over;
        moved = m.moved;
        up = m.up;
        word = m.word;
        given = m.given;
        is = m.is;
        flows = λ j g. from_above d up j apart none before (m.flows j g);
      }))
      (climbed up k (record { word = entry.0; node = d; found = same }) rest))
      (λ (differs : find_entry t up entry.0 ≢ Some d).
      let there = directory_is_some (node_at t d) dir in
      inr (record {
        directory = d;
        over = itself;
        moved = names-moved program_of s pid up entry.0 d whole there entry.1 differs;
        up = up;
        word = entry.0;
        given = names-given program_of encodes s pid d up entry.0 whole there entry.1 differs;
        is = dir;
        flows = λ j g. g;
      }))
      (equal-or_not (find_entry t up entry.0) (Some d))

  -- the reason why an entry governs a name
  abbrev Origin : ℕ → ℕ → Bytes → ℕ → Type 0
  Origin f d name k = (IsMovedBy s pid f × IsGivenName program_of s pid f d name) ⊎ ((find_entry t d name ≡ Some f) × (GovernsName t table d name k ⊎ ((m : IsAboveMoved d) × ((j : ℕ) → Governs t table m.directory j → GovernsName t table d name j))))

  same-name : (f d : ℕ) (name : Bytes) (k : ℕ) → find_entry t d name ≡ Some f → GovernsName t' table d name k
      → GovernsName t table d name k ⊎ ((m : IsAboveMoved d) × ((j : ℕ) → Governs t table m.directory j → GovernsName t table d name j))
  same-name f d name _ found (by_name k is) = inl (by_name k is)
  same-name f d name _ found (by_directory k none rest) =
      ⊎_elim
      (λ (g : Governs t table d k). inl (by_directory k none g))
      (λ (m : IsAboveMoved d). inr (m, λ j g. by_directory j none (m.flows j g)))
      (climbed d k (record { word = name; node = f; found = found }) rest)

  origin : (f d : ℕ) (name : Bytes) (k : ℕ) → is_some (node_at t f) ≡ true → find_entry t' d name ≡ Some f → GovernsName t' table d name k → Origin f d name k
  origin f d name k there found governs =
      ⊎_elim
      (λ (same : find_entry t d name ≡ Some f). inr (same, same-name f d name k same governs))
      (λ (differs : find_entry t d name ≢ Some f). inl (names-moved program_of s pid d name f whole there found differs, names-given program_of encodes s pid f d name whole there found differs))
      (equal-or_not (find_entry t d name) (Some f))

  -- a directory is not linked
  renamed : (e up : ℕ) (word : Bytes) → is_directory_at t e ≡ true → IsGivenName program_of s pid e up word → IsRenamedTo program_of s pid e up word
  renamed e up word dir (by_rename is) = is
  renamed e up word dir (by_link is) = let no : is_directory_at t e ≡ false = is.plain in cc

  pub permissions-come : (f d : ℕ) (name : Bytes) (k : ℕ) → is_some (node_at t f) ≡ true → find_entry t' d name ≡ Some f → GovernsName t' table d name k → ComesFrom program_of s pid f d name table k
  permissions-come f d name k there found governs =
      ⊎_elim
      (λ (m : IsMovedBy s pid f × IsGivenName program_of s pid f d name). it_was_given m.1)
      (λ (stays : (find_entry t d name ≡ Some f) × (GovernsName t table d name k ⊎ ((m : IsAboveMoved d) × ((j : ℕ) → Governs t table m.directory j → GovernsName t table d name j)))).
      ⊎_elim
      (λ (g : GovernsName t table d name k). it_governed stays.0 g)
      (λ (m : (m : IsAboveMoved d) × ((j : ℕ) → Governs t table m.directory j → GovernsName t table d name j)).
      one_above_was_renamed m.0.directory m.0.up m.0.word stays.0 m.0.over (renamed m.0.directory m.0.up m.0.word m.0.is m.0.given))
      stays.1)
      (origin f d name k there found governs)

-- ---- permissions

any-r : (r w x c : Bool) → ((((r || not true) && (w || not false)) && (x || not false)) && (c || not false)) ≡ true → (r || w || x || c) ≡ true
any-r true w x c is = refl
any-r false w x c is = cc is

any-c : (r w x c : Bool) → ((((r || not false) && (w || not false)) && (x || not false)) && (c || not true)) ≡ true → (r || w || x || c) ≡ true
any-c true w x c is = refl
any-c false true x c is = refl
any-c false false true c is = refl
any-c false false false true is = refl
any-c false false false false is = cc is

gives-r : (l : Perms) → covers l permission_r ≡ true → gives_any l ≡ true
gives-r l is = any-r l.r l.w l.x l.c is

gives-c : (l : Perms) → covers l permission_c ≡ true → gives_any l ≡ true
gives-c l is = any-c l.r l.w l.x l.c is

-- ---- the process's own step

module _ (program_of : Bytes → Option Program) (encodes : EncodesPrograms program_of) (s : State) (pid f : ℕ) (p : Process) (table : Table) (whole : IsValid s)
    (at : process_at s pid ≡ Some p) (in_force : p.table ≡ Some table) (locked : p.locked ≡ true) (file : is_file (node_at s.tree f) ≡ true) (nothing : GivesNothing s.tree table f) where
  mine : (y : Process) → process_at s pid ≡ Some y → y.table ≡ Some table
  mine y found = let both : Some y ≡ Some p = sym found ∙ at in let same : y ≡ p = cc both in ap (λ (z : Process). z.table) same ∙ in_force

  not-both : (b : Bool) → b ≡ false → b ≡ true → ⊥
  not-both true is other = cc is
  not-both false is other = cc other

  -- no place of the file is allowed
  not-moved : IsMovedBy s pid f → ⊥
  not-moved m =
      ⊎_elim
      (λ linked. at-permission permission_r gives-r linked.1)
      (λ renamed. at-permission permission_c gives-c renamed.1)
      m.moved.allowed
    where
      at-permission : (needed : Perms) → ((l : Perms) → covers l needed ≡ true → gives_any l ≡ true) → judgement s.tree m.me.table m.moved.place needed ≡ Allowed → ⊥
      at-permission needed gives allowed =
          let g = governed s whole p f file table m.moved.place needed m.moved.fine m.moved.node (ap (λ o. judgement s.tree o m.moved.place needed) (sym (mine m.me m.at)) ∙ allowed) in
          not-both (gives_any (permissions_at table g.entry)) (nothing g.directory g.name g.entry g.found g.governs) (gives (permissions_at table g.entry) g.permissions)

  -- no place of a directory above a name of the file is allowed
  not-above : (d : ℕ) (name : Bytes) (e : ℕ) → find_entry s.tree d name ≡ Some f → is_directory_at s.tree e ≡ true → ((j : ℕ) → Governs s.tree table e j → GovernsName s.tree table d name j) → IsMovedBy s pid e → ⊥
  not-above d name e found dir flows m =
      ⊎_elim
      (λ linked. at-permission permission_r gives-r linked.1)
      (λ renamed. at-permission permission_c gives-c renamed.1)
      m.moved.allowed
    where
      at-permission : (needed : Perms) → ((l : Perms) → covers l needed ≡ true → gives_any l ≡ true) → judgement s.tree m.me.table m.moved.place needed ≡ Allowed → ⊥
      at-permission needed gives allowed =
          let g = governed-directory s whole p f file table e m.moved.place needed dir m.moved.node (ap (λ o. judgement s.tree o m.moved.place needed) (sym (mine m.me m.at)) ∙ allowed) in
          not-both (gives_any (permissions_at table g.0)) (nothing d name g.0 found (flows g.0 g.1)) (gives (permissions_at table g.0) g.2)

  there-file : (o : Option Node) → is_file o ≡ true → is_some o ≡ true
  there-file None is = cc is
  there-file (Some node) is = refl

  nothing-following : GivesNothing (step program_of s pid).after.tree table f
  nothing-following d name k found governs =
      ⊎_elim
      (λ (m : IsMovedBy s pid f × IsGivenName program_of s pid f d name). absurd (not-moved m.0))
      (λ (stays : (find_entry s.tree d name ≡ Some f) × (GovernsName s.tree table d name k ⊎ ((m : IsAboveMoved program_of encodes s pid whole table d) × ((j : ℕ) → Governs s.tree table m.directory j → GovernsName s.tree table d name j)))).
      ⊎_elim
      (λ (g : GovernsName s.tree table d name k). nothing d name k stays.0 g)
      (λ (m : (m : IsAboveMoved program_of encodes s pid whole table d) × ((j : ℕ) → Governs s.tree table m.directory j → GovernsName s.tree table d name j)).
      absurd (not-above d name m.0.directory stays.0 m.0.is m.1 m.0.moved))
      stays.1)
      (origin program_of encodes s pid whole table f d name k (there-file (node_at s.tree f) file) found governs)

  -- the table stays
  table-stays : (q : Process) → process_at (step program_of s pid).after pid ≡ Some q → begins_image (next p) (step program_of s pid).outcome ≡ false ⊎ (is_some p.execpromises ≡ true) → q.table ≡ Some table
  table-stays q there how = by (begins_image (next p) (step program_of s pid).outcome) refl
    where
      executed : (path : Bytes) (n : ℕ) → next p ≡ calls_for (Execve path) → (step program_of s pid).outcome ≡ Value n → (o : Option Promises) → p.execpromises ≡ o → is_some o ≡ true → q.table ≡ Some table
      executed path n is reported None none set = cc set
      executed path n is reported (Some preserved) some set =
          let left = execve-leaves program_of s pid n p path at is reported in
          let both : Some left.1.0 ≡ Some q = sym left.1.1 ∙ there in
          let same : left.1.0 ≡ q = cc both in
          ap (λ (z : Process). z.table) (sym same) ∙ (left.1.2.stays preserved some).0 ∙ in_force

      begun : (n : Next) → next p ≡ n → (o : Outcome) → (step program_of s pid).outcome ≡ o → begins_image n o ≡ true → is_some p.execpromises ≡ true → q.table ≡ Some table
      begun (calls_for (Execve path)) is (Value n) reported begins set = executed path n is reported p.execpromises refl set
      begun n is o reported begins set = cc begins

      by : (b : Bool) → begins_image (next p) (step program_of s pid).outcome ≡ b → q.table ≡ Some table
      by false quiet = (grows-never program_of s pid p q (valid-in_order s whole) at there quiet).closed locked ∙ in_force
      by true begins = ⊎_elim (λ quiet. absurd (not-both (begins_image (next p) (step program_of s pid).outcome) quiet begins)) (λ set. begun (next p) refl (step program_of s pid).outcome refl begins set) how

  pub left-without : (q : Process) → process_at (step program_of s pid).after pid ≡ Some q → begins_image (next p) (step program_of s pid).outcome ≡ false ⊎ (is_some p.execpromises ≡ true) → StillGrantsNothing table f (step program_of s pid).after q
  left-without q there how = record { in_force = table-stays q there how; nothing = nothing-following }
