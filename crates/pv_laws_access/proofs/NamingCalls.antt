-- The calls that give a node a new name.
use Rattle.std.proofs.Common.{◌≡◌, ◌≢◌, ⊎_elim, ℕ, ◌<◌, pos, negsuc, true, false, not, ◌&&◌, ◌||◌, if◌then◌else◌, List, [], ◌∷◌, Option, None, Some, is_some, refl, ap, sym, subst, ◌∙◌, arith}
use Rattle.std.specs.List.{cons_option}
use Rattle.std.specs.Prelude.{Contains, filter_map}
use Rattle.std.proofs.lemmas.Bool.{and_parts}
use Rattle.std.proofs.lemmas.List.Elements.{Contains-push_cases}
use Rattle.pv_model.specs.declared.call.Call.{Call}
use Rattle.pv_model.specs.declared.call.Call.TheVariants as TheCall
use Rattle.pv_model.specs.declared.errno.Errno.TheVariants.{EPERM, ENOENT, EBUSY, EEXIST, ENOTDIR, EISDIR, EINVAL, ENOTEMPTY}
use Rattle.pv_model.specs.declared.follow.Follow.TheVariants.{Last, Keep}
use Rattle.pv_model.specs.declared.outcome.Outcome.TheVariants.{Value}
use Rattle.pv_model.specs.declared.place.Place.{Place}
use Rattle.pv_model.specs.declared.promise.Promise.{Promise}
use Rattle.pv_model.specs.Machine.{Answered, answer, answer_by_attempt, at_next_line, update, effect, Attempt, done, refused, ◌>>=◌, ◌>>◌, refuse_if, Bytes, is_empty, same_node, contains_directory, is_directory_there, entries_there, ends_in_dot, link, move_entry, rename, with_result, Effect, returns, returns_bytes, ends, waits, answers, judge_for, walk_from, node_of, name_of, end_of, errno_number, collect, needs, permission_r, permission_c, calls_for, next, missing_promise, Program, Process, State, process_at, with_tree, Stepped, step, step_by, place_found, places, Tree, node_at, is_directory_at, find_entry, with_entry, without_entry, Walk, walks_of, rename_walk}
use Rattle.pv_model.specs.Walks.{linked_walk, new_link_walk}
use Rattle.pv_laws_trees.proofs.TreeChanges.{with_entry-cases, without_entry-was}
use Rattle.pv_laws_states.specs.States.{is_text, is_call, EncodesPrograms, IsTree, IsValid}
use Rattle.pv_laws_states.proofs.AttemptValues.{Leads, leads-then, leads-refuse_if, leads-demand, leads-room}
use Rattle.pv_laws_states.proofs.ValidBySteps.{IsGoodNext, good-effect, good-next}
use Rattle.pv_laws_states.proofs.ValidByTree.{FineName, fine-place, named-place}
use Rattle.pv_laws_states.proofs.CallOutcomes.{at_call, by_answer}
use Rattle.pv_laws_states.proofs.Processes.{process_at-same, tree-update}
use Rattle.pv_laws_states.proofs.ValidReplies.{IsEffect, valid-at_call}
use Rattle.pv_laws_states.proofs.CallRemainders
use Rattle.pv_laws_states.proofs.ChangedStates.{IsFinePlace}
use Rattle.pv_laws_access.proofs.ChangedTrees.{entry-collect}
use Rattle.pv_laws_access.proofs.CallEffects.{leads-judged}
use Rattle.pv_laws_access.proofs.ProcessesAfterEnds.{step-is}
use Rattle.pv_laws_access.proofs.JustifiedChanges.{entries-edited, between-directory}
use Rattle.pv_laws_access.proofs.NameOrigins.{IsMovedBy, names-moved}
use Rattle.pv_laws_access.specs.Moves.{LeadsToAllowed, IsGivenName, by_rename, by_link}

-- ---- calls with at most one walk

abbrev IsAtMostOne : List Walk → Type 0
IsAtMostOne [] = Unit {0}
IsAtMostOne (w ∷ []) = Unit {0}
IsAtMostOne (w ∷ v ∷ ws) = ⊥

nowhere : (place : Place) → Contains [] place → ⊥
nowhere place has = none has.0 has.1
  where
    none : (k : ℕ) → k < 0 → ⊥
    none k low = omega arith

only : (found place : Place) → Contains (found ∷ []) place → found ≡ place
only found place has = ⊎_elim (λ none. absurd (nowhere place none)) (λ same. same) (Contains-push_cases [] found place has)

same-place : (g : Walk → Option Place) (ws : List Walk) → IsAtMostOne ws → (one other : Place) → Contains (filter_map g ws) one → Contains (filter_map g ws) other → one ≡ other
same-place g [] few one other a b = absurd (nowhere one a)
same-place g (w ∷ []) few one other a b = by (g w) refl
  where
    by : (o : Option Place) → g w ≡ o → one ≡ other
    by None is = absurd (nowhere one (subst (λ o. Contains (cons_option o []) one) is a))
    by (Some found) is = sym (only found one (subst (λ o. Contains (cons_option o []) one) is a)) ∙ only found other (subst (λ o. Contains (cons_option o []) other) is b)
same-place g (w ∷ v ∷ ws) few one other a b = absurd few

-- after a call with at most one walk, a changed entry does not name an existing node
module _ (program_of : Bytes → Option Program) (s : State) (pid n d : ℕ) (name : Bytes) (whole : IsValid s) (there : is_some (node_at s.tree n) ≡ true)
    (has : find_entry (step program_of s pid).after.tree d name ≡ Some n) (new : find_entry s.tree d name ≢ Some n) where
  not-alone : (m : IsMovedBy s pid n) → IsAtMostOne (walks_of m.call) → ⊥
  not-alone m few =
      let e = entries-edited program_of s pid d name whole (λ same. new (sym same ∙ has)) in
      let mine : ◌≡◌ {A = Option Process} (Some e.me) (Some m.me) = sym e.at ∙ m.at in
      let me : e.me ≡ m.me = cc mine in
      let asked : calls_for e.call ≡ calls_for m.call = sym e.next_is ∙ ap next me ∙ m.next_is in
      let call : e.call ≡ m.call = cc asked in
      let among : Contains (places s m.me m.call) e.edited.place = subst (λ (p : Process). Contains (places s p m.call) e.edited.place) me (subst (λ (c : Call). Contains (places s e.me c) e.edited.place) call e.edited.allowed.0) in
      let same : e.edited.place ≡ m.moved.place = same-place (λ w. place_found (end_of s m.me w)) (walks_of m.call) few e.edited.place m.moved.place among (allowed-place m) in
      let fine = named-place s.tree e.edited.place (d, name) e.edited.fine e.edited.named in
      new (fine.found ∙ ap node_of same ∙ m.moved.node)
    where
      allowed-place : (m : IsMovedBy s pid n) → Contains (places s m.me m.call) m.moved.place
      allowed-place m = ⊎_elim (λ linked. linked.0) (λ renamed. renamed.0) m.moved.allowed

-- ---- rename and link

module _ (x : State) (me : Process) (n d : ℕ) (name : Bytes) where
  record Given (first second : Walk) : Type 0 where
    from : Place
    into : Place
    leads_from : LeadsToAllowed x me first from
    leads_into : LeadsToAllowed x me second into
    node : node_of from ≡ Some n
    named : name_of into ≡ Some (d, name)

  abbrev Gives : Type 0 → Effect → Type 0
  Gives G (after, r) = (r ≡ returns 0) × (find_entry after.tree d name ≡ Some n → G)

  abbrev Linked : Bytes → Bytes → Type 0
  Linked path to = Given (linked_walk path) (new_link_walk to) × (is_directory_at x.tree n ≡ false)

  abbrev Renamed : Bytes → Bytes → Type 0
  Renamed path to = Given (rename_walk path) (rename_walk to)

module _ (x : State) (pid : ℕ) (me : Process) (whole : IsValid x) (at : process_at x pid ≡ Some me) (n d : ℕ) (name : Bytes) (new : find_entry x.tree d name ≢ Some n) where
  named-so : (p : ℕ × Bytes) → (d ≡ p.0) → (name ≡ p.1) → ◌≡◌ {A = Option (ℕ × Bytes)} (Some p) (Some (d, name))
  named-so p here same = λ i. Some (sym here i, sym same i)

  fine-name : (place : Place) (p : ℕ × Bytes) → IsFinePlace x.tree place → name_of place ≡ Some p → FineName x.tree p (node_of place)
  fine-name place p fine named = named-place x.tree place p fine named

  performed-link : (path to : Bytes) → is_text path ≡ true → is_text to ≡ true → Leads (Gives x me n d name (Linked x me n d name path to)) (link x pid me path to)
  performed-link path to text_path text_to =
      let D : Effect → Type 0 = Gives x me n d name (Linked x me n d name path to) in
      leads-judged D x me me.directory Last path permission_r (CallRemainders.link_1 x pid me to) (λ old_place old_found old_allowed.
      leads-judged D x me me.directory Keep to permission_c (CallRemainders.link_2 x pid me old_place) (λ new_place new_found allowed.
      leads-demand D ENOENT (node_of old_place) (CallRemainders.link_3 x pid me new_place) (λ m is.
      leads-refuse_if D EPERM (is_directory_at x.tree m) (CallRemainders.link_4 x pid me new_place m) (λ plain.
      leads-then D (refuse_if EEXIST (is_some (node_of new_place))) (CallRemainders.link_5 x pid me new_place m) (
      leads-demand D EEXIST (name_of new_place) (CallRemainders.link_6 x pid me m) (λ p named.
      leads-room D (with_tree x (with_entry x.tree p.0 p.1 m)) (λ after. answers after 0) (λ short fit. (
        refl,
        λ found.
            let fine = fine-name new_place p (fine-place x pid me whole at Keep to new_place text_to new_found) named in
            ⊎_elim
            (λ (here : (d ≡ p.0) × (name ≡ p.1) × (n ≡ m)). (
              record {
                from = old_place;
                into = new_place;
                leads_from = (old_found, old_allowed);
                leads_into = (new_found, allowed);
                node = is ∙ ap Some (sym here.2);
                named = named ∙ named-so p here.0 here.1;
              },
              ap (is_directory_at x.tree) here.2 ∙ plain,
            ))
            (λ was. absurd (new was.1))
            (with_entry-cases x.tree p.0 p.1 fine.directory m d name n found),
      ))))))))

  performed-move : (path to : Bytes) (old_place new_place : Place) (m : ℕ) (p q : ℕ × Bytes) (there : Option ℕ) → LeadsToAllowed x me (rename_walk path) old_place → LeadsToAllowed x me (rename_walk to) new_place
      → node_of old_place ≡ Some m → name_of new_place ≡ Some q → is_directory_at x.tree p.0 ≡ true → is_directory_at (without_entry x.tree p.0 p.1) q.0 ≡ true
      → Leads (Gives x me n d name (Renamed x me n d name path to)) (move_entry x pid me m p.0 p.1 q.0 q.1 there)
  performed-move path to old_place new_place m p q there from into is named dir into_dir =
      let D : Effect → Type 0 = Gives x me n d name (Renamed x me n d name path to) in
      leads-then D (refuse_if EINVAL (contains_directory x.tree m q.0)) (CallRemainders.move_2 x pid me m p.0 p.1 q.0 q.1 there) (
      leads-then D (refuse_if EISDIR (is_directory_there x.tree there && not (is_directory_at x.tree m))) (CallRemainders.move_3 x pid me m p.0 p.1 q.0 q.1 there) (
      leads-then D (refuse_if ENOTDIR (is_directory_at x.tree m && is_some there && not (is_directory_there x.tree there))) (CallRemainders.move_4 x pid me m p.0 p.1 q.0 q.1 there) (
      leads-then D (refuse_if ENOTEMPTY (not (is_empty (entries_there x.tree there)))) (CallRemainders.move_5 x pid me m p.0 p.1 q.0 q.1) (
      leads-room D (with_tree x (with_entry (without_entry x.tree p.0 p.1) q.0 q.1 m)) (λ after. answers after 0) (λ short fit. (
        refl,
        λ found.
            ⊎_elim
            (λ (here : (d ≡ q.0) × (name ≡ q.1) × (n ≡ m)).
            record { from = old_place; into = new_place; leads_from = from; leads_into = into; node = is ∙ ap Some (sym here.2); named = named ∙ named-so q here.0 here.1 })
            (λ was. absurd (new (without_entry-was x.tree p.0 p.1 dir d name n was.1).1))
            (with_entry-cases (without_entry x.tree p.0 p.1) q.0 q.1 into_dir m d name n found),
      ))))))

  performed-rename : (path to : Bytes) → is_call (TheCall.Rename path to) ≡ true → Leads (Gives x me n d name (Renamed x me n d name path to)) (rename x pid me path to)
  performed-rename path to texts =
      let D : Effect → Type 0 = Gives x me n d name (Renamed x me n d name path to) in
      leads-then D (refuse_if EINVAL (ends_in_dot path || ends_in_dot to)) (walk_from x me.directory Keep path >>= (λ old_place. judge_for x me old_place permission_c >> CallRemainders.rename_1 x pid me to old_place)) (
      leads-judged D x me me.directory Keep path permission_c (CallRemainders.rename_1 x pid me to) (λ old_place old_found old_allowed.
      leads-judged D x me me.directory Keep to permission_c (CallRemainders.rename_2 x pid me old_place) (λ new_place new_found new_allowed.
      leads-demand D ENOENT (node_of old_place) (CallRemainders.rename_3 x pid me old_place new_place) (λ m is.
      leads-demand D EBUSY (name_of old_place) (CallRemainders.rename_4 x pid me new_place m) (λ p old_named.
      leads-demand D EBUSY (name_of new_place) (CallRemainders.rename_5 x pid me new_place m p) (λ q new_named.
      let both = and_parts (is_text path) (is_text to) texts in
      let dir = (fine-name old_place p (fine-place x pid me whole at Keep path old_place both.0 old_found) old_named).directory in
      let into = (fine-name new_place q (fine-place x pid me whole at Keep to new_place both.1 new_found) new_named).directory in
      let into_dir = between-directory x pid me (TheCall.Rename path to) whole at texts p dir q.0 into in
      elim (same_node (node_of new_place) m) as (λ b. Leads D (if b then answers x 0 else move_entry x pid me m p.0 p.1 q.0 q.1 (node_of new_place))) [
        | true ↦ (refl, λ found. absurd (new found))
        | false ↦ performed-move path to old_place new_place m p q (node_of new_place) (old_found, old_allowed) (new_found, new_allowed) is new_named dir into_dir
      ]))))))

-- ---- answers

module _ (program_of : Bytes → Option Program) (encodes : EncodesPrograms program_of) (s : State) (pid : ℕ) (me : Process) (whole : IsValid s) (at : process_at s pid ≡ Some me)
    (call : Call) (comes : next me ≡ calls_for call) (n d : ℕ) (name : Bytes) (new : find_entry s.tree d name ≢ Some n) where
  abbrev x : State
  x = at_call s pid me

  abbrev now : Process
  now = at_next_line me

  whole_x : IsValid x
  whole_x = valid-at_call s pid me whole at

  at_x : process_at x pid ≡ Some now
  at_x = process_at-same s pid now

  good-call : is_call call ≡ true
  good-call = subst (IsGoodNext me) comes (good-next me (whole.processes.running pid me at))

  abbrev Says : Type 0 → Answered → Type 0
  Says G a = find_entry a.after.tree d name ≡ Some n → (a.outcome ≡ Value 0) × G

  reported-collect : (after : State) (reported : Process → Process) → IsTree after.tree → find_entry (collect (update after pid reported)).tree d name ≡ find_entry after.tree d name
  reported-collect after reported tree =
      entry-collect (update after pid reported) (subst IsTree (sym (tree-update after pid reported)) tree) d name ∙ ap (λ (u : Tree). find_entry u d name) (tree-update after pid reported)

  said : (G : Type 0) (a : Attempt Effect) → Leads (IsEffect x) a → Leads (Gives x now n d name G) a → Says G (answer_by_attempt s x pid now a)
  said G (done walks (after, returns m)) good gives found =
      let zero : m ≡ 0 = cc (gives.0) in
      (ap Value zero, gives.1 (sym (reported-collect after (λ p. with_result p (pos m) 0) good.0.solid.tree) ∙ found))
  said G (done walks (after, returns_bytes m bytes)) good gives found = cc (gives.0)
  said G (done walks (after, ends status)) good gives found = cc (gives.0)
  said G (done walks (after, waits)) good gives found = cc (gives.0)
  said G (refused walks e c) good gives found = absurd (new (sym (ap (λ (u : Tree). find_entry u d name) (tree-update x pid (λ p. with_result p (negsuc 0) (errno_number e)))) ∙ found))

  answered : (G : Type 0) → missing_promise me.promises (needs call) ≡ None
      → Leads (Gives x now n d name G) (effect program_of x pid now call) → Says G (answer program_of s pid call)
  answered G held gives =
      by_answer (Says G) program_of s pid call
      (λ gone. let none : None ≡ Some me = sym gone ∙ at in cc none)
      (λ y found missing.
      let both : Some y ≡ Some me = sym found ∙ at in
      let same : y ≡ me = cc both in
      subst (λ (z : Process). Says G (answer_by_attempt s (at_call s pid z) pid (at_next_line z) (effect program_of (at_call s pid z) pid (at_next_line z) call))) (sym same)
      (said G (effect program_of x pid now call) (good-effect program_of encodes x pid now call whole_x at_x good-call) gives))
      (λ y a found missing lenient. absurd (not-missing y a found missing))
      (λ y a found missing strict. absurd (not-missing y a found missing))
    where
      not-missing : (y : Process) (a : Promise) → process_at s pid ≡ Some y → missing_promise y.promises (needs call) ≡ Some a → ⊥
      not-missing y a found missing =
          let both : Some y ≡ Some me = sym found ∙ at in
          let same : y ≡ me = cc both in
          let bad : Some a ≡ None = sym missing ∙ ap (λ (z : Process). missing_promise z.promises (needs call)) same ∙ held in cc bad

-- ---- steps

module _ (program_of : Bytes → Option Program) (encodes : EncodesPrograms program_of) (s : State) (pid n d : ℕ) (name : Bytes) (whole : IsValid s) (there : is_some (node_at s.tree n) ≡ true)
    (has : find_entry (step program_of s pid).after.tree d name ≡ Some n) (new : find_entry s.tree d name ≢ Some n) where
  abbrev G : Type 0
  G = IsGivenName program_of s pid n d name

  module _ (m : IsMovedBy s pid n) (call : Call) (is : m.call ≡ call) where
    comes : next m.me ≡ calls_for call
    comes = m.next_is ∙ ap calls_for is

    held : missing_promise m.me.promises (needs call) ≡ None
    held = ap (λ (c : Call). missing_promise m.me.promises (needs c)) (sym is) ∙ m.held

    same-step : step program_of s pid ≡ step_by program_of s pid m.me (calls_for call)
    same-step = step-is program_of s pid m.me m.at ∙ ap (step_by program_of s pid m.me) comes

    found : find_entry (answer program_of s pid call).after.tree d name ≡ Some n
    found = ap (λ (w : Stepped). find_entry w.after.tree d name) (sym same-step) ∙ has

    good : is_call call ≡ true
    good = good-call program_of encodes s pid m.me whole m.at call comes n d name new

  alone : (m : IsMovedBy s pid n) (call : Call) → m.call ≡ call → IsAtMostOne (walks_of call) → G
  alone m call is few = absurd (not-alone program_of s pid n d name whole there has new m (subst (λ (c : Call). IsAtMostOne (walks_of c)) (sym is) few))

  by-call : (m : IsMovedBy s pid n) (call : Call) → m.call ≡ call → G
  unfolding effect
  by-call m (TheCall.Link path to) is =
      let C : Call = TheCall.Link path to in
      let x : State = at_call s pid m.me in
      let now : Process = at_next_line m.me in
      let whole_x = valid-at_call s pid m.me whole m.at in
      let at_x = process_at-same s pid now in
      let texts = and_parts (is_text path) (is_text to) (good m C is) in
      let by =
      answered program_of encodes s pid m.me whole m.at C (comes m C is) n d name new (Linked x now n d name path to) (held m C is)
      (performed-link x pid now whole_x at_x n d name new path to texts.0 texts.1) (found m C is) in
      by_link (record {
        me = m.me;
        path = path;
        new = to;
        from = by.1.0.from;
        into = by.1.0.into;
        made = record { at = m.at; next_is = comes m C is; held = held m C is };
        leads_from = by.1.0.leads_from;
        leads_into = by.1.0.leads_into;
        node = by.1.0.node;
        plain = by.1.1;
        named = by.1.0.named;
        succeeds = ap (λ (w : Stepped). w.outcome) (same-step m C is) ∙ by.0;
      })
  by-call m (TheCall.Rename path to) is =
      let C : Call = TheCall.Rename path to in
      let x : State = at_call s pid m.me in
      let now : Process = at_next_line m.me in
      let whole_x = valid-at_call s pid m.me whole m.at in
      let at_x = process_at-same s pid now in
      let by =
      answered program_of encodes s pid m.me whole m.at C (comes m C is) n d name new (Renamed x now n d name path to) (held m C is)
      (performed-rename x pid now whole_x at_x n d name new path to (good m C is)) (found m C is) in
      by_rename (record {
        me = m.me;
        path = path;
        new = to;
        from = by.1.from;
        into = by.1.into;
        made = record { at = m.at; next_is = comes m C is; held = held m C is };
        leads_from = by.1.leads_from;
        leads_into = by.1.leads_into;
        node = by.1.node;
        named = by.1.named;
        succeeds = ap (λ (w : Stepped). w.outcome) (same-step m C is) ∙ by.0;
      })
  by-call m (TheCall.Unveil None None) is = alone m (TheCall.Unveil None None) is tt
  by-call m (TheCall.Unveil None (Some text)) is = alone m (TheCall.Unveil None (Some text)) is tt
  by-call m (TheCall.Unveil (Some path) None) is = alone m (TheCall.Unveil (Some path) None) is tt
  by-call m (TheCall.Unveil (Some path) (Some text)) is = alone m (TheCall.Unveil (Some path) (Some text)) is tt
  by-call m call is = alone m call is tt

  pub names-given : G
  names-given = let m = names-moved program_of s pid d name n whole there has new in by-call m m.call refl
