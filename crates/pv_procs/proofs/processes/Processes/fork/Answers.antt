use Rattle.std.proofs.Common.{◌≡◌, ◌≢◌, ◌+◌, ◌<◌, ◌∙◌, ℕ, suc, List, [], ◌∷◌, ◌++◌, length, sym, ap, ap₂, subst, add-one, arith}
use Rattle.std.proofs.lemmas.List.{with_items_is}
use Rattle.pv_model.specs.Machine.{fork, answers}
use Rattle.pv_procs.specs.declared.slot.ProcessSlot.{ProcessSlot}
use Rattle.pv_procs.specs.declared.shared.Shared.{Shared}
use Rattle.pv_procs.specs.Children.{child_slot}
use Rattle.pv_procs.specs.Slots.{AreConsistentSlots, IsIdleFrom, process_table_of, users_at, shared_program_at}
use Rattle.pv_procs.specs.ProcessTable.{ProcessTable, state_with}
use Rattle.pv_procs.proofs.EndedSlots.{has-users}
use Rattle.pv_procs.proofs.IdlePrograms.{idle-more}
use Rattle.pv_procs.proofs.SlotLookups.{found-at, live-slot, process-at, status-at}
use Rattle.pv_procs.proofs.ForkedSlots.{preserved-new, fork-is, mine-is}
use Rattle.pv_procs.proofs.processes.Processes.fork.Goals as goal

pub live_index-k-requires-clause-ascends : goal.live_index-k-requires-clause-ascends
live_index-k-requires-clause-ascends c = rw c.deref.ensures.value c.self.invariant.0.ascending

pub live_index-k-requires-clause-there : goal.live_index-k-requires-clause-there
live_index-k-requires-clause-there c =
    let i = c.self.inside in
    rw c.deref.ensures.value (live-slot i.slots.items i.programs.items i.last c.args.self.now c.self.view_is c.args.pid c.requires)

pub invariant_of-self-2 : goal.invariant_of-self-2
invariant_of-self-2 c =
    let i = c.self.inside in
    let k = c.live_index-k.result in
    let slot = c.index.result.now in
    let other = c.take_up.new.programs in
    let preserved = c.self.invariant.0 in
    let found = rw c.deref.ensures.value at c.live_index-k.ensures in
    let at = found-at i.slots.items c.args.pid k slot found c.index.ensures in
    let lives = status-at i.slots.items i.programs.items i.last c.args.self.now c.self.view_is c.args.pid preserved.ascending k slot at c.requires in
    let new_is : c.make_child.new.slot ≡ child_slot (suc i.last) slot = c.make_child.ensures ∙ ap (λ n. child_slot n slot) (add-one i.last) in
    let program : c.make_child.new.slot.program ≡ slot.program = ap (λ (p : ProcessSlot). p.program) new_is in
    let listed = c.deref_mut.ensures.value in
    let long : length other ≡ length i.programs.items = c.take_up.auto.programs ∙ ap length listed in
    let more : users_at other slot.program ≡ users_at i.programs.items slot.program + 1 =
    ap (users_at other) (sym program) ∙ c.take_up.ensures.users ∙ ap₂ (λ (gs : List Shared) (n : ℕ). users_at gs n + 1) listed program in
    let rest : (j : ℕ) → j ≢ slot.program → users_at other j ≡ users_at i.programs.items j = λ j different. c.take_up.ensures.other_users j (λ same. different (same ∙ program)) ∙ ap (λ (gs : List Shared). users_at gs j) listed in
    let same = with_items_is i.programs other (omega (arith, long, i.programs.ok.0)) in
    let items = c.push_reserved.ensures.items ∙ ap (λ (p : ProcessSlot). i.slots.items ++ p ∷ []) new_is in
    let low : i.last < 99999 = omega (arith, preserved.last, c.if-self-eq-LAST_PROCESS.false) in (
      subst (λ (gs : List Shared). AreConsistentSlots c.push_reserved.new.self.items gs (i.last + 1)) (sym same)
          (subst (λ (n : ℕ). AreConsistentSlots c.push_reserved.new.self.items other n) (sym (add-one i.last))
          (subst (λ (ps : List ProcessSlot). AreConsistentSlots ps other (suc i.last)) (sym items) (preserved-new i.slots.items i.programs.items i.last preserved c.args.pid k slot at other long more rest low))),
      record {
        full = omega (arith, c.self.invariant.1.full, c.push_reserved.ensures.len, c.in-Some.ensures.cases, c.push_reserved.new.self.ok.0, c.pop.new.self.ok.0, i.slots.ok.0, i.spare.ok.0);
        room = omega (arith, c.self.invariant.1.room, c.push_reserved.ensures.capacity);
        spare_room = omega (arith, c.self.invariant.1.spare_room, c.in-Some.ensures.capacity);
      },
      subst (λ (gs : List Shared). IsIdleFrom gs i.most) (sym same) (idle-more i.programs.items other slot.program i.most c.self.invariant.2 rest (has-users i.slots.items i.programs.items i.last preserved c.args.pid k slot at lives)),
    )

pub returns-clause-forked : goal.returns-clause-forked
returns-clause-forked c = λ t files me is.
    let i = c.self.inside in
    let k = c.live_index-k.result in
    let slot = c.index.result.now in
    let other = c.take_up.new.programs in
    let preserved = c.self.invariant.0 in
    let found = rw c.deref.ensures.value at c.live_index-k.ensures in
    let at = found-at i.slots.items c.args.pid k slot found c.index.ensures in
    let new_is : c.make_child.new.slot ≡ child_slot (suc i.last) slot = c.make_child.ensures ∙ ap (λ n. child_slot n slot) (add-one i.last) in
    let program : c.make_child.new.slot.program ≡ slot.program = ap (λ (p : ProcessSlot). p.program) new_is in
    let listed = c.deref_mut.ensures.value in
    let long : length other ≡ length i.programs.items = c.take_up.auto.programs ∙ ap length listed in
    let more : users_at other slot.program ≡ users_at i.programs.items slot.program + 1 =
    ap (users_at other) (sym program) ∙ c.take_up.ensures.users ∙ ap₂ (λ (gs : List Shared) (n : ℕ). users_at gs n + 1) listed program in
    let rest : (j : ℕ) → j ≢ slot.program → users_at other j ≡ users_at i.programs.items j = λ j different. c.take_up.ensures.other_users j (λ same. different (same ∙ program)) ∙ ap (λ (gs : List Shared). users_at gs j) listed in
    let same = with_items_is i.programs other (omega (arith, long, i.programs.ok.0)) in
    let items = c.push_reserved.ensures.items ∙ ap (λ (p : ProcessSlot). i.slots.items ++ p ∷ []) new_is in
    let low : i.last < 99999 = omega (arith, preserved.last, c.if-self-eq-LAST_PROCESS.false) in
    let programs : (j : ℕ) → shared_program_at other j ≡ shared_program_at i.programs.items j = λ j. c.take_up.ensures.programs j ∙ ap (λ (gs : List Shared). shared_program_at gs j) listed in
    let process = process-at i.slots.items i.programs.items i.last c.args.self.now c.self.view_is c.args.pid preserved.ascending k slot at c.requires in
    let mine = mine-is c.args.self.now c.args.pid _ me process is in
    let few : length i.slots.items < 32 = omega (arith, c.self.invariant.1.full, c.in-Some.ensures.cases, i.spare.ok.0) in
    ap (λ (v : ProcessTable). fork (state_with t files v) c.args.pid me) (sym c.self.view_is)
    ∙ fork-is i.slots.items i.programs.items i.last preserved c.args.pid k slot at other long more rest programs t files me mine few low
    ∙ ap (λ (n : ℕ). answers (state_with t files (process_table_of (i.slots.items ++ child_slot (suc i.last) slot ∷ []) other n)) n) (sym (add-one i.last))
    ∙ ap₂ (λ (ps : List ProcessSlot) (gs : List Shared). answers (state_with t files (process_table_of ps gs (i.last + 1))) (i.last + 1)) (sym items) (sym same)
