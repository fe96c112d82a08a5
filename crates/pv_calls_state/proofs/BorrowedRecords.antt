-- The record of a process, after a part of it was borrowed and possibly changed.
use Rattle.std.proofs.Common.{◌≡◌, ℕ, true, cond, List, [], ◌∷◌, Option, None, Some, Result, Ok, Err, refl, ap, ap₂, sym, ◌∙◌}
use Rattle.std.specs.Prelude.{option_map, IsSome, IfOk, OnOk}
use Rattle.std.specs.FinMap.Entries.{by_order, find, put, is_sorted, below_all}
use Rattle.std.specs.Ordering.{nat_cmp, is_eq}
use Rattle.std.specs.declared.cmp.Ordering.{Ordering}
use Rattle.std.specs.declared.cmp.Ordering.TheVariants.{Less, Equal, Greater}
use Rattle.std.proofs.lemmas.Bool.{and_parts}
use Rattle.pv_laws_states.proofs.ProcessInsides.{not_before}
use Rattle.pv_model.specs.Machine.{Numbered, Descriptor, Process, ProcessRecord as Found, live, ended_record, live_process}
use Rattle.pv_procs.specs.declared.record.ProcessRecord.{ProcessRecord as Owned}
use Rattle.pv_procs.specs.Parts.{record_of, with_record}
use Rattle.pv_procs.specs.ProcessTable.{ProcessTable, process_in, table_with_process, updated_table, updated_live}
use Rattle.pv_calls_state.specs.Changes.{with_descriptors}
use Rattle.pv_calls_state.proofs.UncountedChanges.{lent-is}
use Rattle.pv_calls_state.proofs.ProcessChanges.{some-process}

live-there : (o : Option Found) (me : Process) → live_process o ≡ Some me → o ≡ Some (live me)
live-there None me is = cc
live-there (Some (live p)) me is = let same : p ≡ me = cc is in ap (λ x. Some (live x)) same
live-there (Some (ended_record parent status)) me is = cc

-- putting a value where it already is changes nothing
put-again : (pid : ℕ) (r : Found) (ps : List (ℕ × Found)) → is_sorted nat_cmp ps ≡ true → find nat_cmp pid ps ≡ Some r → put nat_cmp pid r ps ≡ ps
put-again pid r [] sorted is = cc
put-again pid r (e ∷ ps) sorted is = by (nat_cmp pid e.0) refl (λ there. put-again pid r ps (and_parts (below_all nat_cmp e.0 ps) _ sorted).1 there)
  where
    by : (o : Ordering) → nat_cmp pid e.0 ≡ o → (find nat_cmp pid ps ≡ Some r → put nat_cmp pid r ps ≡ ps) → by_order o ((pid, r) ∷ e ∷ ps) ((e.0, r) ∷ ps) (e ∷ put nat_cmp pid r ps) ≡ e ∷ ps
    by Less order rest = not_before pid r e ps sorted order is
    by Equal order rest = let same : e.1 ≡ r = cc (sym (ap (λ o. cond (is_eq o) (Some e.1) (find nat_cmp pid ps)) order) ∙ is) in ap (λ x. (e.0, x) ∷ ps) (sym same)
    by Greater order rest = ap (λ es. e ∷ es) (rest (sym (ap (λ o. cond (is_eq o) (Some e.1) (find nat_cmp pid ps)) order) ∙ is))

-- an unchanged record: the processes are unchanged
pub same-owned : (ps : ProcessTable) (pid : ℕ) → is_sorted nat_cmp ps.processes ≡ true → IsSome (process_in ps pid) → (r : Owned) → option_map record_of (process_in ps pid) ≡ Some r
    → (w : Owned) → w ≡ r → updated_table ps pid (λ p. with_record p w) ≡ ps
same-owned ps pid sorted lives r lent w same =
    let found = some-process (process_in ps pid) lives in
    let me = found.0 in
    ap (updated_live ps pid (λ p. with_record p w)) found.1
    ∙ ap (λ own. table_with_process ps pid (with_record me own)) (same ∙ lent-is (process_in ps pid) me r lent found.1)
    ∙ ap (λ es. record ps { processes = es }) (put-again pid (live me) ps.processes sorted (live-there (find nat_cmp pid ps.processes) me found.1))

-- only the descriptors changed
pub other-descriptors : (ps : ProcessTable) (pid : ℕ) (r : Owned) → option_map record_of (process_in ps pid) ≡ Some r
    → (ds : Numbered Descriptor) (change : Numbered Descriptor → Numbered Descriptor) → ds ≡ change r.descriptors
    → updated_table ps pid (λ p. with_record p (record r { descriptors = ds })) ≡ updated_table ps pid (λ p. with_descriptors (change p.descriptors) p)
other-descriptors ps pid r lent ds change is = by (process_in ps pid) lent
  where
    by : (o : Option Process) → option_map record_of o ≡ Some r
        → updated_live ps pid (λ p. with_record p (record r { descriptors = ds })) o ≡ updated_live ps pid (λ p. with_descriptors (change p.descriptors) p) o
    by None lent = refl
    by (Some me) lent =
        let own : r ≡ record_of me = lent-is (Some me) me r lent refl in
        ap₂ (λ (x : Owned) es. table_with_process ps pid (with_record me (record x { descriptors = es }))) own (is ∙ ap (λ (x : Owned). change x.descriptors) own)

-- a value was put under the least free number
pub given-least : {E : Type 0} {Q : Type 0} (result : Result ℕ E) (under : ℕ → Numbered Descriptor) (new : Numbered Descriptor) {least : ℕ} → IfOk result (λ n. n ≡ least) → IfOk result (λ n. new ≡ under n)
    → (new ≡ under least → Q) → OnOk result Q
given-least (Ok n) under new number given then = then (given ∙ ap under number)
given-least (Err e) under new number given then = tt
