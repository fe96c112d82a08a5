use Rattle.std.proofs.Common.{◌≡◌, ◌∙◌, [], ◌∷◌, ℕ, Bool, None, Some, Option, true, false, option_map, ap, sym, rules}
use Rattle.std.proofs.lemmas.Option.{same_Some}
use Rattle.pv_audit.specs.Findings.{least}
use Rattle.pv_audit.specs.Reasons.{restrains_execve}
use Rattle.pv_model.specs.declared.promise.Promise.TheVariants.{Cpath, Exec as ExecPromise}
use Rattle.pv_model.specs.Machine.{entries_of_table, names_of, Process, Table}
use Rattle.pv_model.specs.Sealed.{has_none_of}
use Rattle.pv_model.specs.Sealed
use Rattle.pv_model_questions.specs.Fixed.{is_held_in_place, lets_edit}
use Rattle.pv_procs.specs.declared.record.ProcessRecord.{ProcessRecord}
use Rattle.pv_procs.specs.Parts.{record_of}
use Rattle.pv_exposure.specs.Editing.{least_giving}
use Rattle.pv_exposure.proofs.EditReasons.{above_unless, has-table, table-all, table-gives}
use Rattle.pv_exposure.proofs.edit.reason_of_table.Goals as goal
use Rattle.pv_exposure.proofs.edit.reason_of_table.Goals.{then-not-in_place+in_default-least_above, else-not-in_place}

pub returns-in-Some : goal.returns-in-Some
returns-in-Some c = λ p at.
    let s = c.args.parts.now in
    let f = c.args.node in
    let owned = same_Some c.args.own.now (record_of p) (sym c.requires.own ∙ ap (option_map record_of) at) in
    let has = has-table c.args.own.now.unveiled.table c.is_empty.result c.is_empty.ensures c.if-is_empty.false in
    let table : Table = has.0 in
    let its : p.table ≡ Some table = ap (λ (r : ProcessRecord). r.unveiled.table) (sym owned) ∙ has.1 in
    let was : c.is_locked.result ≡ true = search rules in
    let locked : p.locked ≡ true = ap (λ (r : ProcessRecord). r.unveiled.locked) (sym owned) ∙ sym c.is_locked.ensures ∙ was in
    let in_place : c.is_pledged_without-in_place.result ≡ is_held_in_place p =
    c.is_pledged_without-in_place.ensures ∙ ap (λ (r : ProcessRecord). has_none_of (Cpath ∷ ExecPromise ∷ []) r.pledge.promises) owned in
    let giving : c.least_giving.result ≡ least (Sealed.giving s p f (lets_edit (is_held_in_place p)) table) =
    c.least_giving.ensures ∙ (λ i. least_giving (c.tree.ensures i) (entries_of_table (has.1 i)) (in_place i) (names_of (c.tree.ensures i) f)) in
    sym (table-gives s p f table its c.in-Some.k locked (sym giving ∙ c.in-Some.is))

pub returns-in-Some-least_above : goal.returns-in-Some-least_above
returns-in-Some-least_above c = λ p at.
    let s = c.args.parts.now in
    let f = c.args.node in
    let owned = same_Some c.args.own.now (record_of p) (sym c.requires.own ∙ ap (option_map record_of) at) in
    let has = has-table c.args.own.now.unveiled.table c.is_empty.result c.is_empty.ensures c.if-is_empty.false in
    let table : Table = has.0 in
    let its : p.table ≡ Some table = ap (λ (r : ProcessRecord). r.unveiled.table) (sym owned) ∙ has.1 in
    let was : c.is_locked.result ≡ true = search rules in
    let locked : p.locked ≡ true = ap (λ (r : ProcessRecord). r.unveiled.locked) (sym owned) ∙ sym c.is_locked.ensures ∙ was in
    let in_place : c.is_pledged_without-in_place.result ≡ is_held_in_place p =
    c.is_pledged_without-in_place.ensures ∙ ap (λ (r : ProcessRecord). has_none_of (Cpath ∷ ExecPromise ∷ []) r.pledge.promises) owned in
    let giving : c.least_giving.result ≡ least (Sealed.giving s p f (lets_edit (is_held_in_place p)) table) =
    c.least_giving.ensures ∙ (λ i. least_giving (c.tree.ensures i) (entries_of_table (has.1 i)) (in_place i) (names_of (c.tree.ensures i) f)) in
    let moves : is_held_in_place p ≡ false = sym in_place ∙ (search rules) in
    let above : above_unless s p f (is_held_in_place p) table ≡ Some c.in-Some-least_above.k =
    ap (λ (b : Bool). above_unless s p f b table) moves ∙ sym (c.least_above.ensures p table at its moves) ∙ c.in-Some-least_above.is in
    sym (table-all s p f table its None (Some c.in-Some-least_above.k) (Sealed.is_held_over_exec s p f) locked (sym giving ∙ c.in_default.is) above (λ i. Sealed.is_held_over_exec s p f))

pub returns-then-is_held_over_exec : goal.returns-then-is_held_over_exec
returns-then-is_held_over_exec c = λ p at.
    let s = c.args.parts.now in
    let f = c.args.node in
    let owned = same_Some c.args.own.now (record_of p) (sym c.requires.own ∙ ap (option_map record_of) at) in
    let has = has-table c.args.own.now.unveiled.table c.is_empty.result c.is_empty.ensures c.if-is_empty.false in
    let table : Table = has.0 in
    let its : p.table ≡ Some table = ap (λ (r : ProcessRecord). r.unveiled.table) (sym owned) ∙ has.1 in
    let was : c.is_locked.result ≡ true = search rules in
    let locked : p.locked ≡ true = ap (λ (r : ProcessRecord). r.unveiled.locked) (sym owned) ∙ sym c.is_locked.ensures ∙ was in
    let in_place : c.is_pledged_without-in_place.result ≡ is_held_in_place p =
    c.is_pledged_without-in_place.ensures ∙ ap (λ (r : ProcessRecord). has_none_of (Cpath ∷ ExecPromise ∷ []) r.pledge.promises) owned in
    let giving : c.least_giving.result ≡ least (Sealed.giving s p f (lets_edit (is_held_in_place p)) table) =
    c.least_giving.ensures ∙ (λ i. least_giving (c.tree.ensures i) (entries_of_table (has.1 i)) (in_place i) (names_of (c.tree.ensures i) f)) in
    let held : Sealed.is_held_over_exec s p f ≡ true = sym (c.is_held_over_exec.ensures ∙ ap (λ (r : ProcessRecord). restrains_execve r.pledge) owned) ∙ c.if-is_held_over_exec.true in
    let above : above_unless s p f (is_held_in_place p) table ≡ None =
    elim c.if-not-in_place.branch [
      | then-not-in_place+in_default-least_above w ↦
          let moves : is_held_in_place p ≡ false = sym in_place ∙ (search rules) in
          ap (λ (b : Bool). above_unless s p f b table) moves ∙ sym (w.least_above.ensures p table at its moves) ∙ w.in_default-least_above.is
      | else-not-in_place w ↦
          let stays : is_held_in_place p ≡ true = sym in_place ∙ (search rules) in
          ap (λ (b : Bool). above_unless s p f b table) stays
    ] in
    sym (table-all s p f table its None None true locked (sym giving ∙ c.in_default.is) above held)

pub returns : goal.returns
returns c = λ p at.
    let s = c.args.parts.now in
    let f = c.args.node in
    let owned = same_Some c.args.own.now (record_of p) (sym c.requires.own ∙ ap (option_map record_of) at) in
    let has = has-table c.args.own.now.unveiled.table c.is_empty.result c.is_empty.ensures c.if-is_empty.false in
    let table : Table = has.0 in
    let its : p.table ≡ Some table = ap (λ (r : ProcessRecord). r.unveiled.table) (sym owned) ∙ has.1 in
    let was : c.is_locked.result ≡ true = search rules in
    let locked : p.locked ≡ true = ap (λ (r : ProcessRecord). r.unveiled.locked) (sym owned) ∙ sym c.is_locked.ensures ∙ was in
    let in_place : c.is_pledged_without-in_place.result ≡ is_held_in_place p =
    c.is_pledged_without-in_place.ensures ∙ ap (λ (r : ProcessRecord). has_none_of (Cpath ∷ ExecPromise ∷ []) r.pledge.promises) owned in
    let giving : c.least_giving.result ≡ least (Sealed.giving s p f (lets_edit (is_held_in_place p)) table) =
    c.least_giving.ensures ∙ (λ i. least_giving (c.tree.ensures i) (entries_of_table (has.1 i)) (in_place i) (names_of (c.tree.ensures i) f)) in
    let held : Sealed.is_held_over_exec s p f ≡ false = sym (c.is_held_over_exec.ensures ∙ ap (λ (r : ProcessRecord). restrains_execve r.pledge) owned) ∙ c.if-is_held_over_exec.false in
    let above : above_unless s p f (is_held_in_place p) table ≡ None =
    elim c.if-not-in_place.branch [
      | then-not-in_place+in_default-least_above w ↦
          let moves : is_held_in_place p ≡ false = sym in_place ∙ (search rules) in
          ap (λ (b : Bool). above_unless s p f b table) moves ∙ sym (w.least_above.ensures p table at its moves) ∙ w.in_default-least_above.is
      | else-not-in_place w ↦
          let stays : is_held_in_place p ≡ true = sym in_place ∙ (search rules) in
          ap (λ (b : Bool). above_unless s p f b table) stays
    ] in
    sym (table-all s p f table its None None false locked (sym giving ∙ c.in_default.is) above held)
