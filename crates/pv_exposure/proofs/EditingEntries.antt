-- The least entry that lets a process edit a file, name by name.
use Rattle.std.proofs.Common.{◌≡◌, ◌∙◌, sym, ap, ℕ, Bool, List, [], ◌∷◌, map, Option, None, Some, refl}
use Rattle.pv_audit.proofs.NameAccess.{Named}
use Rattle.pv_audit.proofs.LeastNumbers.{lesser-assoc, lesser-none, least-cons}
use Rattle.pv_audit.specs.Findings.{entries_passing, governing, least, lesser, passing}
use Rattle.pv_model.specs.Machine.{Table, Tree}
use Rattle.pv_model_questions.specs.Fixed.{lets_edit}
use Rattle.pv_tree.specs.NodeNames.{names_after, names_from}
use Rattle.pv_exposure.specs.Editing.{least_giving}

-- without a last name, all names follow
after-none : (ns : List Named) → names_after None ns ≡ ns
after-none [] = refl
after-none (x ∷ ns) = ap (λ (ys : List Named). x ∷ ys) (after-none ns)

module _ (t : Tree) (table : Table) (in_place : Bool) where
  giving-next : (x : Named) (ns : List Named) → least_giving t table in_place (x ∷ ns) ≡ lesser (passing (lets_edit in_place) table (governing t table x)) (least_giving t table in_place ns)
  giving-next x ns = least-cons (lets_edit in_place) table (governing t table x) (map (governing t table) ns)

  module _ (ns : List Named) where
    -- the least entry so far, and those of the remaining names, are that of all names
    pub record IsGiving (next : Option Named) (now : Option ℕ) : Type 0 where
      pub same : lesser now (least_giving t table in_place (names_from next ns)) ≡ least_giving t table in_place ns

    pub giving-first : (next : Option Named) → names_after None ns ≡ names_from next ns → IsGiving next None
    giving-first next rest = record { same = ap (least_giving t table in_place) (sym rest ∙ after-none ns) }

    pub giving-more : (x : Named) (next : Option Named) (now new entry : Option ℕ) → IsGiving (Some x) now → names_after (Some x) ns ≡ names_from next ns
        → entry ≡ passing (lets_edit in_place) table (governing t table x) → new ≡ lesser now entry → IsGiving next new
    giving-more x next now new entry so rest e is = record {
      same =
          ap (λ (o : Option ℕ). lesser o (least_giving t table in_place (names_from next ns))) (is ∙ ap (lesser now) e)
          ∙ lesser-assoc now (passing (lets_edit in_place) table (governing t table x)) (least_giving t table in_place (names_from next ns))
          ∙ ap (lesser now) (ap (λ (ms : List Named). lesser (passing (lets_edit in_place) table (governing t table x)) (least_giving t table in_place ms)) (sym rest) ∙ sym (giving-next x (names_after (Some x) ns)))
          ∙ so.same;
    }

    pub giving-all : (now : Option ℕ) → IsGiving None now → now ≡ least_giving t table in_place ns
    giving-all now so = sym (lesser-none now) ∙ so.same
