-- The reasons of findings: there is one if and only if there is a finding.
use Rattle.std.proofs.Common.{◌≡◌, ◌↔◌, ◌∙◌, sym, ap, subst, refl, ℕ, Bool, true, false, ◌==◌, if◌then◌else◌, List, [], ◌∷◌, ◌++◌, codes, Contains, Option, None, Some, option_map, inl, inr, arith}
use Rattle.std.specs.List.{list_any}
use Rattle.std.proofs.lemmas.Bool.Decides.{nat_tests}
use Rattle.pv_model.specs.declared.verdict.Why.{Why}
use Rattle.pv_model.specs.Machine.{Located, first_of, Bytes, is_empty, live_processes, leaks, Program, Process, State, process_at, step}
use Rattle.pv_model.specs.Closed.{IsClosed}
use Rattle.pv_model.specs.Sealed.{first_leak, leak_or, why_text}
use Rattle.pv_model_questions.specs.declared.finding_kind.FindingKind.{FindingKind}
use Rattle.pv_model_questions.specs.declared.finding_kind.FindingKind.TheVariants.{Leak, Peer, Edit, Read}
use Rattle.pv_model_questions.specs.declared.edit_reason.EditReason.{EditReason}
use Rattle.pv_model_questions.specs.Exposure.{peer_text, first_leak_of, read_observer, peer_reason, read_reason}
use Rattle.pv_model_questions.specs.Fixed.{edits, edit_text}
use Rattle.pv_laws_states.specs.States.{IsValid}
use Rattle.pv_laws_access.specs.OwnRuns.{IsFixed}
use Rattle.pv_laws_access.proofs.Verdicts.{leaks-closed}
use Rattle.pv_laws_answers.proofs.CompleteSearches.{among-contains}
use Rattle.pv_laws_answers.proofs.Lists.{Among, among-any, any-among}
use Rattle.pv_laws_answers.proofs.LiveProcesses.{live-listed, listed-live}
use Rattle.pv_laws_classes.proofs.ReducedProcesses.{themselves}
use Rattle.pv_laws_schedules.specs.Exposure.{IsOpenToAnother, AreAllClosed, ReadsNext, IsFinding, HasNone, IsExactReason, ReasonsAreExact}
use Rattle.pv_laws_schedules.proofs.FixedProcesses.{edits-fixed}

-- ---- the first of a list

module _ {X : Type 0} (text : X → Bytes) where
  first-none : (xs : List X) → option_map text (first_of xs) ≡ None → xs ≡ []
  first-none [] none = refl
  first-none (x ∷ xs) none = cc none

  none-first : (xs : List X) → xs ≡ [] → option_map text (first_of xs) ≡ None
  none-first [] is = refl
  none-first (x ∷ xs) is = cc is

  first-some : (xs : List X) (reason : Bytes) → option_map text (first_of xs) ≡ Some reason → xs ≡ [] → ⊥
  first-some [] reason some is = cc some
  first-some (x ∷ xs) reason some is = cc is

  text-none : (o : Option X) → option_map text o ≡ None → o ≡ None
  text-none None none = refl
  text-none (Some x) none = cc none

  some-text : (o : Option X) (reason : Bytes) → option_map text o ≡ Some reason → (x : X) × (o ≡ Some x)
  some-text None reason some = cc some
  some-text (Some x) reason some = (x, refl)

pub empty-is : (ws : List Why) → is_empty ws ≡ true → ws ≡ []
empty-is [] is = refl
empty-is (w ∷ ws) is = cc is

abbrev why_words : Why → Bytes
why_words why = codes ", " ++ why_text why

abbrev edit_words : EditReason → Bytes
edit_words why = codes ", " ++ edit_text why

-- ---- the first process that is not closed

module _ (s : State) (f : ℕ) where
  leak-none : (ps : List (ℕ × Process)) → first_leak s f ps ≡ None → (x : ℕ × Process) → Among x ps → leaks s x.1 f ≡ []
  leak-none [] none x h = absurd h
  leak-none ((pid, p) ∷ ps) none x h = by (leaks s p f) refl none h (leak-none ps)
    where
      by : (ws : List Why) → leaks s p f ≡ ws → leak_or pid ws (first_leak s f ps) ≡ None → Among x ((pid, p) ∷ ps)
          → (first_leak s f ps ≡ None → (x : ℕ × Process) → Among x ps → leaks s x.1 f ≡ []) → leaks s x.1 f ≡ []
      by [] is later (inl e) rest = ap (λ (y : ℕ × Process). leaks s y.1 f) e ∙ is
      by [] is later (inr h) rest = rest later x h
      by (w ∷ ws) is later h rest = cc later

  none-leak : (ps : List (ℕ × Process)) → ((x : ℕ × Process) → Among x ps → leaks s x.1 f ≡ []) → first_leak s f ps ≡ None
  none-leak [] each = refl
  none-leak ((pid, p) ∷ ps) each = ap (λ ws. leak_or pid ws (first_leak s f ps)) (each (pid, p) (inl refl)) ∙ none-leak ps (λ x h. each x (inr h))

  some-leak : (ps : List (ℕ × Process)) (o : ℕ × Why) → first_leak s f ps ≡ Some o → (x : ℕ × Process) × Among x ps × (leaks s x.1 f ≡ [] → ⊥)
  some-leak [] o some = cc some
  some-leak ((pid, p) ∷ ps) o some = by (leaks s p f) refl some (some-leak ps o)
    where
      by : (ws : List Why) → leaks s p f ≡ ws → leak_or pid ws (first_leak s f ps) ≡ Some o
          → (first_leak s f ps ≡ Some o → (x : ℕ × Process) × Among x ps × (leaks s x.1 f ≡ [] → ⊥)) → (x : ℕ × Process) × Among x ((pid, p) ∷ ps) × (leaks s x.1 f ≡ [] → ⊥)
      by [] is later rest = let x = rest later in (x.0, inr x.1, x.2)
      by (w ∷ ws) is later rest = ((pid, p), inl refl, λ none. (let bad : w ∷ ws ≡ [] = sym is ∙ none in cc bad))

-- ---- each kind

module _ (program_of : Bytes → Option Program) (l : Located) (f : ℕ) (valid : IsValid l.found.state) (live : process_at l.found.state l.pid ≡ Some l.process) where
  abbrev u : State
  u = l.found.state

  abbrev p : Process
  p = l.process

  closed : (q : Process) → leaks u q f ≡ [] ↔ IsClosed u q f
  closed q = leaks-closed u q f valid.tree.well_formed

  fixed : edits u p f ≡ [] ↔ IsFixed u p f
  fixed = edits-fixed u p f valid.tree.well_formed

  -- ---- PEER

  abbrev peer_by : Bool → Option Bytes
  peer_by b = if b then option_map peer_text (first_leak_of u f) else None

  all-none : AreAllClosed u f → first_leak_of u f ≡ None
  all-none all = none-leak u f (live_processes u.processes) (λ x h. (closed x.1).1 (all x.0 x.1 (listed-live u x.0 x.1 valid.processes.ascending h)))

  peer-none : peer_reason program_of l f ≡ None → IsClosed u p f → AreAllClosed u f
  peer-none none is pid q at =
      (closed q).0 (leak-none u f (live_processes u.processes)
      (text-none peer_text (first_leak_of u f) (ap (λ ws. peer_by (is_empty ws)) (sym ((closed p).1 is)) ∙ none))
      (pid, q) (live-listed u pid q at))

  none-peer : (IsClosed u p f → AreAllClosed u f) → peer_reason program_of l f ≡ None
  none-peer all = by (leaks u p f) refl
    where
      by : (ws : List Why) → leaks u p f ≡ ws → peer_by (is_empty ws) ≡ None
      by [] is = ap (option_map peer_text) (all-none (all ((closed p).0 is)))
      by (w ∷ ws) is = refl

  some-peer : (reason : Bytes) → peer_reason program_of l f ≡ Some reason → IsClosed u p f × IsOpenToAnother u f
  some-peer reason some = by (leaks u p f) refl some
    where
      by : (ws : List Why) → leaks u p f ≡ ws → peer_by (is_empty ws) ≡ Some reason → IsClosed u p f × IsOpenToAnother u f
      by [] is some' =
          let own = some-text peer_text (first_leak_of u f) reason some' in
          let x = some-leak u f (live_processes u.processes) own.0 own.1 in (
            (closed p).0 is,
            record { pid = x.0.0; process = x.0.1; live = listed-live u x.0.0 x.0.1 valid.processes.ascending x.1; open_to = λ c. x.2 ((closed x.0.1).1 c) },
          )
      by (w ∷ ws) is some' = cc some'

  -- ---- READ

  abbrev read : List ℕ
  read = read_observer u l.pid (step program_of u l.pid)

  abbrev read_by : Bool → Option Bytes
  read_by b = if b then Some [] else None

  read-none : read_reason program_of l f ≡ None → ¬ ReadsNext program_of u l.pid p f
  read-none none has =
      let is : list_any (λ n. n == f) read ≡ true = any-among (λ n. n == f) f read (themselves read f has) (grind (arith, nat_tests)) in
      let bad : Some [] ≡ None = ap read_by (sym is) ∙ none in cc bad

  any-read : list_any (λ n. n == f) read ≡ true → ReadsNext program_of u l.pid p f
  any-read is =
      let n = among-any (λ n. n == f) read is in
      subst (λ (m : ℕ). Contains read m) (grind (arith, nat_tests, n.2)) (among-contains n.0 read n.1)

  none-read : (ReadsNext program_of u l.pid p f → ⊥) → read_reason program_of l f ≡ None
  none-read never = by (list_any (λ n. n == f) read) refl
    where
      by : (b : Bool) → list_any (λ n. n == f) read ≡ b → read_by b ≡ None
      by true is = absurd (never (any-read is))
      by false is = refl

  some-read : (reason : Bytes) → read_reason program_of l f ≡ Some reason → ReadsNext program_of u l.pid p f
  some-read reason some = by (list_any (λ n. n == f) read) refl some
    where
      by : (b : Bool) → list_any (λ n. n == f) read ≡ b → read_by b ≡ Some reason → ReadsNext program_of u l.pid p f
      by true is some' = any-read is
      by false is some' = cc some'

  exact : (kind : FindingKind) → IsExactReason program_of l f kind
  exact Leak = record {
    none = (λ none. (closed p).0 (first-none why_words (leaks u p f) none), λ is. none-first why_words (leaks u p f) ((closed p).1 is));
    some = λ reason some is. first-some why_words (leaks u p f) reason some ((closed p).1 is);
  }
  exact Peer = record { none = (peer-none, none-peer); some = some-peer }
  exact Edit = record {
    none = (λ none. fixed.0 (first-none edit_words (edits u p f) none), λ is. none-first edit_words (edits u p f) (fixed.1 is));
    some = λ reason some is. first-some edit_words (edits u p f) reason some (fixed.1 is);
  }
  exact Read = record { none = (read-none, none-read); some = some-read }

-- a finding and its opposite exclude each other
pub contrary : (program_of : Bytes → Option Program) (u : State) (pid : ℕ) (p : Process) (f : ℕ) (kind : FindingKind) → HasNone program_of u pid p f kind → IsFinding program_of u pid p f kind → ⊥
contrary program_of u pid p f Leak none is = is none
contrary program_of u pid p f Peer none is = is.1.open_to (none is.0 is.1.pid is.1.process is.1.live)
contrary program_of u pid p f Edit none is = is none
contrary program_of u pid p f Read none is = none is

pub exact-reasons : ReasonsAreExact
exact-reasons program_of l f kind valid live = exact program_of l f valid live kind
