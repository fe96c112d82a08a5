-- The promises that a program needs.
use Rattle.std.proofs.Common.{◌≡◌, ◌∙◌, sym, ap, ap₂, subst, ℕ, ◌^◌, Bool, true, false, ◌&&◌, ◌||◌, ◌==◌, if◌then◌else◌, List, [], ◌∷◌, ◌++◌, map, flat_map, filter_map, Contains, Option, None, Some, is_some, inl, inr, refl}
use Rattle.std.specs.Prelude.{bit_and}
use Rattle.std.specs.List.{list_all, list_any, cons_option}
use Rattle.pv_model.specs.declared.call.Call.{Call}
use Rattle.pv_model.specs.declared.call.Call.TheVariants as TheCall
use Rattle.pv_model.specs.declared.open_flags.Mode.{Mode}
use Rattle.pv_model.specs.declared.open_flags.Mode.TheVariants.{Read, Write, ReadWrite}
use Rattle.pv_model.specs.declared.promise.Promise.{Promise}
use Rattle.pv_model.specs.declared.promise.Promise.TheVariants.{Stdio, Rpath, Wpath, Cpath, Proc, Exec, Unveil}
use Rattle.pv_model.specs.Machine.{Found, states_found, AnswerLine, first_of, Observation, groups, Request, Requests, Bytes, needs, needs_cpath, needs_of_mode, Next, inside, calls_for, next, Promises, Need, is_met, Program, Process, State, process_at, Stepped, step, step_by, run}
use Rattle.pv_model.specs.Answers.Policy.{request_program_key, same_need, needs_with, promises_in_use, with_need, need_lines, first_need}
use Rattle.pv_model.specs.Promise.{promise_bit}
use Rattle.pv_laws_trees.proofs.DirectoryEntries.{bytes_eq-same}
use Rattle.pv_laws_access.proofs.ProcessesAfterEnds.{step-is, update-live}
use Rattle.pv_laws_answers.specs.ProcessImages.{with_promises}
use Rattle.pv_laws_answers.specs.Wanted.{reports_need, HasAllNeeds}
use Rattle.pv_laws_answers.specs.Witnesses.{AreSteps}
use Rattle.pv_laws_answers.proofs.CompleteSearches.{among-contains}
use Rattle.pv_laws_answers.proofs.Lists.{Among, all-among, among-any, any-among, among-filter, filter-among}
use Rattle.pv_laws_answers.proofs.OtherRestraints.{next-call}
use Rattle.pv_laws_answers.proofs.SoundStates.{witness-more}
use Rattle.pv_laws_answers.proofs.RestraintLines.{want-reported}
use Rattle.pv_laws_classes.specs.Reduced.{reduced_found}
use Rattle.pv_laws_classes.specs.Shown.{ShownCall}
use Rattle.pv_laws_schedules.specs.Policy.{ListedNeed, listed_or, first_listed, needs_listed, lines_of_need, PromiseLinesAreOfNeeds, MeetsAll, calling_programs, CallingProgramsAreListed, PolicyPromisesAreEnough, IsRefusedWith, PolicyPromisesAreNeeded}
use Rattle.pv_laws_schedules.specs.ReducedPolicy.{reduced_calling_programs, CallingProgramsAreListedReduced, ListedPromisesAreEnoughReduced, ListedPromisesAreNeededReduced}
use Rattle.pv_laws_classes.proofs.ReducedProcesses.{themselves}
use Rattle.pv_laws_schedules.proofs.ReachedStates.{sound-at}
use Rattle.pv_laws_schedules.proofs.VisitedCalls.{requests_of, programs_of, IsRequested, requested, program-listed, of-program, IsLastCall, last-call_of}
use Rattle.pv_laws_schedules.proofs.ShownStates.{IsSeenIn, seen-full, seen-reduced, reduced-sound}

-- ---- the lines

module _ (rs : Requests) where
  abbrev listed-or_none : Option ListedNeed → List AnswerLine
  listed-or_none None = []
  listed-or_none (Some l) = lines_of_need l

  first-lines : (ns : List Need) → first_need rs ns ≡ listed-or_none (first_listed rs ns)
  first-lines [] = refl
  first-lines (need ∷ ns) = by (first_of (with_need rs need)) (first-lines ns)
    where
      by : (o : Option (Observation Request)) → first_need rs ns ≡ listed-or_none (first_listed rs ns)
          → (if is_some o then need_lines rs need o else first_need rs ns) ≡ listed-or_none (listed_or (first_listed rs ns) need o)
      by None rest = rest
      by (Some r) rest = refl

  some-lines : (o : Option ListedNeed) (ls : List ListedNeed) → flat_map lines_of_need (cons_option o ls) ≡ listed-or_none o ++ flat_map lines_of_need ls
  some-lines None ls = refl
  some-lines (Some l) ls = refl

  all-lines : (ps : List Promise) → flat_map (λ p. first_need rs (needs_with p)) ps ≡ flat_map lines_of_need (filter_map (λ p. first_listed rs (needs_with p)) ps)
  all-lines [] = refl
  all-lines (p ∷ ps) =
      ap₂ (λ (xs ys : List AnswerLine). xs ++ ys) (first-lines (needs_with p)) (all-lines ps)
      ∙ sym (some-lines (first_listed rs (needs_with p)) (filter_map (λ p. first_listed rs (needs_with p)) ps))

pub promise-lines : PromiseLinesAreOfNeeds
promise-lines rs = all-lines rs promises_in_use

-- ---- needs of calls

-- the needs that calls have
abbrev known_needs : List Need
known_needs = (Stdio ∷ []) ∷ (Rpath ∷ []) ∷ (Wpath ∷ []) ∷ (Cpath ∷ []) ∷ (Proc ∷ []) ∷ (Exec ∷ []) ∷ (Unveil ∷ []) ∷ (Rpath ∷ Wpath ∷ []) ∷ []

abbrev is_known : Need → Bool
is_known need = list_any (λ k. same_need k need) known_needs

of-mode : (mode : Mode) (create : Bool) → list_all is_known (needs_of_mode mode ++ (if create then needs_cpath else [])) ≡ true
of-mode Read true = refl
of-mode Read false = refl
of-mode Write true = refl
of-mode Write false = refl
of-mode ReadWrite true = refl
of-mode ReadWrite false = refl

needs-known : (call : Call) → list_all is_known (needs call) ≡ true
unfolding needs
needs-known (TheCall.Open path flags) = of-mode flags.mode flags.create
needs-known (TheCall.OpenAt start path flags) = of-mode flags.mode flags.create
needs-known call = refl

-- whether a need is met depends on its bits
met-bits : (set : Promises) (need : Need) → is_met (Some set) need ≡ list_any (λ k. bit_and set (2 ^ k) == 2 ^ k) (map promise_bit need)
met-bits set [] = refl
met-bits set (p ∷ need) = ap (λ b. (bit_and set (2 ^ promise_bit p) == 2 ^ promise_bit p) || b) (met-bits set need)

same-met : (set : Promises) (a b : Need) → same_need a b ≡ true → is_met (Some set) a ≡ is_met (Some set) b
same-met set a b same =
    met-bits set a ∙ ap (list_any (λ k. bit_and set (2 ^ k) == 2 ^ k)) (bytes_eq-same (map promise_bit a) (map promise_bit b) same) ∙ sym (met-bits set b)

-- ---- listed needs are enough

module _ (set : Promises) (rs : Requests) (meets : (l : ListedNeed) → Among l (needs_listed rs) → is_met (Some set) l.0 ≡ true) where
  listed-met : (p : Promise) → Among p promises_in_use → (l : ListedNeed) → first_listed rs (needs_with p) ≡ Some l → is_met (Some set) l.0 ≡ true
  listed-met p within l is = meets l (among p promises_in_use within refl)
    where
      some : (o : Option ListedNeed) (ls : List ListedNeed) → o ≡ Some l → Among l (cons_option o ls)
      some None ls is' = cc
      some (Some m) ls is' = let same : m ≡ l = cc is' in inl (sym same)

      skip : (o : Option ListedNeed) (ls : List ListedNeed) → Among l ls → Among l (cons_option o ls)
      skip None ls h = h
      skip (Some m) ls h = inr h

      among : (q : Promise) (ps : List Promise) → Among q ps → q ≡ p → Among l (filter_map (λ p. first_listed rs (needs_with p)) ps)
      among q [] h e = absurd h
      among q (r ∷ ps) (inl here) e = some (first_listed rs (needs_with r)) _ (ap (λ x. first_listed rs (needs_with x)) (sym here ∙ e) ∙ is)
      among q (r ∷ ps) (inr h) e = skip (first_listed rs (needs_with r)) _ (among q ps h e)

  -- a need that a call has is found
  has-first : (need : Need) (r : Observation Request) → Among r (with_need rs need) → (first : Observation Request) × (first_of (with_need rs need) ≡ Some first)
  has-first need r h = by (with_need rs need) h
    where
      by : (xs : Requests) → Among r xs → (first : Observation Request) × (first_of xs ≡ Some first)
      by [] none = absurd none
      by (x ∷ xs) some = (x, refl)

  single-met : (p : Promise) → Among p promises_in_use → (others : List Need) → needs_with p ≡ (p ∷ []) ∷ others → (r : Observation Request) → Among r (with_need rs (p ∷ [])) → is_met (Some set) (p ∷ []) ≡ true
  single-met p within others is r h =
      let first = has-first (p ∷ []) r h in
      listed-met p within ((p ∷ []), first.0) (ap (first_listed rs) is ∙ ap (listed_or (first_listed rs others) (p ∷ [])) first.1)

  either-met : is_met (Some set) (Rpath ∷ []) ≡ true → is_met (Some set) (Rpath ∷ Wpath ∷ []) ≡ true
  either-met is = by (is_met (Some set) (Rpath ∷ [])) (Rattle.pv_model.specs.Promises.contains set Rpath) refl is
    where
      by : (b c : Bool) → (c || false) ≡ b → b ≡ true → (c || (Rattle.pv_model.specs.Promises.contains set Wpath || false)) ≡ true
      by b true same yes' = refl
      by b false same yes' = let bad : false ≡ true = same ∙ yes' in absurd (cc)

  alternatives-met : (r : Observation Request) → Among r (with_need rs (Rpath ∷ Wpath ∷ [])) → is_met (Some set) (Rpath ∷ Wpath ∷ []) ≡ true
  alternatives-met r h = by (first_of (with_need rs (Rpath ∷ []))) refl
    where
      second : (first : Observation Request) × (first_of (with_need rs (Rpath ∷ Wpath ∷ [])) ≡ Some first)
      second = has-first (Rpath ∷ Wpath ∷ []) r h

      by : (o : Option (Observation Request)) → first_of (with_need rs (Rpath ∷ [])) ≡ o → is_met (Some set) (Rpath ∷ Wpath ∷ []) ≡ true
      by (Some first) is = either-met (listed-met Rpath (inr (inl refl)) ((Rpath ∷ []), first) (ap (listed_or (first_listed rs ((Rpath ∷ Wpath ∷ []) ∷ [])) (Rpath ∷ [])) is))
      by None none =
          listed-met Rpath (inr (inl refl)) ((Rpath ∷ Wpath ∷ []), second.0)
          (ap (listed_or (first_listed rs ((Rpath ∷ Wpath ∷ []) ∷ [])) (Rpath ∷ [])) none ∙ ap (listed_or None (Rpath ∷ Wpath ∷ [])) second.1)

  known-met : (k : Need) → Among k known_needs → (r : Observation Request) → Among r (with_need rs k) → is_met (Some set) k ≡ true
  known-met k (inl e) r h = subst (λ (n : Need). is_met (Some set) n ≡ true) (sym e) (single-met Stdio (inl refl) [] refl r (subst (λ (n : Need). Among r (with_need rs n)) e h))
  known-met k (inr (inl e)) r h =
      subst (λ (n : Need). is_met (Some set) n ≡ true) (sym e) (single-met Rpath (inr (inl refl)) ((Rpath ∷ Wpath ∷ []) ∷ []) refl r (subst (λ (n : Need). Among r (with_need rs n)) e h))
  known-met k (inr (inr (inl e))) r h = subst (λ (n : Need). is_met (Some set) n ≡ true) (sym e) (single-met Wpath (inr (inr (inl refl))) [] refl r (subst (λ (n : Need). Among r (with_need rs n)) e h))
  known-met k (inr (inr (inr (inl e)))) r h = subst (λ (n : Need). is_met (Some set) n ≡ true) (sym e) (single-met Cpath (inr (inr (inr (inl refl)))) [] refl r (subst (λ (n : Need). Among r (with_need rs n)) e h))
  known-met k (inr (inr (inr (inr (inl e))))) r h =
      subst (λ (n : Need). is_met (Some set) n ≡ true) (sym e) (single-met Proc (inr (inr (inr (inr (inl refl))))) [] refl r (subst (λ (n : Need). Among r (with_need rs n)) e h))
  known-met k (inr (inr (inr (inr (inr (inl e)))))) r h =
      subst (λ (n : Need). is_met (Some set) n ≡ true) (sym e) (single-met Exec (inr (inr (inr (inr (inr (inl refl)))))) [] refl r (subst (λ (n : Need). Among r (with_need rs n)) e h))
  known-met k (inr (inr (inr (inr (inr (inr (inl e))))))) r h =
      subst (λ (n : Need). is_met (Some set) n ≡ true) (sym e) (single-met Unveil (inr (inr (inr (inr (inr (inr (inl refl))))))) [] refl r (subst (λ (n : Need). Among r (with_need rs n)) e h))
  known-met k (inr (inr (inr (inr (inr (inr (inr (inl e)))))))) r h =
      subst (λ (n : Need). is_met (Some set) n ≡ true) (sym e) (alternatives-met r (subst (λ (n : Need). Among r (with_need rs n)) e h))
  known-met k (inr (inr (inr (inr (inr (inr (inr (inr none)))))))) r h = absurd none

  -- all needs of a call of the program are met
  call-met : (r : Observation Request) → Among r rs → list_all (λ need. is_met (Some set) need) (needs r.item.call) ≡ true
  call-met r h = all (needs r.item.call) (λ need within. one need within)
    where
      one : (need : Need) → Among need (needs r.item.call) → is_met (Some set) need ≡ true
      one need within =
          let known = among-any (λ k. same_need k need) known_needs (all-among is_known (needs r.item.call) (needs-known r.item.call) need within) in
          let has = among-filter (λ r. list_any (same_need known.0) (needs r.item.call)) r rs h (any-among (same_need known.0) need (needs r.item.call) within known.2) in
          sym (same-met set known.0 need known.2) ∙ known-met known.0 known.1 r has

      all : (ns : List Need) → ((need : Need) → Among need ns → is_met (Some set) need ≡ true) → list_all (λ need. is_met (Some set) need) ns ≡ true
      all [] each = refl
      all (n ∷ ns) each =
          ap₂ (λ a b. a && b) (each n (inl refl)) (all ns (λ m k. each m (inr k)))

-- ---- a step with other promises

module _ (program_of : Bytes → Option Program) (u : State) (pid : ℕ) (p : Process) (at : process_at u pid ≡ Some p) (set : Promises) where
  abbrev promised : Process
  promised = record p { promises = Some set }

  abbrev v : State
  v = with_promises u pid set

  at-v : process_at v pid ≡ Some promised
  at-v = update-live u pid (λ q. record q { promises = Some set }) p at

  call-reported : (call : Call) → next p ≡ calls_for call → (reports_need (step program_of v pid).lines ≡ false → HasAllNeeds (Some set) call) × (HasAllNeeds (Some set) call → reports_need (step program_of v pid).lines ≡ false)
  call-reported call is =
      let it = want-reported program_of v pid promised call at-v (next-call p (Some set) p.table call is) in (it.0, it.1)

  -- no step lacks a promise if its call does not
  quiet-if : ((call : Call) → next p ≡ calls_for call → HasAllNeeds (Some set) call) → reports_need (step program_of v pid).lines ≡ false
  quiet-if has = by (next promised) refl
    where
      by : (n : Next) → next promised ≡ n → reports_need (step program_of v pid).lines ≡ false
      by (inside q) is = ap (λ (w : Stepped). reports_need w.lines) (step-is program_of v pid promised at-v ∙ ap (step_by program_of v pid promised) is)
      by (calls_for call) is = let own = next-call promised p.promises p.table call is in (call-reported call own).1 (has call own)

-- ---- the calls of a program

module _ (program_of : Bytes → Option Program) where
  calling-listed : (fs : List Found) (u : State) (pid : ℕ) (p : Process) (call : Call) → IsSeenIn program_of fs u pid
      → process_at u pid ≡ Some p → next p ≡ calls_for call
      → (group : Observation Request × Requests) × Contains (programs_of program_of fs) group × (group.0.item.process.program ≡ p.program)
  calling-listed fs u pid p call seen live is = program-listed program_of (requested program_of fs u pid p call seen live is)

  -- the listed needs of a program are enough for a step if its call is one of those of the programs
  pub promises-suffice : (rs : Requests) (u : State) (pid : ℕ) (p : Process) → process_at u pid ≡ Some p
      → ((call : Call) → next p ≡ calls_for call → IsRequested program_of rs u pid p call)
      → (group : Observation Request × Requests) → Among group (groups request_program_key rs) → p.program ≡ group.0.item.process.program
      → (set : Promises) → MeetsAll set group.1 → reports_need (step program_of (with_promises u pid set) pid).lines ≡ false
  promises-suffice rs u pid p live each group listed same set meets =
      quiet-if program_of u pid p live set (λ call is.
      let it = each call is in
      let met = call-met set group.1 (λ l h. meets l (among-contains l (needs_listed group.1) h)) it.shown_by (of-program program_of it group listed same) in
      inr (set, refl, ap (λ (c : ShownCall). list_all (λ need. is_met (Some set) need) (needs c.call)) (sym it.same) ∙ met))

  enough : (fs : List Found) (u : State) (pid : ℕ) (p : Process) → IsSeenIn program_of fs u pid → process_at u pid ≡ Some p
      → (group : Observation Request × Requests) → Among group (programs_of program_of fs) → p.program ≡ group.0.item.process.program
      → (set : Promises) → MeetsAll set group.1 → reports_need (step program_of (with_promises u pid set) pid).lines ≡ false
  enough fs u pid p seen live = promises-suffice (requests_of program_of fs) u pid p live (λ call. requested program_of fs u pid p call seen live)

  -- ---- listed needs are needed

  -- a listed need is one of its call
  pub record IsListedOf (rs : Requests) (l : ListedNeed) : Type 0 where
    pub within : Among l.1 rs
    pub has : list_any (same_need l.0) (needs l.1.item.call) ≡ true
    pub first : first_of (with_need rs l.0) ≡ Some l.1

  first-of : (rs : Requests) (ns : List Need) (l : ListedNeed) → first_listed rs ns ≡ Some l → IsListedOf rs l
  first-of rs [] l is = cc
  first-of rs (need ∷ ns) l is = by (with_need rs need) refl is (first-of rs ns l)
    where
      by : (xs : Requests) → with_need rs need ≡ xs → listed_or (first_listed rs ns) need (first_of xs) ≡ Some l → (first_listed rs ns ≡ Some l → IsListedOf rs l) → IsListedOf rs l
      by [] none is' later = later is'
      by (x ∷ xs) some is' later =
          let same : ◌≡◌ {A = ListedNeed} (need, x) l = cc is' in
          let own = filter-among (λ r. list_any (same_need need) (needs r.item.call)) x rs (subst (λ (ys : Requests). Among x ys) (sym some) (inl refl)) in
          subst (IsListedOf rs) same (record { within = own.0; has = own.1; first = ap first_of some })

  listed-of : (rs : Requests) (ps : List Promise) (l : ListedNeed) → Among l (filter_map (λ p. first_listed rs (needs_with p)) ps) → IsListedOf rs l
  listed-of rs [] l h = absurd h
  listed-of rs (p ∷ ps) l h = by (first_listed rs (needs_with p)) refl h (listed-of rs ps l)
    where
      by : (o : Option ListedNeed) → first_listed rs (needs_with p) ≡ o → Among l (cons_option o (filter_map (λ p. first_listed rs (needs_with p)) ps))
          → (Among l (filter_map (λ p. first_listed rs (needs_with p)) ps) → IsListedOf rs l) → IsListedOf rs l
      by None none h later = later h
      by (Some m) some (inl e) later = first-of rs (needs_with p) l (some ∙ ap (λ (x : ListedNeed). Some x) (sym e))
      by (Some m) some (inr h) later = later h

  -- a listed need is one of its call
  pub needs-of : (rs : Requests) (l : ListedNeed) → Among l (needs_listed rs) → IsListedOf rs l
  needs-of rs l h = listed-of rs promises_in_use l h

  pub refused : (s : State) (rs : Requests) → ((r : Observation Request) → Among r rs → IsLastCall program_of s r)
      → (l : ListedNeed) → Among l (needs_listed rs) → (set : Promises) → is_met (Some set) l.0 ≡ false → IsRefusedWith program_of s set l.1
  refused s rs each l h set unmet =
      let of = needs-of rs l h in
      let last = each l.1 of.within in
      let from = last.from in
      let pid = l.1.move.pid in
      record {
        before = from.witness;
        witness = last.witness;
        steps = subst (λ (w : List ℕ). AreSteps program_of w s) (sym last.witness)
            (witness-more program_of s from.state from.witness pid last.sound.witness (ap is_some last.live)).steps;
        refused = subst (λ (v : State). reports_need (step program_of (with_promises v pid set) pid).lines ≡ true) (sym last.sound.witness.leads)
            (lacks from.state pid last.process last.call last.live last.calls (ap (λ (r : Request). r.call) last.same) of.has);
      }
    where
      unmet-all : (ns : List Need) → list_any (same_need l.0) ns ≡ true → list_all (λ need. is_met (Some set) need) ns ≡ true → ⊥
      unmet-all ns has all =
          let need = among-any (same_need l.0) ns has in
          let met = all-among (λ need. is_met (Some set) need) ns all need.0 need.1 in
          let bad : true ≡ false = sym met ∙ sym (same-met set l.0 need.0 need.2) ∙ unmet in absurd (cc)

      has-not : (call : Call) → list_any (same_need l.0) (needs call) ≡ true → HasAllNeeds (Some set) call → ⊥
      has-not call has (inl none) = cc none
      has-not call has (inr (other, same, all)) =
          let e : set ≡ other = cc same in
          unmet-all (needs call) has (ap (λ (k : Promises). list_all (λ need. is_met (Some k) need) (needs call)) e ∙ all)

      lacks : (u : State) (pid : ℕ) (p : Process) (call : Call) → process_at u pid ≡ Some p → next p ≡ calls_for call → l.1.item.call ≡ call → list_any (same_need l.0) (needs l.1.item.call) ≡ true
          → reports_need (step program_of (with_promises u pid set) pid).lines ≡ true
      lacks u pid p call live is same has = by (reports_need (step program_of (with_promises u pid set) pid).lines) refl
        where
          by : (b : Bool) → reports_need (step program_of (with_promises u pid set) pid).lines ≡ b → b ≡ true
          by true reported = refl
          by false quiet = absurd (has-not call (ap (λ c. list_any (same_need l.0) (needs c)) (sym same) ∙ has) ((call-reported program_of u pid p live set call is).0 quiet))

-- ---- the laws

pub calling-programs : CallingProgramsAreListed
calling-programs program_of limit s pids pid p call it complete live is =
    let seen = seen-full program_of limit s it complete pids pid in
    calling-listed program_of (states_found program_of limit s) (run program_of pids s).final pid p call seen live is

pub calling-programs_reduced : CallingProgramsAreListedReduced
calling-programs_reduced program_of limit s pids pid p call it complete steps live is =
    let seen = seen-reduced program_of limit s it complete pids pid p steps live in
    calling-listed program_of (reduced_found program_of s limit) (run program_of pids s).final pid p call seen live is

pub enough-promises : PolicyPromisesAreEnough
enough-promises program_of limit s group pids pid p set it complete listed live same meets =
    let seen = seen-full program_of limit s it complete pids pid in
    enough program_of (states_found program_of limit s) (run program_of pids s).final pid p seen live
    group (themselves (calling_programs program_of limit s) group listed) same set meets

pub enough-promises_reduced : ListedPromisesAreEnoughReduced
enough-promises_reduced program_of limit s group pids pid p set it complete listed steps live same meets =
    let seen = seen-reduced program_of limit s it complete pids pid p steps live in
    enough program_of (reduced_found program_of s limit) (run program_of pids s).final pid p seen live
    group (themselves (reduced_calling_programs program_of limit s) group listed) same set meets

pub needed-promises : PolicyPromisesAreNeeded
needed-promises program_of limit s group l set it listed h unmet =
    refused program_of s group.1
    (last-call_of program_of s (states_found program_of limit s) (sound-at program_of limit s it) group (themselves (calling_programs program_of limit s) group listed))
    l (themselves (needs_listed group.1) l h) set unmet

pub needed-promises_reduced : ListedPromisesAreNeededReduced
needed-promises_reduced program_of limit s group l set it listed h unmet =
    refused program_of s group.1
    (last-call_of program_of s (reduced_found program_of s limit) (reduced-sound program_of limit s it) group (themselves (reduced_calling_programs program_of limit s) group listed))
    l (themselves (needs_listed group.1) l h) set unmet
