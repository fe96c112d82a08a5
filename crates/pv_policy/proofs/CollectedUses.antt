-- The collected uses are those of the definitions.
use Rattle.std.proofs.Common.{◌≡◌, ◌∙◌, refl, sym, ap, ap₂, ℕ, ◌+◌, ◌==◌, Bool, true, false, true≢false, cond, ◌||◌, ◌&&◌, not, List, [], ◌∷◌, ◌++◌, map, flat_map, append_assoc, append-nil, Option, None, Some, option_map, is_some, bytes_eq}
use Rattle.std.specs.Prelude.{codes, fold, filter, find}
use Rattle.std.specs.Fmt.{decimal}
use Rattle.std.specs.List.{AllByRecursion, list_any}
use Rattle.std.specs.Option.{option_or}
use Rattle.std.proofs.lemmas.Grind.{flat_map-append}
use Rattle.std.proofs.lemmas.List.{map-append}
use Rattle.std.proofs.lemmas.List.Elements.{filter_agree}
use Rattle.std.proofs.lemmas.List.Folds.{flat_map-map, list_any-append}
use Rattle.std.proofs.lemmas.List.Sums.{fold-append}
use Rattle.std.proofs.lemmas.Simd.{map-map}
use Rattle.std.proofs.Math.Bool.{or_assoc}
use Rattle.pv_laws_trees.proofs.DirectoryEntries.{bytes_eq-itself, bytes_eq-same}
use Rattle.pv_laws_trees.proofs.ListTests.{flat-same as flat-alike}
use Rattle.pv_model.specs.declared.call.Call.{Call}
use Rattle.pv_model.specs.declared.call.Call.TheVariants as Calls
use Rattle.pv_model.specs.declared.open_flags.Mode.{Mode}
use Rattle.pv_model.specs.declared.open_flags.Mode.TheVariants.{Read, Write, ReadWrite}
use Rattle.pv_model.specs.declared.open_flags.OpenFlags.{OpenFlags}
use Rattle.pv_model.specs.declared.perms.Perms.{Perms}
use Rattle.pv_model.specs.declared.promise.Promise.{Promise}
use Rattle.pv_model.specs.declared.promise.Promise.TheVariants.{Stdio, Rpath, Wpath, Cpath, Proc, Exec, Unveil}
use Rattle.pv_model.specs.Machine.{permissions_lacked, elements_with_new_keys, AnswerLine, answer_line, answer_bytes, answer_line_bytes, counted_from, Judged, same_promise, first_of, Numbers, Observation, groups, observed, Granted, Request, Requests, Bytes, needs, needs_cpath, needs_of_mode, join_permissions, no_permissions, promise_name, Need, program_of, Program, Tree}
use Rattle.pv_model.specs.Answers.Explain.{need_text}
use Rattle.pv_model.specs.Answers.Explore.{by_line}
use Rattle.pv_model.specs.Answers.Observed.{with_equal_key}
use Rattle.pv_model.specs.Answers.Policy.{all_used, entries_held, first_need, idle_at, idle_line, idle_permission_line, idle_permission_lines, idle_promise_lines, is_idle, is_none_of, is_pledged_call, is_promised, is_restricted_call, union_of_granted, need_lines, needs_with, new_permissions, new_permissions_lines, granted_text, permissions_used, request_program_key, promise_lines, promises_in_use, restricted, same_need, target_lines, walks_asked, with_need}
use Rattle.pv_model.specs.Answers.ProgramNames.{program_line}
use Rattle.pv_model.specs.Needs.{needs_of_open}
use Rattle.pv_policy.specs.Groups.{and_more, and_element}
use Rattle.pv_needs.specs.Asking.{either_need, has_need, promises_of}
use Rattle.pv_policy.specs.Usage.{Noted, UsedPromise, UsedTarget, Usage, RecordedWalk, all_used_by, and_all_granted, and_calls, and_granted, and_walks, bytes_or_none, first_bytes, granted_more, has_promise, idle_granted, idle_of, idle_promise, if_restricted, is_held, is_rpath, need_bytes, new_permission_bytes, noted, noted_key, nothing_at, permissions_granted_at, permissions_in, promise_bytes, used_promise_with, used_target_with, used_target_words, unused, unused_by, unused_promise, unused_target, usage_bytes, usage_key, usage_more, walked, walked_words, granted_words}
use Rattle.pv_policy.proofs.GroupTables.{row_of, rows-of-groups}

-- ---- elements made of others

module _ {W X Y : Type 0} (key : X → Numbers) (key_of : Y → Numbers) (start : X → Y) (more : Y → X → Y) (f : W → X) where
  one-made : (ys : List Y) (w : W) → and_element key key_of start more ys (f w) ≡ and_element (λ v. key (f v)) key_of (λ v. start (f v)) (λ y v. more y (f v)) ys w
  one-made [] w = refl
  one-made (y ∷ ys) w = ap (λ (zs : List Y). cond (bytes_eq (key (f w)) (key_of y)) (more y (f w) ∷ ys) (y ∷ zs)) (one-made ys w)

  more-made : (ys : List Y) (ws : List W) → and_more key key_of start more ys (map f ws) ≡ and_more (λ v. key (f v)) key_of (λ v. start (f v)) (λ y v. more y (f v)) ys ws
  more-made ys [] = refl
  more-made ys (w ∷ ws) =
      more-made (and_element key key_of start more ys (f w)) ws
      ∙ ap (λ zs. and_more (λ v. key (f v)) key_of (λ v. start (f v)) (λ y v. more y (f v)) zs ws) (one-made ys w)

-- ---- bytes of lines

bytes-flat : {X : Type 0} (lines : X → List AnswerLine) (xs : List X) → answer_bytes (flat_map lines xs) ≡ flat_map (λ x. answer_bytes (lines x)) xs
bytes-flat lines [] = refl
bytes-flat lines (x ∷ xs) = flat_map-append answer_line_bytes (lines x) (flat_map lines xs) ∙ ap (λ bs. answer_bytes (lines x) ++ bs) (bytes-flat lines xs)

flat-same : {X : Type 0} (f g : X → Bytes) (xs : List X) → AllByRecursion (λ x. f x ≡ g x) xs → flat_map f xs ≡ flat_map g xs
flat-same f g [] same = refl
flat-same f g (x ∷ xs) same = ap₂ (λ (a b : Bytes). a ++ b) same.0 (flat-same f g xs same.1)

-- ---- promises

-- the first text
first-step : {R : Type 0} (text : R → Bytes) (o : Option Bytes) (b : Bool) (r : R) (rs : List R)
    → option_or (first_bytes o b (text r)) (option_map text (first_of rs)) ≡ option_or o (option_map text (first_of (cond b (r ∷ rs) rs)))
first-step text (Some had) b r rs = refl
first-step text None true r rs = refl
first-step text None false r rs = refl

-- the use of a promise after the calls of a program
abbrev used_after : UsedPromise → Requests → UsedPromise
used_after u rs = fold (λ v r. used_promise_with (noted r) v) u rs

abbrev alone_test : Promise → Observation Request → Bool
alone_test p r = list_any (same_promise p) (promises_of r.item.call) && not (has_need either_need r.item.call)

abbrev alone_text : Promise → Observation Request → Bytes
alone_text p r = need_bytes (noted r).by (noted r).pid (promise_name p) (noted r).line

abbrev either_test : Promise → Observation Request → Bool
either_test p r = is_rpath p && has_need either_need r.item.call

abbrev either_text : Observation Request → Bytes
either_text r = need_bytes (noted r).by (noted r).pid (need_text either_need) (noted r).line

or-none : (o : Option Bytes) → o ≡ option_or o None
or-none None = refl
or-none (Some b) = refl

or-off : (b : Bool) → b ≡ (b || false)
or-off true = refl
or-off false = refl

alone-after : (u : UsedPromise) (rs : Requests) → (used_after u rs).alone ≡ option_or u.alone (option_map (alone_text u.promise) (first_of (filter (alone_test u.promise) rs)))
alone-after u [] = or-none u.alone
alone-after u (r ∷ rs) =
    alone-after (used_promise_with (noted r) u) rs
    ∙ first-step (alone_text u.promise) u.alone (alone_test u.promise r) r (filter (alone_test u.promise) rs)

either-after : (u : UsedPromise) (rs : Requests) → (used_after u rs).either ≡ option_or u.either (option_map either_text (first_of (filter (either_test u.promise) rs)))
either-after u [] = or-none u.either
either-after u (r ∷ rs) =
    either-after (used_promise_with (noted r) u) rs
    ∙ first-step either_text u.either (either_test u.promise r) r (filter (either_test u.promise) rs)

needed-after : (u : UsedPromise) (rs : Requests) → (used_after u rs).needed ≡ (u.needed || list_any (λ r. list_any (same_promise u.promise) (promises_of r.item.call)) rs)
needed-after u [] = or-off u.needed
needed-after u (r ∷ rs) =
    needed-after (used_promise_with (noted r) u) rs
    ∙ or_assoc u.needed (list_any (same_promise u.promise) (promises_of r.item.call)) (list_any (λ r. list_any (same_promise u.promise) (promises_of r.item.call)) rs)

held-after : (u : UsedPromise) (rs : Requests) → (used_after u rs).held ≡ (u.held || list_any (λ r. is_held r.item.process.promises r.item.call u.promise) rs)
held-after u [] = or-off u.held
held-after u (r ∷ rs) =
    held-after (used_promise_with (noted r) u) rs
    ∙ or_assoc u.held (is_held r.item.process.promises r.item.call u.promise) (list_any (λ r. is_held r.item.process.promises r.item.call u.promise) rs)

promise-after : (u : UsedPromise) (rs : Requests) → (used_after u rs).promise ≡ u.promise
promise-after u [] = refl
promise-after u (r ∷ rs) = promise-after (used_promise_with (noted r) u) rs

-- ---- the needs of a call

any-flat : {X : Type 0} (t : X → Bool) (xss : List (List X)) → list_any (list_any t) xss ≡ list_any t (flat_map (λ xs. xs) xss)
any-flat t [] = refl
any-flat t (xs ∷ xss) = ap (λ b. list_any t xs || b) (any-flat t xss) ∙ sym (list_any-append t xs (flat_map (λ ys. ys) xss))

one-shape : (x : Bool) → ((x && true) || false) ≡ ((x || false) && true)
one-shape true = refl
one-shape false = refl

two-shape : (x y : Bool) → ((x && true) || ((y && true) || false)) ≡ ((x || (y || false)) && true)
two-shape true y = refl
two-shape false y = one-shape y

three-shape : (x y z : Bool) → ((x && true) || ((y && true) || ((z && true) || false))) ≡ ((x || (y || (z || false))) && true)
three-shape true y z = refl
three-shape false y z = two-shape y z

either-shape : (x y : Bool) → ((x && false) || false) ≡ ((x || (y || false)) && false)
either-shape true y = refl
either-shape false true = refl
either-shape false false = refl

module _ (p : Promise) where
  abbrev same_as : Promise → Bool
  same_as q = same_promise p q

  alone-open : (f : OpenFlags) → list_any (same_need (p ∷ [])) (needs_of_open f) ≡ (list_any (same_promise p) (flat_map (λ need. need) (needs_of_open f)) && not (list_any (same_need either_need) (needs_of_open f)))
  alone-open f = by f.mode f.create
    where
      by : (m : Mode) (b : Bool) → list_any (same_need (p ∷ [])) (needs_of_mode m ++ cond b needs_cpath [])
          ≡ (list_any (same_promise p) (flat_map (λ need. need) (needs_of_mode m ++ cond b needs_cpath [])) && not (list_any (same_need either_need) (needs_of_mode m ++ cond b needs_cpath [])))
      by Read false = one-shape (same_as Rpath)
      by Read true = two-shape (same_as Rpath) (same_as Cpath)
      by Write false = one-shape (same_as Wpath)
      by Write true = two-shape (same_as Wpath) (same_as Cpath)
      by ReadWrite false = two-shape (same_as Rpath) (same_as Wpath)
      by ReadWrite true = three-shape (same_as Rpath) (same_as Wpath) (same_as Cpath)

  -- a call needs a promise alone if it needs the promise, and not either of two
  alone-is : (call : Call) → (list_any (same_promise p) (promises_of call) && not (has_need either_need call)) ≡ has_need (p ∷ []) call
  unfolding needs
  alone-is (Calls.Exit status) = refl
  alone-is (Calls.Pledge promises execpromises) = refl
  alone-is Calls.Fork = sym (one-shape (same_as Proc))
  alone-is (Calls.Execve path) = sym (one-shape (same_as Exec))
  alone-is (Calls.Unveil path permissions) = sym (one-shape (same_as Unveil))
  alone-is (Calls.Open path flags) = sym (alone-open flags)
  alone-is (Calls.OpenAt start path flags) = sym (alone-open flags)
  alone-is (Calls.Chdir path) = sym (one-shape (same_as Rpath))
  alone-is (Calls.Stat path) = sym (either-shape (same_as Rpath) (same_as Wpath))
  alone-is (Calls.Lstat path) = sym (either-shape (same_as Rpath) (same_as Wpath))
  alone-is (Calls.Readlink path) = sym (either-shape (same_as Rpath) (same_as Wpath))
  alone-is (Calls.Mkdir path) = sym (one-shape (same_as Cpath))
  alone-is (Calls.Symlink text path) = sym (one-shape (same_as Cpath))
  alone-is (Calls.Link path new) = sym (one-shape (same_as Cpath))
  alone-is (Calls.Unlink path) = sym (one-shape (same_as Cpath))
  alone-is (Calls.Rmdir path) = sym (one-shape (same_as Cpath))
  alone-is (Calls.Rename path new) = sym (one-shape (same_as Cpath))
  alone-is _ = sym (one-shape (same_as Stdio))

filter-none : {X : Type 0} (t : X → Bool) → ((x : X) → t x ≡ false) → (xs : List X) → filter t xs ≡ []
filter-none t none [] = refl
filter-none {X = X} t none (x ∷ xs) = ap₂ (λ b (ys : List X). cond b (x ∷ ys) ys) (none x) (filter-none t none xs)

any-same : {X : Type 0} (t u : X → Bool) → ((x : X) → t x ≡ u x) → (xs : List X) → list_any t xs ≡ list_any u xs
any-same t u same [] = refl
any-same t u same (x ∷ xs) = ap₂ (λ a b. a || b) (same x) (any-same t u same xs)

module _ (rs : Requests) where
  with-alone : (p : Promise) → filter (alone_test p) rs ≡ with_need rs (p ∷ [])
  with-alone p = filter_agree (alone_test p) (λ r. has_need (p ∷ []) r.item.call) (λ r. alone-is p r.item.call) rs

  lines-of : (need : Need) (text : Bytes) → text ≡ need_text need → (r : Observation Request)
      → need_bytes (noted r).by (noted r).pid text (noted r).line ≡ answer_bytes (need_lines rs need (Some r))
  lines-of need text same r =
      ap (λ t. need_bytes (noted r).by (noted r).pid t (noted r).line) same
      ∙ ap (λ bs. (noted r).by ++ bs) (sym (append-nil (answer_line_bytes (answer_line r.move.pid (codes "PLDG") (need_text need ++ codes ", line " ++ decimal r.item.asked.line)))))

  alone-found : (p : Promise) → (used_after (unused_promise p) rs).alone ≡ option_map (alone_text p) (first_of (with_need rs (p ∷ [])))
  alone-found p = alone-after (unused_promise p) rs ∙ ap (λ qs. option_map (alone_text p) (first_of qs)) (with-alone p)

  single-bytes : (p : Promise) → needs_with p ≡ (p ∷ []) ∷ [] → is_rpath p ≡ false
      → promise_bytes (used_after (unused_promise p) rs) ≡ answer_bytes (first_need rs (needs_with p))
  single-bytes p single other =
      ap₂ bytes_or_none (alone-found p)
      (either-after (unused_promise p) rs ∙ ap (λ qs. option_map either_text (first_of qs)) (filter-none (either_test p) (λ r. ap (λ b. b && has_need either_need r.item.call) other) rs))
      ∙ by (first_of (with_need rs (p ∷ [])))
      ∙ sym (ap (λ ns. answer_bytes (first_need rs ns)) single)
    where
      by : (o : Option (Observation Request)) → bytes_or_none (option_map (alone_text p) o) None ≡ answer_bytes (cond (is_some o) (need_lines rs (p ∷ []) o) [])
      by None = refl
      by (Some r) = lines-of (p ∷ []) (promise_name p) (sym (append-nil (promise_name p))) r

  rpath-bytes : promise_bytes (used_after (unused_promise Rpath) rs) ≡ answer_bytes (first_need rs (needs_with Rpath))
  rpath-bytes =
      ap₂ bytes_or_none (alone-found Rpath) (either-after (unused_promise Rpath) rs)
      ∙ by (first_of (with_need rs (Rpath ∷ []))) (first_of (with_need rs either_need))
    where
      by : (o e : Option (Observation Request)) → bytes_or_none (option_map (alone_text Rpath) o) (option_map either_text e)
          ≡ answer_bytes (cond (is_some o) (need_lines rs (Rpath ∷ []) o) (cond (is_some e) (need_lines rs either_need e) []))
      by None None = refl
      by None (Some r) = lines-of either_need (need_text either_need) refl r
      by (Some r) e = lines-of (Rpath ∷ []) (promise_name Rpath) refl r

  -- the lines of all promises
  all-promises : flat_map promise_bytes (map (λ p. used_after (unused_promise p) rs) promises_in_use) ≡ answer_bytes (promise_lines rs)
  all-promises =
      flat_map-map promise_bytes (λ p. used_after (unused_promise p) rs) promises_in_use
      ∙ flat-same (λ p. promise_bytes (used_after (unused_promise p) rs)) (λ p. answer_bytes (first_need rs (needs_with p))) promises_in_use
      (single-bytes Stdio refl refl, (rpath-bytes, (single-bytes Wpath refl refl, (single-bytes Cpath refl refl, (single-bytes Proc refl refl, (single-bytes Exec refl refl, (single-bytes Unveil refl refl, tt)))))))
      ∙ sym (bytes-flat (λ p. first_need rs (needs_with p)) promises_in_use)

  idle-one : (p : Promise) → idle_promise (used_after (unused_promise p) rs) ≡ cond (is_idle rs p) (idle_line (promise_name p) ∷ []) []
  idle-one p =
      let held = held-after (unused_promise p) rs in
      let needed : (used_after (unused_promise p) rs).needed ≡ list_any (λ r. has_promise p r.item.call) rs =
      needed-after (unused_promise p) rs ∙ sym (any-same (λ (r : Observation Request). has_promise p r.item.call) (λ r. list_any (same_promise p) (promises_of r.item.call)) (λ r. any-flat (same_promise p) (needs r.item.call)) rs) in
      let name = promise-after (unused_promise p) rs in
      λ i. cond (held i && not (needed i)) (idle_line (promise_name (name i)) ∷ []) []

  idle-promises : (ps : List Promise) → flat_map idle_promise (map (λ p. used_after (unused_promise p) rs) ps) ≡ map (λ p. idle_line (promise_name p)) (filter (is_idle rs) ps)
  idle-promises [] = refl
  idle-promises (p ∷ ps) = ap₂ (λ (a b : List AnswerLine). a ++ b) (idle-one p) (idle-promises ps) ∙ by (is_idle rs p)
    where
      by : (b : Bool) → cond b (idle_line (promise_name p) ∷ []) [] ++ map (λ q. idle_line (promise_name q)) (filter (is_idle rs) ps)
          ≡ map (λ q. idle_line (promise_name q)) (cond b (p ∷ filter (is_idle rs) ps) (filter (is_idle rs) ps))
      by true = refl
      by false = refl

-- ---- targets

abbrev walked_of : Observation Judged → RecordedWalk
walked_of w = walked (answer_line_bytes (by_line w.move)) w.move.pid w.item

abbrev walk_more : UsedTarget → Observation Judged → UsedTarget
walk_more t w = used_target_with t (walked_of w)

-- the words of a target stay the same
words-stay : (t : UsedTarget) (ws : List (Observation Judged)) → (fold walk_more t ws).words ≡ t.words
words-stay t [] = refl
words-stay t (w ∷ ws) = words-stay (walk_more t w) ws

new-lines : (new : Perms) (w : Observation Judged) → new_permission_bytes (walked_of w).by (walked_of w).pid new w.item.words ≡ answer_bytes (new_permissions_lines new w)
new-lines new w = by (is_none_of new)
  where
    by : (b : Bool) → cond b [] ((walked_of w).by ++ answer_line_bytes (answer_line w.move.pid (codes "UNVL") (granted_text new w.item.words)))
        ≡ answer_bytes (cond b [] (by_line w.move ∷ answer_line w.move.pid (codes "UNVL") (granted_text new w.item.words) ∷ []))
    by true = refl
    by false = ap (λ bs. (walked_of w).by ++ bs) (sym (append-nil (answer_line_bytes (answer_line w.move.pid (codes "UNVL") (granted_text new w.item.words)))))

-- all walks have the words of the target
abbrev HaveWords : Bytes → List (Observation Judged) → Type 0
HaveWords words ws = AllByRecursion (λ w. w.item.words ≡ words) ws

lines-after : (t : UsedTarget) (ws : List (Observation Judged)) → HaveWords t.words ws → (fold walk_more t ws).lines ≡ t.lines ++ answer_bytes (new_permissions t.permissions ws)
lines-after t [] same = sym (append-nil t.lines)
lines-after t (w ∷ ws) same =
    let new : Perms = permissions_lacked t.permissions w.item.permissions in
    lines-after (walk_more t w) ws same.1
    ∙ append_assoc t.lines (new_permission_bytes (walked_of w).by (walked_of w).pid new t.words) (answer_bytes (new_permissions (join_permissions t.permissions w.item.permissions) ws))
    ∙ ap (λ bs. t.lines ++ (bs ++ answer_bytes (new_permissions (join_permissions t.permissions w.item.permissions) ws)))
    (ap (new_permission_bytes (walked_of w).by (walked_of w).pid new) (sym same.0) ∙ new-lines new w)
    ∙ ap (λ bs. t.lines ++ bs) (sym (flat_map-append answer_line_bytes (new_permissions_lines new w) (new_permissions (join_permissions t.permissions w.item.permissions) ws)))

words-alike : (words : Bytes) (ws : List (Observation Judged)) → HaveWords words (filter (λ w. bytes_eq w.item.words words) ws)
words-alike words [] = tt
words-alike words (w ∷ ws) = by (bytes_eq w.item.words words) refl (words-alike words ws)
  where
    by : (b : Bool) → bytes_eq w.item.words words ≡ b → HaveWords words (filter (λ v. bytes_eq v.item.words words) ws)
        → HaveWords words (cond b (w ∷ filter (λ v. bytes_eq v.item.words words) ws) (filter (λ v. bytes_eq v.item.words words) ws))
    by true is rest = (bytes_eq-same w.item.words words is, rest)
    by false is rest = rest

abbrev walk_words : Observation Judged → Bytes
walk_words w = w.item.words

abbrev unused_at : Observation Judged → UsedTarget
unused_at w = unused_target (walked_of w)

-- the lines of all targets
all-targets : (ws : List (Observation Judged)) → flat_map (λ t. t.lines) (and_walks [] (map walked_of ws)) ≡ answer_bytes (flat_map (λ g. new_permissions no_permissions g.1) (groups walk_words ws))
all-targets ws =
    ap (flat_map (λ t. t.lines)) (more-made walked_words used_target_words unused_target used_target_with walked_of [] ws
    ∙ rows-of-groups walk_words used_target_words unused_at walk_more (λ w. refl) (λ t w. refl) ws)
    ∙ flat_map-map (λ (t : UsedTarget). t.lines) (row_of walk_words used_target_words unused_at walk_more (λ w. refl) (λ t w. refl)) (groups walk_words ws)
    ∙ each (elements_with_new_keys walk_words [] ws)
    ∙ sym (bytes-flat (λ (g : Observation Judged × List (Observation Judged)). new_permissions no_permissions g.1) (groups walk_words ws))
  where
    each : (firsts : List (Observation Judged))
        → flat_map (λ g. (fold walk_more (unused_at g.0) g.1).lines) (map (with_equal_key walk_words ws) firsts)
        ≡ flat_map (λ g. answer_bytes (new_permissions no_permissions g.1)) (map (with_equal_key walk_words ws) firsts)
    each firsts =
        flat_map-map (λ (g : Observation Judged × List (Observation Judged)). (fold walk_more (unused_at g.0) g.1).lines) (with_equal_key walk_words ws) firsts
        ∙ flat-alike (λ (w : Observation Judged). (fold walk_more (unused_at w) (filter (λ v. bytes_eq v.item.words w.item.words) ws)).lines)
        (λ w. answer_bytes (new_permissions no_permissions (filter (λ v. bytes_eq v.item.words w.item.words) ws)))
        (λ w. lines-after (unused_at w) (filter (λ v. bytes_eq v.item.words w.item.words) ws) (words-alike w.item.words ws)) firsts
        ∙ sym (flat_map-map (λ (g : Observation Judged × List (Observation Judged)). answer_bytes (new_permissions no_permissions g.1)) (with_equal_key walk_words ws) firsts)

-- ---- permissions

-- the permissions at words after one more
abbrev found_at : Bytes → List Granted → Perms
found_at words gs = permissions_granted_at gs words

one-found : (words : Bytes) (gs : List Granted) (g : Granted) → permissions_granted_at (and_granted gs g) words ≡ cond (bytes_eq g.0 words) (join_permissions (permissions_granted_at gs words) g.1) (permissions_granted_at gs words)
one-found words [] g = by (bytes_eq g.0 words)
  where
    by : (b : Bool) → permissions_in (cond b (Some (granted_more (nothing_at g) g)) None) ≡ cond b (join_permissions no_permissions g.1) no_permissions
    by true = refl
    by false = refl
one-found words (had ∷ gs) g = by (bytes_eq g.0 had.0) refl (bytes_eq had.0 words) refl (one-found words gs g)
  where
    now : Bool
    now = bytes_eq g.0 words

    there : Perms
    there = permissions_granted_at gs words

    by : (e : Bool) → bytes_eq g.0 had.0 ≡ e → (b : Bool) → bytes_eq had.0 words ≡ b → permissions_granted_at (and_granted gs g) words ≡ cond now (join_permissions there g.1) there
        → permissions_granted_at (cond e (granted_more had g ∷ gs) (had ∷ and_granted gs g)) words
        ≡ cond now (join_permissions (permissions_in (cond b (Some had) (find (λ h. bytes_eq h.0 words) gs))) g.1) (permissions_in (cond b (Some had) (find (λ h. bytes_eq h.0 words) gs)))
    by true same true is rest =
        let at : now ≡ true = ap (λ ws. bytes_eq ws words) (bytes_eq-same g.0 had.0 same) ∙ is in
        ap (λ b. permissions_in (cond b (Some (granted_more had g)) (find (λ h. bytes_eq h.0 words) gs))) is ∙ sym (ap (λ b. cond b (join_permissions had.1 g.1) had.1) at)
    by true same false is rest =
        let at : now ≡ false = ap (λ ws. bytes_eq ws words) (bytes_eq-same g.0 had.0 same) ∙ is in
        ap (λ b. permissions_in (cond b (Some (granted_more had g)) (find (λ h. bytes_eq h.0 words) gs))) is ∙ sym (ap (λ b. cond b (join_permissions there g.1) there) at)
    by false differs true is rest =
        let at : now ≡ false = ap (bytes_eq g.0) (sym (bytes_eq-same had.0 words is)) ∙ differs in
        ap (λ b. permissions_in (cond b (Some had) (find (λ h. bytes_eq h.0 words) (and_granted gs g)))) is ∙ sym (ap (λ b. cond b (join_permissions had.1 g.1) had.1) at)
    by false differs false is rest = ap (λ b. permissions_in (cond b (Some had) (find (λ h. bytes_eq h.0 words) (and_granted gs g)))) is ∙ rest

abbrev join_all : Perms → List Granted → Perms
join_all permissions gs = fold join_permissions permissions (map (λ g. g.1) gs)

all-found : (words : Bytes) (gs more : List Granted) → permissions_granted_at (and_all_granted gs more) words ≡ join_all (permissions_granted_at gs words) (filter (λ g. bytes_eq g.0 words) more)
all-found words gs [] = refl
all-found words gs (g ∷ more) =
    all-found words (and_granted gs g) more
    ∙ ap (λ p. join_all p (filter (λ h. bytes_eq h.0 words) more)) (one-found words gs g)
    ∙ by (bytes_eq g.0 words)
  where
    by : (b : Bool) → join_all (cond b (join_permissions (permissions_granted_at gs words) g.1) (permissions_granted_at gs words)) (filter (λ h. bytes_eq h.0 words) more)
        ≡ join_all (permissions_granted_at gs words) (cond b (g ∷ filter (λ h. bytes_eq h.0 words) more) (filter (λ h. bytes_eq h.0 words) more))
    by true = refl
    by false = refl

granted-after : (had : Granted) (gs : List Granted) → fold granted_more had gs ≡ (had.0, join_all had.1 gs)
granted-after had [] = refl
granted-after had (g ∷ gs) = granted-after (granted_more had g) gs

-- the lines of idle permissions
idle-permissions : (used gs : List Granted) → flat_map (idle_granted (and_all_granted [] used)) (and_all_granted [] gs) ≡ flat_map (idle_at used) (groups granted_words gs)
idle-permissions used gs =
    ap (flat_map (idle_granted (and_all_granted [] used))) (rows-of-groups granted_words granted_words nothing_at granted_more (λ g. refl) (λ had g. refl) gs)
    ∙ each (groups granted_words gs)
  where
    idle-one : (g : Granted) (of : List Granted) → idle_granted (and_all_granted [] used) (fold granted_more (nothing_at g) of) ≡ idle_at used (g, of)
    idle-one (words, p) of =
        ap (idle_granted (and_all_granted [] used)) (granted-after (words, no_permissions) of)
        ∙ ap (λ has. idle_permission_line (permissions_lacked has (union_of_granted of)) words) (all-found words [] used)

    each : (groups : List (Granted × List Granted))
        → flat_map (idle_granted (and_all_granted [] used)) (map (row_of granted_words granted_words nothing_at granted_more (λ g. refl) (λ had g. refl)) groups) ≡ flat_map (idle_at used) groups
    each [] = refl
    each (g ∷ groups) = ap₂ (λ (a b : List AnswerLine). a ++ b) (idle-one g.0 g.1) (each groups)

-- ---- the tables of a program

abbrev usage_after : Usage → Requests → Usage
usage_after u rs = fold (λ v r. usage_more v (noted r)) u rs

program-after : (u : Usage) (rs : Requests) → (usage_after u rs).program ≡ u.program
program-after u [] = refl
program-after u (r ∷ rs) = program-after (usage_more u (noted r)) rs

map-same : (us : List UsedPromise) → map (λ u. u) us ≡ us
map-same [] = refl
map-same (u ∷ us) = ap (λ (vs : List UsedPromise). u ∷ vs) (map-same us)

promises-after : (u : Usage) (rs : Requests) → (usage_after u rs).promises ≡ map (λ v. used_after v rs) u.promises
promises-after u [] = sym (map-same u.promises)
promises-after u (r ∷ rs) =
    promises-after (usage_more u (noted r)) rs
    ∙ map-map (λ v. used_after v rs) (used_promise_with (noted r)) u.promises

walks-at : (r : Observation Request) → map (walked (noted r).by (noted r).pid) (noted r).walks ≡ map walked_of (map (observed r.move) r.item.asked.walks)
walks-at r = sym (map-map walked_of (observed r.move) r.item.asked.walks)

targets-after : (u : Usage) (rs : Requests) → (usage_after u rs).targets ≡ and_walks u.targets (map walked_of (walks_asked rs))
targets-after u [] = refl
targets-after u (r ∷ rs) =
    targets-after (usage_more u (noted r)) rs
    ∙ ap (λ ws. and_walks (and_walks u.targets ws) (map walked_of (walks_asked rs))) (walks-at r)
    ∙ sym (fold-append (and_element walked_words used_target_words unused_target used_target_with) u.targets (map walked_of (map (observed r.move) r.item.asked.walks)) (map walked_of (walks_asked rs)))
    ∙ ap (and_walks u.targets) (sym (map-append walked_of (map (observed r.move) r.item.asked.walks) (walks_asked rs)))

granted-rows : (u : Usage) (rs : Requests) → (usage_after u rs).granted ≡ and_all_granted u.granted (flat_map (λ r. if_restricted entries_held r.item) rs)
granted-rows u [] = refl
granted-rows u (r ∷ rs) =
    granted-rows (usage_more u (noted r)) rs
    ∙ sym (fold-append (and_element granted_words granted_words nothing_at granted_more) u.granted (if_restricted entries_held r.item) (flat_map (λ q. if_restricted entries_held q.item) rs))

used-rows : (u : Usage) (rs : Requests) → (usage_after u rs).used ≡ and_all_granted u.used (flat_map (λ r. if_restricted all_used_by r.item) rs)
used-rows u [] = refl
used-rows u (r ∷ rs) =
    used-rows (usage_more u (noted r)) rs
    ∙ sym (fold-append (and_element granted_words granted_words nothing_at granted_more) u.used (if_restricted all_used_by r.item) (flat_map (λ q. if_restricted all_used_by q.item) rs))

restricted-flat : (f : Request → List Granted) (rs : Requests) → flat_map (λ r. if_restricted f r.item) rs ≡ flat_map f (restricted rs)
restricted-flat f [] = refl
restricted-flat f (r ∷ rs) = ap (λ gs. if_restricted f r.item ++ gs) (restricted-flat f rs) ∙ by (is_restricted_call r.item)
  where
    by : (b : Bool) → cond b (f r.item) [] ++ flat_map f (restricted rs) ≡ flat_map f (cond b (r.item ∷ restricted rs) (restricted rs))
    by true = refl
    by false = refl

-- ---- the lines of a program

-- the lines of a program, given the first tree and whether no state was left out
module _ (t : Tree) (complete : Bool) where
  abbrev idle_of_program : Requests → List AnswerLine
  idle_of_program rs = cond complete (idle_promise_lines rs ++ idle_permission_lines (restricted rs)) []

  abbrev pub lines_of_program : ℕ × (Observation Request × Requests) → List AnswerLine
  lines_of_program (k, (first, rs)) =
      program_line program_of t k first.item.process.program ∷ promise_lines rs ++ target_lines rs ++ idle_of_program rs

  idle-lines : (program : Program) (rs : Requests) → idle_of complete (usage_after (unused program) rs) ≡ idle_of_program rs
  idle-lines program rs =
      ap (λ lines. cond complete lines [])
      (ap₂ (λ (a b : List AnswerLine). a ++ b)
      (ap (flat_map idle_promise) (promises-after (unused program) rs ∙ map-map (λ v. used_after v rs) unused_promise promises_in_use) ∙ idle-promises rs promises_in_use)
      (ap₂ (λ used granted. flat_map (idle_granted used) granted)
      (used-rows (unused program) rs ∙ ap (and_all_granted []) (restricted-flat all_used_by rs))
      (granted-rows (unused program) rs ∙ ap (and_all_granted []) (restricted-flat entries_held rs))
      ∙ idle-permissions (all_used (restricted rs)) (flat_map entries_held (restricted rs))))

  program-bytes : (k : ℕ) (first : Observation Request) (rs : Requests)
      → usage_bytes t complete (k, usage_after (unused_by (noted first)) rs) ≡ answer_bytes (lines_of_program (k, (first, rs)))
  program-bytes k first rs =
      let program : Program = first.item.process.program in
      let u : Usage = usage_after (unused program) rs in
      let line : Bytes = answer_line_bytes (program_line program_of t k program) in
      let same : u.program ≡ program = program-after (unused program) rs in
      let promises : Bytes = flat_map promise_bytes u.promises in
      let targets : Bytes = flat_map (λ t. t.lines) u.targets in
      let idle : Bytes = answer_bytes (idle_of complete u) in
      ap (λ (p : Program). answer_line_bytes (program_line program_of t k p) ++ ((promises ++ targets) ++ idle)) same
      ∙ ap (λ bs. line ++ bs)
      (ap₂ (λ (a b : Bytes). a ++ b)
      (ap₂ (λ (a b : Bytes). a ++ b)
      (ap (flat_map promise_bytes) (promises-after (unused program) rs ∙ map-map (λ v. used_after v rs) unused_promise promises_in_use) ∙ all-promises rs)
      (ap (flat_map (λ t. t.lines)) (targets-after (unused program) rs) ∙ all-targets (walks_asked rs))
      ∙ sym (flat_map-append answer_line_bytes (promise_lines rs) (target_lines rs)))
      (ap answer_bytes (idle-lines program rs))
      ∙ sym (flat_map-append answer_line_bytes (promise_lines rs ++ target_lines rs) (idle_of_program rs)))

  abbrev used_by : Observation Request × Requests → Usage
  used_by g = usage_after (unused_by (noted g.0)) g.1

  programs-bytes : (k : ℕ) (gs : List (Observation Request × Requests))
      → flat_map (usage_bytes t complete) (counted_from k (map used_by gs)) ≡ answer_bytes (flat_map lines_of_program (counted_from k gs))
  programs-bytes k [] = refl
  programs-bytes k (g ∷ gs) =
      ap₂ (λ (a b : Bytes). a ++ b) (program-bytes k g.0 g.1) (programs-bytes (k + 1) gs)
      ∙ sym (flat_map-append answer_line_bytes (lines_of_program (k, g)) (flat_map lines_of_program (counted_from (k + 1) gs)))

  -- the bytes of the programs of calls, as these are collected, and of a last line
  pub policy-bytes : (rs : Requests) (last : AnswerLine)
      → flat_map (usage_bytes t complete) (counted_from 1 (and_calls [] (map noted rs))) ++ answer_line_bytes last
      ≡ answer_bytes (flat_map lines_of_program (counted_from 1 (groups request_program_key rs)) ++ last ∷ [])
  policy-bytes rs last =
      ap (λ us. flat_map (usage_bytes t complete) (counted_from 1 us) ++ answer_line_bytes last)
      (more-made noted_key usage_key unused_by usage_more noted [] rs
      ∙ rows-of-groups request_program_key usage_key (λ r. unused_by (noted r)) (λ u r. usage_more u (noted r)) (λ r. refl) (λ u r. refl) rs)
      ∙ ap₂ (λ (a b : Bytes). a ++ b) (programs-bytes 1 (groups request_program_key rs)) (sym (append-nil (answer_line_bytes last)))
      ∙ sym (flat_map-append answer_line_bytes (flat_map lines_of_program (counted_from 1 (groups request_program_key rs))) (last ∷ []))
