-- The reason of an error is true in the state before the call.
use Rattle.std.proofs.Common.{◌≡◌, ◌<◌, ◌≤◌, ◌+◌, ◌-◌, ◌∙◌, ◌⊎◌, inl, inr, ℕ, ℤ, suc, Bool, true, false, not, ◌&&◌, ◌||◌, if◌then◌else◌, List, [], ◌∷◌, ◌++◌, length, take, drop, Option, None, Some, option_map, Result, Ok, Err, refl, ap, ap₂, sym, subst, arith}
use Rattle.std.specs.Prelude.{⊤, Contains, find, is_none, is_ok, nat_lt, unwrap_or, ◌==◌}
use Rattle.std.specs.Option.{option_or}
use Rattle.std.proofs.lemmas.Bool.{eqb-true, le-ltb, ltb-false}
use Rattle.std.proofs.lemmas.List.{length-append, length-drop, take-append-drop, take_all}
use Rattle.pv_model.specs.declared.call.Call.{Call}
use Rattle.pv_model.specs.declared.call.Call.TheVariants.{Pledge, Unveil, Execve, Open, OpenAt, Chdir, Stat, Lstat, Readlink, Mkdir, Symlink, Link, Unlink, Rmdir, Rename}
use Rattle.pv_model.specs.declared.call.Start.{Start}
use Rattle.pv_model.specs.declared.call.Start.TheVariants.{WorkingDirectory, Descriptor as AtDescriptor}
use Rattle.pv_model.specs.declared.errno.Errno.{Errno}
use Rattle.pv_model.specs.declared.follow.Follow.{Follow}
use Rattle.pv_model.specs.declared.follow.Follow.TheVariants.{Last}
use Rattle.pv_model.specs.declared.open_flags.OpenFlags.{OpenFlags}
use Rattle.pv_model.specs.declared.place.Place.{Place}
use Rattle.pv_model.specs.Machine.{Bytes, directory_of_file, end_of, open_file, start_directory, OpenFile, Process, State, is_directory_at, is_absolute, resolve, Walk, walks_of}
use Rattle.pv_model.specs.Perms.{permission_of}
use Rattle.pv_model.specs.Promises.{keywords, promise_of}
use Rattle.pv_explain.proofs.ProcessOrigins.{is-none}
use Rattle.pv_explain.specs.Errors.{ReasonHolds, IsPrefixEnd, PrefixEnd, Reason, no_descriptor, open_descriptor, unknown_keyword, unknown_permission, one_path, two_paths, in_words, argument_reason, arrives, condition, descriptor_reason, descriptor_used, end_after, file_reason, is_of_path, is_path_errno, is_valid_link, misfits, path_reason, prefix_end, error_reason, start_of, stop, unknown_byte, unknown_in, walk_prefix, walks_reason, words_reason}

-- the result of a search is in the list, and passes the test
find-holds : {X : Type 0} (f : X → Bool) (xs : List X) (x : X) → find f xs ≡ Some x → Contains xs x × (f x ≡ true)
find-holds f [] x is = let bad : None ≡ Some x = is in cc bad
find-holds f (y ∷ ys) x is = by (f y) refl (find-holds f ys x)
  where
    by : (b : Bool) → f y ≡ b → (find f ys ≡ Some x → Contains ys x × (f x ≡ true)) → Contains (y ∷ ys) x × (f x ≡ true)
    by true passes further =
        let same : y ≡ x = cc (sym (ap (λ b. if b then Some y else find f ys) passes) ∙ is) in
        (subst (Contains (y ∷ ys)) same (0, omega arith, refl), ap f (sym same) ∙ passes)
    by false fails further =
        let later = further (sym (ap (λ b. if b then Some y else find f ys) fails) ∙ is) in
        ((suc later.0.0, omega (arith, later.0.1), later.0.2), later.1)

same-choice : {X : Type 0} (b : Bool) (x : X) → (if b then x else x) ≡ x
same-choice true x = refl
same-choice false x = refl

-- ---- where walks start

module _ (s : State) (p : Process) where
  abbrev Begins : Start → Bytes → Type 0
  Begins start path = start_of s p start path ≡ start_directory s p start path

  abbrev AllBegin : List Walk → Type 0
  AllBegin [] = ⊤
  AllBegin (w ∷ ws) = Begins w.start w.path × AllBegin ws

  begins-here : (start : Start) (path : Bytes) → start_directory s p start path ≡ p.directory → Begins start path
  begins-here start path here =
      ap (λ (d : ℕ). if is_directory_at s.tree d then d else p.directory) here ∙ same-choice (is_directory_at s.tree p.directory) p.directory ∙ sym here

  begins-there : (start : Start) (path : Bytes) (n : ℕ) → start_directory s p start path ≡ n → is_directory_at s.tree n ≡ true → Begins start path
  begins-there start path n there directory =
      ap (λ (d : ℕ). if is_directory_at s.tree d then d else p.directory) there ∙ ap (λ b. if b then n else p.directory) directory ∙ sym there

  begins : (path : Bytes) → Begins WorkingDirectory path
  begins path = begins-here WorkingDirectory path refl

  -- the walks of a call begin, if that of an openat does
  all-begin : (c : Call) → ((start : Start) (path : Bytes) (f : OpenFlags) → c ≡ OpenAt start path f → Begins start path) → AllBegin (walks_of c)
  all-begin (Unveil (Some path) (Some text)) at = (begins path, tt)
  all-begin (Execve path) at = (begins path, tt)
  all-begin (Open path f) at = (begins path, tt)
  all-begin (OpenAt start path f) at = (at start path f refl, tt)
  all-begin (Chdir path) at = (begins path, tt)
  all-begin (Stat path) at = (begins path, tt)
  all-begin (Lstat path) at = (begins path, tt)
  all-begin (Readlink path) at = (begins path, tt)
  all-begin (Mkdir path) at = (begins path, tt)
  all-begin (Symlink text path) at = (begins path, tt)
  all-begin (Link path new) at = (begins path, (begins new, tt))
  all-begin (Unlink path) at = (begins path, tt)
  all-begin (Rmdir path) at = (begins path, tt)
  all-begin (Rename path new) at = (begins path, (begins new, tt))
  all-begin c at = tt

  absolute-begins : (d : ℤ) (path : Bytes) → is_absolute path ≡ true → Begins (AtDescriptor d) path
  absolute-begins d path absolute =
      begins-here (AtDescriptor d) path (ap (λ b. if b then p.directory else directory_of_file p (open_file s p d)) absolute)

  module _ (e : Errno) where
    -- no descriptor is used
    unused-begins : (start : Start) (path : Bytes) (f : OpenFlags) → descriptor_used (OpenAt start path f) e ≡ None → is_path_errno e ≡ true → Begins start path
    unused-begins WorkingDirectory path f unused of_path = begins path
    unused-begins (AtDescriptor d) path f unused of_path = by (is_absolute path) refl
      where
        by : (b : Bool) → is_absolute path ≡ b → Begins (AtDescriptor d) path
        by true absolute = absolute-begins d path absolute
        by false relative =
            let bad : Some d ≡ None = sym (ap₂ (λ (a b : Bool). if a || not b then None else Some d) relative of_path) ∙ unused in absurd (cc bad)

    -- the descriptor that is used is of a directory
    used-begins : (start : Start) (path : Bytes) (f : OpenFlags) (d : ℤ) (k : ℕ) (file : OpenFile) → descriptor_used (OpenAt start path f) e ≡ Some d
        → open_file s p d ≡ Some (k, file) → misfits s.tree (OpenAt start path f) e file.node file.mode ≡ false → Begins start path
    used-begins WorkingDirectory path f d k file used at fits = begins path
    used-begins (AtDescriptor q) path f d k file used at fits = by (is_absolute path) refl
      where
        directory : (b : Bool) → not b ≡ false → b ≡ true
        directory true is = refl
        directory false is = cc is

        same-descriptor : (b : Bool) → (if b then None else Some q) ≡ Some d → q ≡ d
        same-descriptor true is = cc is
        same-descriptor false is = cc is

        by : (b : Bool) → is_absolute path ≡ b → Begins (AtDescriptor q) path
        by true absolute = absolute-begins q path absolute
        by false relative =
            begins-there (AtDescriptor q) path file.node
            (ap (λ b. if b then p.directory else directory_of_file p (open_file s p q)) relative
            ∙ ap (λ (x : ℤ). directory_of_file p (open_file s p x)) (same-descriptor (is_absolute path || not (is_path_errno e)) used)
            ∙ ap (directory_of_file p) at)
            (directory (is_directory_at s.tree file.node) fits)

  -- ---- prefixes

  prefix-holds : (w : Walk) → Begins w.start w.path → IsPrefixEnd s p w (walk_prefix s p w)
  unfolding prefix_end
  prefix-holds w start = record {
    follow = if nat_lt k (length w.path) then Last else w.follow;
    rest = drop k w.path;
    prefix = sym (take-append-drop k w.path);
    end = end-by (nat_lt k (length w.path)) refl;
    whole = λ none.
        ap (λ b. if b then resolve s.tree Last (start_of s p w.start w.path) (take k w.path) else resolve s.tree w.follow (start_of s p w.start w.path) w.path) (is-whole none)
        ∙ ap (λ (d : ℕ). resolve s.tree w.follow d w.path) start;
  }
    where
      k : ℕ
      k = stop s.tree (start_of s p w.start w.path) w.follow w.path

      past : nat_lt k (length w.path) ≡ false → take k w.path ≡ w.path
      past not_less = take_all k w.path (ltb-false k (length w.path) not_less)

      is-whole : drop k w.path ≡ [] → nat_lt k (length w.path) ≡ false
      is-whole none = le-ltb k (length w.path) (omega (arith, ap length none, length-drop k w.path))

      end-by : (b : Bool) → nat_lt k (length w.path) ≡ b → resolve s.tree (if b then Last else w.follow) (start_directory s p w.start w.path) (take k w.path)
          ≡ (if b then resolve s.tree Last (start_of s p w.start w.path) (take k w.path) else resolve s.tree w.follow (start_of s p w.start w.path) w.path)
      end-by true is = ap (λ (d : ℕ). resolve s.tree Last d (take k w.path)) (sym start)
      end-by false is = ap₂ (λ (d : ℕ) (bs : Bytes). resolve s.tree w.follow d bs) (sym start) (past is)

  -- the prefix is the whole path
  arrived : (w : Walk) (x : PrefixEnd) → IsPrefixEnd s p w x → arrives w.path x ≡ true → x.end ≡ end_of s p w
  arrived w x holds arrives_there = holds.whole (nothing holds.rest (omega (arith, same (length x.path == length w.path) arrives_there refl, ap length holds.prefix, length-append x.path holds.rest)))
    where
      same : (b : Bool) → b && is_ok x.end ≡ true → (length x.path == length w.path) ≡ b → length x.path ≡ length w.path
      same true ok is = eqb-true (length x.path) (length w.path) is
      same false ok is = cc ok

      nothing : (bs : Bytes) → length bs ≡ 0 → bs ≡ []
      nothing [] none = refl
      nothing (b ∷ bs) none = absurd (omega (arith, none))

  -- ---- reasons

  module _ (call : Call) (e : Errno) where
    walks-hold : (ws : List Walk) → walks_of call ≡ ws → AllBegin ws → ReasonHolds s p call e (walks_reason s p call e ws)
    walks-hold [] is begin = refl
    walks-hold (w ∷ []) is begin = (w, subst (λ (xs : List Walk). Contains xs w) (sym is) (0, omega arith, refl), prefix-holds w begin.0)
    walks-hold (w ∷ v ∷ ws) is begin = by (arrives w.path (walk_prefix s p w)) refl
      where
        by : (b : Bool) → arrives w.path (walk_prefix s p w) ≡ b → ReasonHolds s p call e (if b then two_paths (walk_prefix s p w) (walk_prefix s p v) else one_path (walk_prefix s p w))
        by true there = (w, v, ws, is, prefix-holds w begin.0, arrived w (walk_prefix s p w) (prefix-holds w begin.0) there, prefix-holds v begin.1.0)
        by false nowhere = (w, subst (λ (xs : List Walk). Contains xs w) (sym is) (0, omega arith, refl), prefix-holds w begin.0)

    path-holds : (is_of_path call e ≡ true → AllBegin (walks_of call)) → ReasonHolds s p call e (path_reason s p call e)
    path-holds begin = by (is_of_path call e) refl
      where
        by : (b : Bool) → is_of_path call e ≡ b → ReasonHolds s p call e (if b then walks_reason s p call e (walks_of call) else words_reason call e)
        by true of_path = walks-hold (walks_of call) refl (begin of_path)
        by false other = refl

    file-holds : (d : ℤ) (o : Option (ℕ × OpenFile)) → descriptor_used call e ≡ Some d → open_file s p d ≡ o → ReasonHolds s p call e (file_reason s p call e d o)
    file-holds d None used none = (used, none)
    file-holds d (Some (k, file)) used at = by (misfits s.tree call e file.node file.mode) refl
      where
        by : (b : Bool) → misfits s.tree call e file.node file.mode ≡ b → ReasonHolds s p call e (if b then open_descriptor d file.node file.mode else path_reason s p call e)
        by true misfit = (k, file, used, at, refl, refl, misfit)
        by false fits = path-holds (λ of_path. all-begin call (λ start path f same.
            used-begins e start path f d k file (sym (ap (λ (c : Call). descriptor_used c e) same) ∙ used) at
            (sym (ap (λ (c : Call). misfits s.tree c e file.node file.mode) same) ∙ fits)))

    used-holds : (o : Option ℤ) → descriptor_used call e ≡ o → ReasonHolds s p call e (descriptor_reason s p call e o)
    used-holds None unused = path-holds (λ of_path. all-begin call (λ start path f same.
        unused-begins e start path f (sym (ap (λ (c : Call). descriptor_used c e) same) ∙ unused) (sym (ap (λ (c : Call). is_of_path c e) same) ∙ of_path)))
    used-holds (Some d) used = file-holds d (open_file s p d) used refl

  -- ---- arguments

  -- an unknown keyword of an argument
  record IsUnknownIn (o : Option Bytes) (word : Bytes) : Type 0 where
    text : Bytes
    argument : o ≡ Some text
    among : Contains (keywords text) word
    unknown : promise_of word ≡ None

  keyword-of : (o : Option Bytes) (word : Bytes) → unknown_in o ≡ Some word → IsUnknownIn o word
  keyword-of None word is = let bad : None ≡ Some word = is in absurd (cc bad)
  keyword-of (Some text) word is =
      let found = find-holds (λ w. is_none (promise_of w)) (keywords text) word is in
      record { text = text; argument = refl; among = found.0; unknown = is-none (promise_of word) found.1 }

  module _ (e : Errno) (r : Reason) where
    keyword-holds : (a b o q : Option Bytes) → unknown_in a ≡ o → unknown_in b ≡ q → option_map unknown_keyword (option_or o q) ≡ Some r → ReasonHolds s p (Pledge a b) e r
    keyword-holds a b (Some word) q i j is =
        let k : IsUnknownIn a word = keyword-of a word i in
        let same : unknown_keyword word ≡ r = cc is in subst (ReasonHolds s p (Pledge a b) e) same (k.text, inl k.argument, k.among, k.unknown)
    keyword-holds a b None (Some word) i j is =
        let k : IsUnknownIn b word = keyword-of b word j in
        let same : unknown_keyword word ≡ r = cc is in subst (ReasonHolds s p (Pledge a b) e) same (k.text, inr k.argument, k.among, k.unknown)
    keyword-holds a b None None i j is = let bad : None ≡ Some r = is in cc bad

    permission-holds : (path text : Bytes) (o : Option ℕ) → unknown_byte text ≡ o → option_map unknown_permission o ≡ Some r → ReasonHolds s p (Unveil (Some path) (Some text)) e r
    permission-holds path text (Some b) i is =
        let found = find-holds (λ x. is_none (permission_of x)) text b i in
        let same : unknown_permission b ≡ r = cc is in
        subst (ReasonHolds s p (Unveil (Some path) (Some text)) e) same (path, text, refl, found.0, is-none (permission_of b) found.1)
    permission-holds path text None i is = let bad : None ≡ Some r = is in cc bad

    link-holds : (text path : Bytes) (b : Bool) → (if b then None else Some (words_reason (Symlink text path) e)) ≡ Some r → ReasonHolds s p (Symlink text path) e r
    link-holds text path true is = cc is
    link-holds text path false is = let same : words_reason (Symlink text path) e ≡ r = cc is in subst (ReasonHolds s p (Symlink text path) e) same refl

    argument-holds : (c : Call) → argument_reason c e ≡ Some r → ReasonHolds s p c e r
    argument-holds (Pledge a b) is = keyword-holds a b (unknown_in a) (unknown_in b) refl refl is
    argument-holds (Unveil (Some path) (Some text)) is = permission-holds path text (unknown_byte text) refl is
    argument-holds (Symlink text path) is = link-holds text path (is_valid_link text) is
    argument-holds c is = cc is

pub reasons-hold : (s : State) (p : Process) (call : Call) (e : Errno) → ReasonHolds s p call e (error_reason s p call e)
unfolding error_reason
reasons-hold s p call e = by (argument_reason call e) refl
  where
    by : (o : Option Reason) → argument_reason call e ≡ o → ReasonHolds s p call e (unwrap_or o (descriptor_reason s p call e (descriptor_used call e)))
    by (Some r) is = argument-holds s p e r call is
    by None none = used-holds s p call e (descriptor_used call e) refl
