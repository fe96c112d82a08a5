-- Calls in two states that are related by a renumbering of open files.
use Rattle.std.proofs.Common.{◌≡◌, ◌≢◌, ℕ, zero, suc, ℤ, pos, negsuc, Bool, true, false, nat_le, List, Option, None, Some, is_some, option_map, refl, ap, sym, subst, ◌∙◌, inl, ⊎_elim, Ok}
use Rattle.std.proofs.lemmas.Bool.{cases_eq}
use Rattle.std.specs.FinMap.Entries.{put, where_key}
use Rattle.std.specs.Ordering.{nat_cmp}
use Rattle.pv_model.specs.declared.call.Call.{Call}
use Rattle.pv_model.specs.declared.open_flags.OpenFlags.{OpenFlags}
use Rattle.pv_model.specs.Machine.{effect, Attempt, Bytes, without_descriptor, after_write, list_name, new_open_file, with_open_file, child, with_program, Effect, returns, answers, with_room, descriptor_at, open_file, Numbered, at_number, with_number, least_free, OpenFile, Descriptor, Program, Process, ProcessRecord, live, State, with_process, Tree, walk, judge, end_of, judgement, answers_bytes, status, resolve, ◌>>=◌, ◌>>◌, Walk}
use Rattle.pv_laws_trees.proofs.NumberedMaps.{at_number-below, with_number-same, with_number-other, with_number-same_within, with_number-other_within, least_free-within, least_free-free}
use Rattle.pv_laws_states.proofs.ValidByFile.{open_file-at}
use Rattle.pv_laws_states.proofs.CallRemainders
use Rattle.pv_laws_states.proofs.RelatedAttempts.{AreBoth, KeptByAll, kept-by-checks, all-then, all-bind, both-kept, both-done}
use Rattle.pv_laws_states.proofs.RelatedCalls.{BothHave, AreOnSame, Opened, RespectsProcesses, RespectsOwn, RespectsFiles, RespectsTree, RespectsRoom, call-both}
use Rattle.pv_laws_states.proofs.RespectedParts.{walked-alike, twice-alike, pledge-both, unveil-both, execve-both, starts-alike}
use Rattle.pv_laws_classes.specs.Renumbering.{renumbered_descriptor, renumbered_descriptors, renumbered_process, renumbered_processes}
use Rattle.pv_laws_classes.proofs.RenumberedAttempts.{both-room}
use Rattle.pv_laws_classes.proofs.RenumberedFiles.{put-matches, full-matches, renumbering, renumbering-new, renumbering-old, new-matches}
use Rattle.pv_laws_classes.proofs.RenumberedLists.{length-renumbered, put-renumbered, where-renumbered, children-renumbered, descriptor-put, descriptor-gone, descriptor-free, descriptor-exec, Uses, uses-with, uses-without, uses-exec, uses-put, uses-where, uses-weaker, each-weaker, agree-descriptors, agree-processes}
use Rattle.pv_laws_classes.proofs.RenumberedDescriptors.{descriptor-same, descriptor-opens, opened-same}
use Rattle.pv_laws_classes.proofs.RenumberedStates.{IsPresent, renumbered, Fits, AreRelated, related}
use Rattle.pv_model.specs.declared.place.Place.{Place}
use Rattle.pv_model.specs.declared.judgement.Judgement.TheVariants.{Allowed}

module _ (f : ℕ → ℕ) (gs : Numbered OpenFile) (s : State) (pid : ℕ) (me : Process) (fits : Fits f gs s) (mine : Uses (IsPresent s.files) me.descriptors) where
  abbrev u : State
  u = renumbered f gs s

  abbrev you : Process
  you = renumbered_process f me

  abbrev B : Attempt Effect → Attempt Effect → Type 0
  B = AreBoth AreRelated

  all : KeptByAll B
  all = both-kept AreRelated

  -- ---- the next states

  -- another tree
  tree-both : (t : Tree) → AreRelated (record s { tree = t }) (record u { tree = t })
  tree-both t = related f gs (record s { tree = t }) (record { matches = fits.matches; opens = fits.opens })

  -- another process, which uses open files
  own-both : (n : ℕ) (q : Process) → Uses (IsPresent s.files) q.descriptors → (es : Numbered Descriptor) → es ≡ renumbered_descriptors f q.descriptors
      → AreRelated (with_process s n q) (with_process u n (record (renumbered_process f q) { descriptors = es }))
  own-both n q uses es same = record {
    f = f;
    files = gs;
    same = ap (λ xs. with_process u n (record (renumbered_process f q) { descriptors = xs })) same ∙ ap (λ ps. record s { files = gs; processes = ps }) (put-renumbered f n (live q) s.processes);
    fits = record { matches = fits.matches; opens = uses-put (IsPresent s.files) n (live q) s.processes uses fits.opens };
  }

  -- the caller, with the same descriptors
  mine-both : (q : Process) → q.descriptors ≡ me.descriptors → AreRelated (with_process s pid q) (with_process u pid (renumbered_process f q))
  mine-both q same = own-both pid q (subst (Uses (IsPresent s.files)) (sym same) mine) (renumbered_descriptors f q.descriptors) refl

  forked-both : AreRelated (record (with_process s (suc s.last_process) (child s pid me)) { last_process = suc s.last_process }) (record (with_process u (suc s.last_process) (child u pid you)) { last_process = suc s.last_process })
  forked-both = record {
    f = f;
    files = gs;
    same = ap (λ ps. record s { files = gs; processes = ps; last_process = suc s.last_process }) (put-renumbered f (suc s.last_process) (live (child s pid me)) s.processes);
    fits = record { matches = fits.matches; opens = uses-put (IsPresent s.files) (suc s.last_process) (live (child s pid me)) s.processes mine fits.opens };
  }

  reaped : (test : ℕ → Bool) → AreRelated (record s { processes = where_key nat_cmp test s.processes }) (record u { processes = where_key nat_cmp test (renumbered_processes f s.processes) })
  reaped test = record {
    f = f;
    files = gs;
    same = ap (λ ps. record s { files = gs; processes = ps }) (where-renumbered f test s.processes);
    fits = record { matches = fits.matches; opens = uses-where (IsPresent s.files) test s.processes fits.opens };
  }

  closed : (d : ℤ) → AreRelated (with_process s pid (record me { descriptors = without_descriptor me.descriptors d })) (with_process u pid (record you { descriptors = without_descriptor you.descriptors d }))
  closed (pos d) = own-both pid (record me { descriptors = without_descriptor me.descriptors (pos d) }) (uses-without (IsPresent s.files) me.descriptors d mine) _ (descriptor-gone f me.descriptors d)
  closed (negsuc d) = mine-both me refl

  duplicated : (n : ℕ) (v : Descriptor) → IsPresent s.files v.file
      → AreRelated (with_process s pid (record me { descriptors = with_number me.descriptors n v })) (with_process u pid (record you { descriptors = with_number you.descriptors n (renumbered_descriptor f v) }))
  duplicated n v there = own-both pid (record me { descriptors = with_number me.descriptors n v }) (uses-with (IsPresent s.files) me.descriptors n v mine there) _ (descriptor-put f me.descriptors n v)

  begun : (program : Program) → AreRelated (with_process s pid (with_program s pid me program)) (with_process u pid (with_program u pid you program))
  begun program = own-both pid (with_program s pid me program) (uses-exec (IsPresent s.files) me.descriptors mine) _ (descriptor-exec f me.descriptors)

  -- an open file is replaced
  put-both : (k : ℕ) (old : OpenFile) → at_number s.files k ≡ Some old → (t : Tree) (new : OpenFile) → AreRelated (record s { tree = t; files = with_number s.files k new }) (record u { tree = t; files = with_number gs (f k) new })
  put-both k old at t new = record {
    f = f;
    files = with_number gs (f k) new;
    same = refl;
    fits = record {
      matches = put-matches f s.files gs fits.matches k old new at;
      opens = each-weaker (IsPresent s.files) (IsPresent (with_number s.files k new)) stays s.processes fits.opens;
    };
  }
    where
      stays : (n : ℕ) → IsPresent s.files n → IsPresent (with_number s.files k new) n
      stays n is =
          let below = at_number-below s.files k old at in
          ⊎_elim (λ here. ap (λ m. is_some (at_number (with_number s.files k new) m)) here ∙ ap is_some (with_number-same s.files k new below))
          (λ away. ap is_some (with_number-other s.files k new n below away) ∙ is) (cases_eq n k)

  abbrev a : ℕ
  a = least_free s.files

  abbrev b : ℕ
  b = least_free gs

  -- an open file is made
  module _ (room : nat_le 128 a ≡ false) where
    module _ (flags : OpenFlags) (n : ℕ) (t : Tree) where
      abbrev new : OpenFile
      new = new_open_file flags n

      -- the numbering after the open
      abbrev g : ℕ → ℕ
      g = renumbering f s.files gs fits.matches new room

      abbrev P : ℕ → Type 0
      P = IsPresent s.files

      abbrev Q : ℕ → Type 0
      Q = IsPresent (with_number s.files a new)

      agree : (m : ℕ) → P m → g m ≡ f m
      agree = renumbering-old f s.files gs fits.matches new room

      stays : (m : ℕ) → P m → Q m
      stays m is =
          let other : m ≢ a = λ here. let none : is_some (at_number s.files m) ≡ false = ap (λ k. is_some (at_number s.files k)) here ∙ ap is_some (least_free-free s.files) in cc (sym is ∙ none) in
          ap is_some (with_number-other_within s.files a new m (least_free-within s.files) other) ∙ is

      -- the descriptor of the open file with a number
      abbrev for_file : ℕ → Descriptor
      for_file k = record { file = k; close_on_exec = flags.close_on_exec }

      abbrev ds : Numbered Descriptor
      ds = me.descriptors

      abbrev l : ℕ
      l = least_free me.descriptors

      -- the caller after the open
      abbrev q : Process
      q = record me { descriptors = with_number ds l (for_file a) }

      descriptors-new : with_number (renumbered_descriptors f ds) (least_free (renumbered_descriptors f ds)) (for_file b) ≡ renumbered_descriptors g (with_number ds l (for_file a))
      descriptors-new =
          ap (λ m. with_number (renumbered_descriptors f ds) m (for_file b)) (descriptor-free f ds)
          ∙ ap (λ xs. with_number xs l (for_file b)) (sym (agree-descriptors P f g agree ds mine))
          ∙ ap (λ k. with_number (renumbered_descriptors g ds) l (for_file k)) (sym (renumbering-new f s.files gs fits.matches new room))
          ∙ descriptor-put g ds l (for_file a)

      abbrev opened : List (ℕ × ProcessRecord) → State
      opened ps = record s { tree = t; files = with_number gs b new; processes = ps }

      uses-new : Uses Q q.descriptors
      uses-new = uses-with Q ds l (for_file a) (uses-weaker P Q stays ds mine) (ap is_some (with_number-same_within s.files a new (least_free-within s.files)))

      pub opened-both : AreRelated (with_open_file s pid me flags n t) (with_open_file u pid you flags n t)
      opened-both = record {
        f = g;
        files = with_number gs b new;
        same =
            ap (λ xs. opened (put nat_cmp pid (live (record me { descriptors = xs })) (renumbered_processes f s.processes))) descriptors-new
            ∙ ap (λ ps. opened (put nat_cmp pid (live (renumbered_process g q)) ps)) (sym (agree-processes P f g agree s.processes fits.opens))
            ∙ ap opened (put-renumbered g pid (live q) s.processes);
        fits = record {
          matches = new-matches f s.files gs fits.matches new room;
          opens = uses-put Q pid (live q) s.processes uses-new (each-weaker P Q stays s.processes fits.opens);
        };
      }

  -- ---- the parts of a call

  opens : (d : ℤ) → BothHave AreOnSame (open_file s me d) (open_file u you d)
  opens d = subst (BothHave AreOnSame (open_file s me d)) (sym (opened-same f gs s pid me fits mine d)) (by (open_file s me d))
    where
      by : (o : Option (ℕ × OpenFile)) → BothHave AreOnSame o (option_map (λ (x : ℕ × OpenFile). (f x.0, x.1)) o)
      by None = tt
      by (Some v) = record { node = refl; mode = refl }

  module _ (program_of : Bytes → Option Program) (call : Call) where
    abbrev ws_B : List Walk → Attempt Effect → Attempt Effect → Type 0
    ws_B ws = B

    -- the open file of a descriptor has another number
    moved : (P : ℕ × OpenFile → ℕ × OpenFile → Type 0) (d : ℤ) (v w : ℕ × OpenFile) → Opened ws_B program_of s u pid me you call d v w
        → ((k : ℕ) (x : OpenFile) → at_number s.files k ≡ Some x → P (k, x) (f k, x)) → P v w
    moved P d v w opened is =
        let both : Some (f v.0, v.1) ≡ Some w = sym (opened-same f gs s pid me fits mine d ∙ ap (option_map (λ (x : ℕ × OpenFile). (f x.0, x.1))) opened.here) ∙ opened.there in
        let same : ◌≡◌ {A = ℕ × OpenFile} (f v.0, v.1) w = cc both in
        subst (P v) same (is v.0 v.1 (open_file-at s me d v.0 v.1 opened.here))

    done-both : (n : ℕ) (x y : State) → AreRelated x y → B (answers x n) (answers y n)
    done-both n x y is = both-done AreRelated 0 (returns n) x y is

    walked-both : (w : Walk) (g h : Place → Attempt Effect) → ((place : Place) → end_of s me w ≡ Ok place → judgement s.tree me.table place w.needed ≡ Allowed → B (g place) (h place))
        → B (walk s me w >>= (λ place. judge s me w place >> g place)) (walk u you w >>= (λ place. judge u you w place >> h place))
    walked-both w = walked-alike B all s u pid me you (λ place needed. refl) w (ap (λ n. resolve s.tree w.follow n w.path) (starts-alike s u me you refl opens w.start w.path))

    processes : RespectsProcesses ws_B program_of s u pid me you call
    processes =
        let kids = children-renumbered f pid s.processes in
        record {
          left = λ r. both-done AreRelated 0 r s u (related f gs s fits);
          parent = refl;
          count = length-renumbered f s.processes;
          last = refl;
          forks = both-done AreRelated 0 _ _ _ forked-both;
          childless = kids.1;
          statuses = kids.0;
          reaps = λ n bytes. both-done AreRelated 0 _ _ _ (reaped _);
        }

    abbrev Doubles : Descriptor → Descriptor → Type 0
    Doubles v w =
        (n : ℕ) → B (answers (with_process s pid (record me { descriptors = with_number me.descriptors n (record { file = v.file; close_on_exec = false }) })) n)
        (answers (with_process u pid (record you { descriptors = with_number you.descriptors n (record { file = w.file; close_on_exec = false }) })) n)

    doubles : (d : ℤ) → BothHave Doubles (descriptor_at me d) (descriptor_at you d)
    doubles d = subst (BothHave Doubles (descriptor_at me d)) (sym (descriptor-same f gs s pid me fits mine d)) (by (descriptor_at me d) refl)
      where
        by : (o : Option Descriptor) → descriptor_at me d ≡ o → BothHave Doubles o (option_map (renumbered_descriptor f) o)
        by None at = tt
        by (Some v) at = λ n. done-both n _ _ (duplicated n (record { file = v.file; close_on_exec = false }) (descriptor-opens f gs s pid me fits mine d v at))

    own : RespectsOwn ws_B program_of s u pid me you call
    own = record {
      enters = λ n. done-both 0 _ _ (mine-both (record me { directory = n }) refl);
      closes = λ d. done-both 0 _ _ (closed d);
      free = descriptor-free f me.descriptors;
      duplicates = doubles;
      pledges = λ promises execpromises is. pledge-both B all s u pid me you refl refl (λ x y. done-both 0 _ _ (mine-both (record me { promises = x; execpromises = y }) refl)) promises execpromises;
      unveils = λ path permissions is. unveil-both B all s u pid me you refl refl (λ path. refl) (λ place. refl) (done-both 0 _ _ (mine-both (record me { locked = true }) refl))
          (λ table. done-both 0 _ _ (mine-both (record me { table = Some table }) refl)) path permissions;
      executes = λ path is. execve-both B all s u pid me you program_of walked-both (λ n. refl) (λ program. done-both 0 _ _ (begun program)) path;
    }

    listed : (k : ℕ) (x : OpenFile) → at_number s.files k ≡ Some x → (o : Option Bytes) → B (list_name s pid me k x o) (list_name u pid you (f k) x o)
    listed k x at None = both-done AreRelated 0 _ s u (related f gs s fits)
    listed k x at (Some name) = both-done AreRelated 0 _ _ _ (put-both k x at s.tree _)

    written : (k : ℕ) (x : OpenFile) → at_number s.files k ≡ Some x → (count : ℕ) → AreRelated (after_write s pid me k x count) (after_write u pid you (f k) x count)
    written k x at zero = related f gs s fits
    written k x at (suc n) = put-both k x at _ _

    files : RespectsFiles ws_B program_of s u pid me you call
    files = record {
      opened = opens;
      full = full-matches f s.files gs fits.matches;
      reads = λ d n is v w opened may count. moved (λ v w. B (CallRemainders.read_2 s pid me v.0 v.1 count) (CallRemainders.read_2 u pid you w.0 w.1 count)) d v w opened (λ k x at.
          all-then B all _ _ refl (CallRemainders.read_3 s pid me k x count) (CallRemainders.read_3 u pid you (f k) x count) (both-done AreRelated 0 _ _ _ (put-both k x at s.tree _)));
      writes = λ d n is v w opened may count few. moved (λ v w. B (CallRemainders.write_2 s pid me v.0 v.1 count) (CallRemainders.write_2 u pid you w.0 w.1 count)) d v w opened (λ k x at.
          all-then B all _ _ refl (CallRemainders.write_3 s pid me k x count) (CallRemainders.write_3 u pid you (f k) x count) (both-room _ _ count (written k x at count)));
      seeks = λ d by whence is v w opened. moved (λ v w. B (CallRemainders.lseek_2 s pid me by whence v.0 v.1) (CallRemainders.lseek_2 u pid you by whence w.0 w.1)) d v w opened (λ k x at.
          all-bind B all _ _ refl (CallRemainders.lseek_3 s pid me k x) (CallRemainders.lseek_3 u pid you (f k) x) (λ offset. both-done AreRelated 0 _ _ _ (put-both k x at s.tree _)));
      reports = λ d is v w opened. moved (λ v w. B (answers_bytes s 0 (status s.tree v.1.node)) (answers_bytes u 0 (status u.tree w.1.node))) d v w opened
          (λ k x at. both-done AreRelated 0 _ s u (related f gs s fits));
      cuts = λ d n is v w opened size. moved (λ v w. B (CallRemainders.ftruncate_3 s pid me v.1 size) (CallRemainders.ftruncate_3 u pid you w.1 size)) d v w opened (λ k x at.
          all-then B all _ _ refl (CallRemainders.ftruncate_4 s pid me x size) (CallRemainders.ftruncate_4 u pid you x size) (both-room _ _ 0 (tree-both _)));
      lists = λ d is v w opened. moved (λ v w. B (CallRemainders.getdents_2 s pid me v.0 v.1) (CallRemainders.getdents_2 u pid you w.0 w.1)) d v w opened (λ k x at. listed k x at _);
    }

    tree : RespectsTree ws_B program_of s u pid me you call
    tree = record {
      nodes = λ n. inl refl;
      contains = λ n d. refl;
      walked = walked-both;
      walked_twice = twice-alike B s u pid me you walked-both;
      stats = λ path is place found allowed n there. both-done AreRelated 0 _ s u (related f gs s fits);
      lstats = λ path is place found allowed n there. both-done AreRelated 0 _ s u (related f gs s fits);
      unlinks = λ p. done-both 0 _ _ (tree-both _);
    }

    -- the number of the new descriptor is the same
    made : (x y : State) → AreRelated x y → B (CallRemainders.open_7 s pid me x) (CallRemainders.open_7 u pid you y)
    made x y is = subst (λ m. B (CallRemainders.open_7 s pid me x) (with_room y >>= (λ z. answers z m))) (sym (descriptor-free f me.descriptors)) (both-room x y (least_free me.descriptors) is)

    room : RespectsRoom ws_B program_of s u pid me you call
    room = record {
      makes = λ w node walks here bare place found free p named. both-room _ _ 0 (tree-both _);
      links = λ path new is place found free n p named. both-room _ _ 0 (tree-both _);
      moves = λ path new is old_place new_place old_found found n p q there old_named named other. both-room _ _ 0 (tree-both _);
      opens = λ start path flags place it n is. made _ _ (opened-both it.free flags n _);
      creates = λ start path flags place it p named is. made _ _ (opened-both it.free flags _ _);
    }

    pub calls-both : B (effect program_of s pid me call) (effect program_of u pid you call)
    calls-both = call-both ws_B program_of s u pid me you call (record { checks = kept-by-checks B all; processes = processes; own = own; files = files; tree = tree; room = room })
