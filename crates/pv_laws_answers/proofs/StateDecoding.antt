-- The numbers of a state can be decoded, so they determine the state.
use Rattle.std.proofs.Common.{◌≡◌, ◌∙◌, sym, ap, refl, ℕ, zero, suc, List, [], ◌∷◌, ◌++◌, length, Option, None, Some, append_assoc, append-nil, subst}
use Rattle.std.specs.Prelude.{ℤ, pos, negsuc, Bool, true, false, flat_map, slice_get, bytes_eq, IsTrue, ◌↔◌}
use Rattle.pv_model.specs.declared.call.Whence.{Whence}
use Rattle.pv_model.specs.declared.call.Whence.TheVariants.{Set as FromStart, Current as FromHere, End as FromEnd}
use Rattle.pv_model.specs.declared.instruction.Instruction.{Instruction}
use Rattle.pv_model.specs.declared.instruction.Instruction.TheVariants.{Set, Add, Put, Peek, Jump, JumpIfZero, JumpIfNotZero, JumpIfNegative, Exit, GetPid, GetPpid, Fork, Wait, Pledge, Unveil, Execve, Open, OpenAt, Close, Dup, Dup2, Read, Write, Lseek, Fstat, Ftruncate, Getdents, Fchdir, Chdir, Stat, Lstat, Readlink, Mkdir, Symlink, Link, Unlink, Rmdir, Rename}
use Rattle.pv_model.specs.declared.instruction.Operand.{Operand}
use Rattle.pv_model.specs.declared.instruction.Operand.TheVariants.{Number, Register}
use Rattle.pv_model.specs.declared.instruction.Origin.{Origin}
use Rattle.pv_model.specs.declared.instruction.Origin.TheVariants.{WorkingDirectory, Descriptor as AtDescriptor}
use Rattle.pv_model.specs.declared.open_flags.Mode.{Mode}
use Rattle.pv_model.specs.declared.open_flags.Mode.TheVariants.{Read as ForReading, Write as ForWriting, ReadWrite}
use Rattle.pv_model.specs.declared.open_flags.OpenFlags.{OpenFlags}
use Rattle.pv_model.specs.declared.perms.Perms.{Perms}
use Rattle.pv_model.specs.declared.target.Target.{Target}
use Rattle.pv_model.specs.declared.target.Target.TheVariants.{Directory, Name}
use Rattle.pv_model.specs.declared.version.Version.{Version}
use Rattle.pv_model.specs.declared.version.Version.TheVariants.{V1, V2}
use Rattle.pv_model.specs.Machine.{Numbers, bool_numbers, number_numbers, integer_numbers, option_numbers, list_numbers, bytes_numbers, instruction_numbers, descriptor_numbers, entry_numbers, tree_numbers, file_numbers, state_numbers, same_state, Bytes, OpenFile, Descriptor, Process, ProcessRecord, live, ended_record, State, Node, directory_node, file_node, link_node, Tree}
use Rattle.pv_model.specs.Answers.Numbers.{mode_numbers, whence_numbers, flags_numbers, operand_numbers, origin_numbers, text_numbers, target_numbers, permissions_numbers, process_numbers, record_numbers, name_numbers, node_numbers, version_numbers}
use Rattle.pv_laws_trees.proofs.DirectoryEntries.{bytes_eq-same, bytes_eq-itself}

-- a decoded value, and the remaining numbers
abbrev Reading : Type 0 → Type 0
Reading X = Option (X × Numbers)

abbrev and_read : {X Y : Type 0} → Reading X → (X → Numbers → Option Y) → Option Y
and_read None next = None
and_read (Some p) next = next p.0 p.1

-- a decoder of the value encoded at the start of numbers
record Reads {X : Type 0} (numbers : X → Numbers) : Type 0 where
  pub read : Numbers → Reading X
  pub back : (x : X) (rest : Numbers) → read (numbers x ++ rest) ≡ Some (x, rest)

-- a decoder for a value of another type
abbrev mapped : {X Y : Type 0} → (X → Y) → Reading X → Reading Y
mapped f None = None
mapped f (Some p) = Some (f p.0, p.1)

-- a decoder for one of several cases, chosen by the first number
abbrev by_reader : {X : Type 0} → Option (Numbers → Reading X) → Numbers → Reading X
by_reader None ns = None
by_reader (Some read) ns = read ns

abbrev tagged : {X : Type 0} → List (Numbers → Reading X) → Numbers → Reading X
tagged readers [] = None
tagged readers (k ∷ ns) = by_reader (slice_get readers k) ns

abbrev just : {X : Type 0} → X → Numbers → Reading X
just x ns = Some (x, ns)

-- ---- parts

abbrev number_of : Numbers → Reading ℕ
number_of [] = None
number_of (n ∷ rest) = Some (n, rest)

reads_number : Reads number_numbers
reads_number = record { read = number_of; back = λ n rest. refl }

module _ {X Y : Type 0} {f : X → Numbers} {g : Y → Numbers} (one : Reads f) (two : Reads g) where
  abbrev read_both : Numbers → Reading (X × Y)
  read_both ns = and_read (one.read ns) (λ x rest. mapped (λ y. (x, y)) (two.read rest))

  back_both : (p : X × Y) (rest : Numbers) → read_both ((f p.0 ++ g p.1) ++ rest) ≡ Some (p, rest)
  back_both p rest = rw (append_assoc, one.back p.0 (g p.1 ++ rest), two.back p.1 rest) refl

  -- two values in sequence
  reads_both : Reads {X = X × Y} (λ p. f p.0 ++ g p.1)
  reads_both = record { read = read_both; back = back_both }

module _ {X Y : Type 0} {f : X → Numbers} (one : Reads f) (to : Y → X) (from : X → Y) (same : (y : Y) → from (to y) ≡ y) where
  -- a value that is constructed from another
  reads_by : Reads (λ y. f (to y))
  reads_by = record { read = λ ns. mapped from (one.read ns); back = λ y rest. ap (mapped from) (one.back (to y) rest) ∙ ap (λ z. Some (z, rest)) (same y) }

module _ {X : Type 0} {f : X → Numbers} (one : Reads f) where
  abbrev read_many : ℕ → Numbers → Reading (List X)
  read_many zero ns = Some ([], ns)
  read_many (suc n) ns = and_read (one.read ns) (λ x rest. mapped (λ xs. x ∷ xs) (read_many n rest))

  back_many : (xs : List X) (rest : Numbers) → read_many (length xs) (flat_map f xs ++ rest) ≡ Some (xs, rest)
  back_many [] rest = refl
  back_many (x ∷ xs) rest = rw (append_assoc, one.back x (flat_map f xs ++ rest), back_many xs rest) refl

  abbrev read_list : Numbers → Reading (List X)
  read_list [] = None
  read_list (n ∷ ns) = read_many n ns

  reads_list : Reads (list_numbers f)
  reads_list = record { read = read_list; back = back_many }

  abbrev option_readers : List (Numbers → Reading (Option X))
  option_readers = just None ∷ (λ ns. mapped Some (one.read ns)) ∷ []

  back_option : (o : Option X) (rest : Numbers) → tagged option_readers (option_numbers f o ++ rest) ≡ Some (o, rest)
  back_option None rest = refl
  back_option (Some x) rest = ap (mapped Some) (one.back x rest)

  reads_option : Reads (option_numbers f)
  reads_option = record { read = tagged option_readers; back = back_option }

abbrev read_bytes_of : ℕ → Numbers → Reading Bytes
read_bytes_of zero ns = Some ([], ns)
read_bytes_of (suc n) [] = None
read_bytes_of (suc n) (b ∷ ns) = mapped (λ bs. b ∷ bs) (read_bytes_of n ns)

back_bytes : (bytes : Bytes) (rest : Numbers) → read_bytes_of (length bytes) (bytes ++ rest) ≡ Some (bytes, rest)
back_bytes [] rest = refl
back_bytes (b ∷ bs) rest = ap (mapped (λ xs. b ∷ xs)) (back_bytes bs rest)

abbrev read_bytes : Numbers → Reading Bytes
read_bytes [] = None
read_bytes (n ∷ ns) = read_bytes_of n ns

reads_bytes : Reads bytes_numbers
reads_bytes = record { read = read_bytes; back = back_bytes }

abbrev bool_readers : List (Numbers → Reading Bool)
bool_readers = just false ∷ just true ∷ []

back_bool : (b : Bool) (rest : Numbers) → tagged bool_readers (bool_numbers b ++ rest) ≡ Some (b, rest)
back_bool false rest = refl
back_bool true rest = refl

reads_bool : Reads bool_numbers
reads_bool = record { read = tagged bool_readers; back = back_bool }

abbrev integer_readers : List (Numbers → Reading ℤ)
integer_readers = (λ ns. mapped pos (reads_number.read ns)) ∷ (λ ns. mapped negsuc (reads_number.read ns)) ∷ []

back_integer : (n : ℤ) (rest : Numbers) → tagged integer_readers (integer_numbers n ++ rest) ≡ Some (n, rest)
back_integer (pos n) rest = ap (mapped pos) (reads_number.back n rest)
back_integer (negsuc n) rest = ap (mapped negsuc) (reads_number.back n rest)

reads_integer : Reads integer_numbers
reads_integer = record { read = tagged integer_readers; back = back_integer }

-- ---- instructions

abbrev mode_readers : List (Numbers → Reading Mode)
mode_readers = just ForReading ∷ just ForWriting ∷ just ReadWrite ∷ []

back_mode : (m : Mode) (rest : Numbers) → tagged mode_readers (mode_numbers m ++ rest) ≡ Some (m, rest)
back_mode ForReading rest = refl
back_mode ForWriting rest = refl
back_mode ReadWrite rest = refl

reads_mode : Reads mode_numbers
reads_mode = record { read = tagged mode_readers; back = back_mode }

abbrev whence_readers : List (Numbers → Reading Whence)
whence_readers = just FromStart ∷ just FromHere ∷ just FromEnd ∷ []

back_whence : (w : Whence) (rest : Numbers) → tagged whence_readers (whence_numbers w ++ rest) ≡ Some (w, rest)
back_whence FromStart rest = refl
back_whence FromHere rest = refl
back_whence FromEnd rest = refl

reads_whence : Reads whence_numbers
reads_whence = record { read = tagged whence_readers; back = back_whence }

reads_flags : Reads flags_numbers
reads_flags =
    reads_by
    (reads_both (reads_both (reads_both (reads_both (reads_both (reads_both (reads_both reads_mode reads_bool) reads_bool) reads_bool) reads_bool) reads_bool) reads_bool) reads_bool)
    (λ (y : OpenFlags). (((((((y.mode, y.append), y.create), y.truncate), y.exclusive), y.no_follow), y.directory), y.close_on_exec))
    (λ q. record { mode = q.0.0.0.0.0.0.0; append = q.0.0.0.0.0.0.1; create = q.0.0.0.0.0.1; truncate = q.0.0.0.0.1; exclusive = q.0.0.0.1; no_follow = q.0.0.1; directory = q.0.1; close_on_exec = q.1 })
    (λ _. refl)

abbrev operand_readers : List (Numbers → Reading Operand)
operand_readers = (λ ns. mapped Number (reads_integer.read ns)) ∷ (λ ns. mapped Register (reads_number.read ns)) ∷ []

back_operand : (o : Operand) (rest : Numbers) → tagged operand_readers (operand_numbers o ++ rest) ≡ Some (o, rest)
back_operand (Number n) rest = ap (mapped Number) (reads_integer.back n rest)
back_operand (Register r) rest = ap (mapped Register) (reads_number.back r rest)

reads_operand : Reads operand_numbers
reads_operand = record { read = tagged operand_readers; back = back_operand }

abbrev origin_readers : List (Numbers → Reading Origin)
origin_readers = just WorkingDirectory ∷ (λ ns. mapped AtDescriptor (reads_operand.read ns)) ∷ []

back_origin : (o : Origin) (rest : Numbers) → tagged origin_readers (origin_numbers o ++ rest) ≡ Some (o, rest)
back_origin WorkingDirectory rest = refl
back_origin (AtDescriptor d) rest = ap (mapped AtDescriptor) (reads_operand.back d rest)

reads_origin : Reads origin_numbers
reads_origin = record { read = tagged origin_readers; back = back_origin }

reads_text : Reads text_numbers
reads_text = reads_option reads_bytes

module _ {A : Type 0} {f : A → Numbers} (one : Reads f) (make : A → Instruction) where
  abbrev with_one : Numbers → Reading Instruction
  with_one ns = mapped make (one.read ns)

  back_one : (a : A) (rest : Numbers) → with_one (f a ++ rest) ≡ Some (make a, rest)
  back_one a rest = ap (mapped make) (one.back a rest)

module _ {A B : Type 0} {f : A → Numbers} {g : B → Numbers} (one : Reads f) (two : Reads g) (make : A → B → Instruction) where
  abbrev with_two : Numbers → Reading Instruction
  with_two ns = mapped (λ p. make p.0 p.1) ((reads_both one two).read ns)

  back_two : (a : A) (b : B) (rest : Numbers) → with_two ((f a ++ g b) ++ rest) ≡ Some (make a b, rest)
  back_two a b rest = ap (mapped (λ p. make p.0 p.1)) ((reads_both one two).back (a, b) rest)

module _ {A B C : Type 0} {f : A → Numbers} {g : B → Numbers} {h : C → Numbers} (one : Reads f) (two : Reads g) (three : Reads h) (make : A → B → C → Instruction) where
  abbrev with_three : Numbers → Reading Instruction
  with_three ns = mapped (λ p. make p.0.0 p.0.1 p.1) ((reads_both (reads_both one two) three).read ns)

  back_three : (a : A) (b : B) (c : C) (rest : Numbers) → with_three ((f a ++ g b ++ h c) ++ rest) ≡ Some (make a b c, rest)
  back_three a b c rest = ap (mapped (λ p. make p.0.0 p.0.1 p.1)) ((reads_both (reads_both one two) three).back ((a, b), c) rest)

abbrev instruction_readers : List (Numbers → Reading Instruction)
instruction_readers =
    with_two reads_number reads_integer Set ∷
    with_two reads_number reads_integer Add ∷
    with_one reads_bytes Put ∷
    with_two reads_number reads_number Peek ∷
    with_one reads_number Jump ∷
    with_two reads_number reads_number JumpIfZero ∷
    with_two reads_number reads_number JumpIfNotZero ∷
    with_two reads_number reads_number JumpIfNegative ∷
    just Fork ∷
    just Wait ∷
    just GetPid ∷
    just GetPpid ∷
    with_one reads_operand Exit ∷
    with_one reads_operand Close ∷
    with_one reads_operand Dup ∷
    with_one reads_operand Fstat ∷
    with_one reads_operand Getdents ∷
    with_one reads_operand Fchdir ∷
    with_two reads_operand reads_operand Dup2 ∷
    with_two reads_operand reads_operand Read ∷
    with_two reads_operand reads_operand Write ∷
    with_two reads_operand reads_operand Ftruncate ∷
    with_three reads_operand reads_operand reads_whence Lseek ∷
    with_two reads_text reads_text Pledge ∷
    with_two reads_text reads_text Unveil ∷
    with_one reads_bytes Execve ∷
    with_one reads_bytes Chdir ∷
    with_one reads_bytes Stat ∷
    with_one reads_bytes Lstat ∷
    with_one reads_bytes Readlink ∷
    with_one reads_bytes Unlink ∷
    with_one reads_bytes Mkdir ∷
    with_one reads_bytes Rmdir ∷
    with_two reads_bytes reads_flags Open ∷
    with_three reads_origin reads_bytes reads_flags OpenAt ∷
    with_two reads_bytes reads_bytes Rename ∷
    with_two reads_bytes reads_bytes Link ∷
    with_two reads_bytes reads_bytes Symlink ∷
    []

abbrev read_instruction : Numbers → Reading Instruction
read_instruction ns = tagged instruction_readers ns

back_instruction : (i : Instruction) (rest : Numbers) → read_instruction (instruction_numbers i ++ rest) ≡ Some (i, rest)
unfolding instruction_numbers
back_instruction (Set r n) rest = back_two reads_number reads_integer Set r n rest
back_instruction (Add r n) rest = back_two reads_number reads_integer Add r n rest
back_instruction (Put bytes) rest = back_one reads_bytes Put bytes rest
back_instruction (Peek r k) rest = back_two reads_number reads_number Peek r k rest
back_instruction (Jump line) rest = back_one reads_number Jump line rest
back_instruction (JumpIfZero r line) rest = back_two reads_number reads_number JumpIfZero r line rest
back_instruction (JumpIfNotZero r line) rest = back_two reads_number reads_number JumpIfNotZero r line rest
back_instruction (JumpIfNegative r line) rest = back_two reads_number reads_number JumpIfNegative r line rest
back_instruction Fork rest = refl
back_instruction Wait rest = refl
back_instruction GetPid rest = refl
back_instruction GetPpid rest = refl
back_instruction (Exit code) rest = back_one reads_operand Exit code rest
back_instruction (Close d) rest = back_one reads_operand Close d rest
back_instruction (Dup d) rest = back_one reads_operand Dup d rest
back_instruction (Fstat d) rest = back_one reads_operand Fstat d rest
back_instruction (Getdents d) rest = back_one reads_operand Getdents d rest
back_instruction (Fchdir d) rest = back_one reads_operand Fchdir d rest
back_instruction (Dup2 d e) rest = back_two reads_operand reads_operand Dup2 d e rest
back_instruction (Read d n) rest = back_two reads_operand reads_operand Read d n rest
back_instruction (Write d n) rest = back_two reads_operand reads_operand Write d n rest
back_instruction (Ftruncate d n) rest = back_two reads_operand reads_operand Ftruncate d n rest
back_instruction (Lseek d by whence) rest = back_three reads_operand reads_operand reads_whence Lseek d by whence rest
back_instruction (Pledge promises execpromises) rest = back_two reads_text reads_text Pledge promises execpromises rest
back_instruction (Unveil path permissions) rest = back_two reads_text reads_text Unveil path permissions rest
back_instruction (Execve path) rest = back_one reads_bytes Execve path rest
back_instruction (Chdir path) rest = back_one reads_bytes Chdir path rest
back_instruction (Stat path) rest = back_one reads_bytes Stat path rest
back_instruction (Lstat path) rest = back_one reads_bytes Lstat path rest
back_instruction (Readlink path) rest = back_one reads_bytes Readlink path rest
back_instruction (Unlink path) rest = back_one reads_bytes Unlink path rest
back_instruction (Mkdir path) rest = back_one reads_bytes Mkdir path rest
back_instruction (Rmdir path) rest = back_one reads_bytes Rmdir path rest
back_instruction (Open path flags) rest = back_two reads_bytes reads_flags Open path flags rest
back_instruction (OpenAt origin path flags) rest = back_three reads_origin reads_bytes reads_flags OpenAt origin path flags rest
back_instruction (Rename path new) rest = back_two reads_bytes reads_bytes Rename path new rest
back_instruction (Link path new) rest = back_two reads_bytes reads_bytes Link path new rest
back_instruction (Symlink text path) rest = back_two reads_bytes reads_bytes Symlink text path rest

reads_instruction : Reads instruction_numbers
reads_instruction = record { read = read_instruction; back = back_instruction }

-- ---- processes

reads_descriptor : Reads descriptor_numbers
reads_descriptor = reads_by (reads_both reads_number reads_bool) (λ (d : Descriptor). (d.file, d.close_on_exec)) (λ q. record { file = q.0; close_on_exec = q.1 }) (λ _. refl)

abbrev name_of : ℕ × Bytes → Target
name_of p = Name p.0 p.1

abbrev target_readers : List (Numbers → Reading Target)
target_readers = (λ ns. mapped Directory (reads_number.read ns)) ∷ (λ ns. mapped name_of ((reads_both reads_number reads_bytes).read ns)) ∷ []

back_target : (t : Target) (rest : Numbers) → tagged target_readers (target_numbers t ++ rest) ≡ Some (t, rest)
back_target (Directory n) rest = ap (mapped Directory) (reads_number.back n rest)
back_target (Name d name) rest = ap (mapped name_of) ((reads_both reads_number reads_bytes).back (d, name) rest)

reads_target : Reads target_numbers
reads_target = record { read = tagged target_readers; back = back_target }

reads_permissions : Reads permissions_numbers
reads_permissions =
    reads_by
    (reads_both (reads_both (reads_both reads_bool reads_bool) reads_bool) reads_bool)
    (λ (y : Perms). (((y.r, y.w), y.x), y.c))
    (λ q. record { r = q.0.0.0; w = q.0.0.1; x = q.0.1; c = q.1 })
    (λ _. refl)

reads_entry : Reads entry_numbers
reads_entry = reads_both reads_target reads_permissions

reads_process : Reads process_numbers
unfolding process_numbers
reads_process =
    reads_by
    (reads_both (reads_both (reads_both (reads_both (reads_both (reads_both (reads_both (reads_both (reads_both (reads_both reads_number (reads_list reads_integer)) reads_number) reads_number) reads_bool) (reads_option reads_number)) (reads_option reads_number)) (reads_list (reads_option reads_descriptor))) (reads_option (reads_list reads_entry))) (reads_list reads_instruction)) reads_bytes)
    (λ (y : Process). ((((((((((y.line, y.registers), y.parent), y.directory), y.locked), y.promises), y.execpromises), y.descriptors), y.table), y.program), y.buffer))
    (λ q. record { line = q.0.0.0.0.0.0.0.0.0.0; registers = q.0.0.0.0.0.0.0.0.0.1; parent = q.0.0.0.0.0.0.0.0.1; directory = q.0.0.0.0.0.0.0.1; locked = q.0.0.0.0.0.0.1; promises = q.0.0.0.0.0.1; execpromises = q.0.0.0.0.1; descriptors = q.0.0.0.1; table = q.0.0.1; program = q.0.1; buffer = q.1 })
    (λ _. refl)

abbrev ended_from : ℕ × ℕ → ProcessRecord
ended_from q = ended_record q.0 q.1

abbrev inside_readers : List (Numbers → Reading ProcessRecord)
inside_readers = (λ ns. mapped live (reads_process.read ns)) ∷ (λ ns. mapped ended_from ((reads_both reads_number reads_number).read ns)) ∷ []

abbrev with_pid : ℕ → ProcessRecord → ℕ × ProcessRecord
with_pid pid r = (pid, r)

abbrev read_record : Numbers → Reading (ℕ × ProcessRecord)
read_record ns = and_read (number_of ns) (λ pid rest. mapped (with_pid pid) (tagged inside_readers rest))

back_record : (r : ℕ × ProcessRecord) (rest : Numbers) → read_record (record_numbers r ++ rest) ≡ Some (r, rest)
back_record (pid, live p) rest = ap (λ q. mapped (with_pid pid) (mapped live q)) (reads_process.back p rest)
back_record (pid, ended_record parent status) rest = ap (λ q. mapped (with_pid pid) (mapped ended_from q)) ((reads_both reads_number reads_number).back (parent, status) rest)

reads_record : Reads record_numbers
reads_record = record { read = read_record; back = back_record }

-- ---- the tree and open files

reads_name : Reads name_numbers
reads_name = reads_both reads_bytes reads_number

abbrev file_from : Bool × Bytes → Node
file_from q = file_node q.0 q.1

abbrev node_readers : List (Numbers → Reading Node)
node_readers =
    (λ ns. mapped directory_node ((reads_list reads_name).read ns)) ∷ (λ ns. mapped file_from ((reads_both reads_bool reads_bytes).read ns))
    ∷ (λ ns. mapped link_node (reads_bytes.read ns)) ∷ []

back_node : (n : Node) (rest : Numbers) → tagged node_readers (node_numbers n ++ rest) ≡ Some (n, rest)
back_node (directory_node es) rest = ap (mapped directory_node) ((reads_list reads_name).back es rest)
back_node (file_node executable bytes) rest = ap (mapped file_from) ((reads_both reads_bool reads_bytes).back (executable, bytes) rest)
back_node (link_node text) rest = ap (mapped link_node) (reads_bytes.back text rest)

reads_node : Reads node_numbers
reads_node = record { read = tagged node_readers; back = back_node }

abbrev version_readers : List (Numbers → Reading Version)
version_readers = just V1 ∷ just V2 ∷ []

back_version : (v : Version) (rest : Numbers) → tagged version_readers (version_numbers v ++ rest) ≡ Some (v, rest)
back_version V1 rest = refl
back_version V2 rest = refl

reads_version : Reads version_numbers
reads_version = record { read = tagged version_readers; back = back_version }

reads_tree : Reads tree_numbers
unfolding tree_numbers
reads_tree =
    reads_by
    (reads_both (reads_both (reads_both reads_version reads_number) reads_number) (reads_list (reads_option reads_node)))
    (λ (y : Tree). (((y.version, y.blocks), y.inodes), y.nodes))
    (λ q. record { version = q.0.0.0; blocks = q.0.0.1; inodes = q.0.1; nodes = q.1 })
    (λ _. refl)

reads_file : Reads file_numbers
reads_file =
    reads_by
    (reads_both (reads_both (reads_both (reads_both reads_number reads_mode) reads_bool) reads_number) (reads_option reads_bytes))
    (λ (y : OpenFile). ((((y.node, y.mode), y.append), y.offset), y.listed))
    (λ q. record { node = q.0.0.0.0; mode = q.0.0.0.1; append = q.0.0.1; offset = q.0.1; listed = q.1 })
    (λ _. refl)

-- ---- states

reads_state : Reads state_numbers
unfolding state_numbers
reads_state =
    reads_by
    (reads_both (reads_both (reads_both reads_number (reads_list reads_record)) (reads_list (reads_option reads_file))) reads_tree)
    (λ (y : State). (((y.last_process, y.processes), y.files), y.tree))
    (λ q. record { last_process = q.0.0.0; processes = q.0.0.1; files = q.0.1; tree = q.1 })
    (λ _. refl)

module _ {X : Type 0} {f : X → Numbers} (it : Reads f) where
  -- two values with the same numbers are equal
  same_by_numbers : (x y : X) → f x ≡ f y → x ≡ y
  same_by_numbers x y e = ap (found x) (sym (alone x) ∙ ap it.read e ∙ alone y)
    where
      alone : (z : X) → it.read (f z) ≡ Some (z, [])
      alone z = rw append-nil at (it.back z [])

      found : X → Reading X → X
      found z None = z
      found z (Some p) = p.0

pub same-state_numbers : (s other : State) → state_numbers s ≡ state_numbers other → s ≡ other
same-state_numbers s other e = same_by_numbers reads_state s other e

pub same-tree_numbers : (t other : Tree) → tree_numbers t ≡ tree_numbers other → t ≡ other
same-tree_numbers t other e = same_by_numbers reads_tree t other e

-- the test of two states decides equality
pub reported-apart : (s other : State) → IsTrue (same_state s other) ↔ (s ≡ other)
reported-apart s other =
    (λ same. same-state_numbers s other (bytes_eq-same (state_numbers s) (state_numbers other) same), λ same. subst (λ (x : State). bytes_eq (state_numbers s) (state_numbers x) ≡ true) same (bytes_eq-itself (state_numbers s)))
