-- The answers in a cache.
use Rattle.std.specs.Prelude.{◌≡◌, ℕ, ◌&&◌, ◌⊎◌, Bool, length, nat_eq, nat_lt, if◌then◌else◌, Option, None, Some}
use Rattle.std.specs.Cmp.Lexicographic.{pointwise}
use Rattle.std.specs.Map.{lookup}
use Rattle.lru.specs.LruCache.{LruCache, lru_cache, put_entries}
use Rattle.pv_model.specs.declared.limits.TheConstants.{NAME_V2}
use Rattle.pv_model.specs.Machine.{Bytes}
use Rattle.pv_namei.specs.declared.cached.Pair.{Pair}

-- whether two keys have the same directory and the same name
abbrev pub same_key : Pair → Pair → Bool
same_key a b = nat_eq a.directory b.directory && pointwise nat_eq a.name b.name

abbrev pub cache_key : ℕ → Bytes → Pair
cache_key directory name = record { directory = directory; name = name }

-- the cached answer for a directory and a name; a name of more than 255 bytes has none
abbrev pub preserved_of : LruCache Pair (Option ℕ) → ℕ → Bytes → Option (Option ℕ)
preserved_of preserved directory name = if nat_lt NAME_V2 (length name) then None else lookup (same_key (cache_key directory name)) preserved.entries

-- each cached answer is that of a map
abbrev pub FitsMap : LruCache Pair (Option ℕ) → (ℕ → Bytes → Option ℕ) → Type 0
FitsMap preserved map = (directory : ℕ) (name : Bytes) (answer : Option ℕ) → preserved_of preserved directory name ≡ Some answer → map directory name ≡ answer

-- an answer was put in front, and the least recently used one was evicted if there were too many; or there was no
-- answer before, and nothing changed
abbrev pub IsPut : LruCache Pair (Option ℕ) → ℕ → Bytes → Option ℕ → LruCache Pair (Option ℕ) → Type 0
IsPut old directory name answer new =
    (new ≡ lru_cache (put_entries same_key old (cache_key directory name) answer) old.cap) ⊎ ((preserved_of old directory name ≡ None) × (new ≡ old))
