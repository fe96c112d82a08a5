-- A call is recorded as the definitions have it.
use Rattle.std.proofs.Common.{◌≡◌, ◌∙◌, refl, sym, ap, ap₂, ℕ, Bool, cond, ◌&&◌, not, List, [], ◌∷◌, ◌++◌, flat_map, map, slice_get, Option, None, Some, is_some}
use Rattle.pv_model.specs.declared.call.Call.{Call}
use Rattle.pv_model.specs.declared.perms.Perms.{Perms}
use Rattle.pv_model.specs.declared.target.Target.{Target}
use Rattle.pv_model.specs.Machine.{answer, Judged, judged_walks, is_unveil, Granted, Request, is_allowed, Bytes, entries_of_table, program_of, Process, State, process_at, governing_entry, judgement}
use Rattle.pv_model.specs.Answers.Policy.{used_at_entry as at_entry_by_definition, at_governor as at_governor_by_definition, permissions_used, place_of_target}
use Rattle.pv_needs.specs.Asking.{walks_begun}
use Rattle.pv_needs.proofs.KnownWalks.{walks-known}
use Rattle.pv_policy.specs.Asked.{Has, grant_at_entry, grant_at_governor, entry_granted, used_by_walk}
use Rattle.pv_policy.specs.Usage.{Noted, noted_by, request_of}
use Rattle.pv_policy.specs.declared.asked.Asked.{Asked}

-- the permissions that walks used, as the definitions have them
module _ (r : Request) (permissions : Perms) where
  at-entry : (o : Option (Target × Perms)) → grant_at_entry r.before.tree r.process.table permissions o ≡ at_entry_by_definition r o permissions
  at-entry None = refl
  at-entry (Some e) = refl

  at-governor : (o : Option ℕ) → grant_at_governor r.before.tree r.process.table permissions o ≡ at_governor_by_definition r o permissions
  at-governor None = refl
  at-governor (Some k) = at-entry (slice_get (entries_of_table r.process.table) k)

used-as : (r : Request) (w : Judged) → used_by_walk r.before.tree r.process.table w ≡ permissions_used r w
used-as r w =
    ap (λ gs. cond (is_allowed (judgement r.before.tree r.process.table (place_of_target w.target) w.permissions)) gs [])
    (at-governor r w.permissions (governing_entry r.before.tree (entries_of_table r.process.table) (place_of_target w.target)))

all-used-as : (r : Request) (ws : List Judged) → flat_map (used_by_walk r.before.tree r.process.table) ws ≡ flat_map (permissions_used r) ws
all-used-as r [] = refl
all-used-as r (w ∷ ws) = ap₂ (λ (a b : List Granted). a ++ b) (used-as r w) (all-used-as r ws)

module _ (by : Bytes) (s : State) (pid : ℕ) (me : Process) (call : Call) (lives : process_at s pid ≡ Some me) where
  walks : List Judged
  walks = judged_walks s me call (answer program_of s pid call).walks

  pub recorded-call : (n : Noted) → n.by ≡ by → n.pid ≡ pid → n.program ≡ me.program → n.call ≡ call → n.line ≡ me.line → n.pledged ≡ me.promises
      → (asked : Asked) → (count : ℕ) → count ≡ (answer program_of s pid call).walks → Has s pid me (walks_begun s pid me call count) asked
      → n.walks ≡ asked.walks.items
      → n.held ≡ cond (is_some me.table && not (is_unveil call)) (map (λ e. entry_granted s.tree e.0 e.1) (entries_of_table me.table)) []
      → n.used ≡ cond (is_some me.table && not (is_unveil call)) asked.used.items []
      → n ≡ noted_by by pid (request_of s pid me call)
  recorded-call n by-is pid-is program-is call-is line-is pledged-is asked count counted has walks-are held-are used-are =
      let begun : walks_begun s pid me call count ≡ judged_walks s me call (answer program_of s pid call).walks = ap (walks_begun s pid me call) counted ∙ walks-known s pid me call lives in
      let walks-is = walks-are ∙ has.walks ∙ begun in
      let used-is : n.used ≡ cond (is_some me.table && not (is_unveil call)) (flat_map (permissions_used (request_of s pid me call)) (judged_walks s me call (answer program_of s pid call).walks)) [] =
      used-are ∙ ap (λ us. cond (is_some me.table && not (is_unveil call)) us []) (has.used ∙ ap (flat_map (used_by_walk s.tree me.table)) begun ∙ all-used-as (request_of s pid me call) (judged_walks s me call (answer program_of s pid call).walks)) in
      λ i. record {
        by = by-is i;
        pid = pid-is i;
        program = program-is i;
        call = call-is i;
        line = line-is i;
        pledged = pledged-is i;
        walks = walks-is i;
        held = held-are i;
        used = used-is i;
      }
