-- Which file a call failed on.
use Rattle.std.proofs.Common.{◌≡◌, ◌∙◌, [], suc, length, true, false, Bool, cond, is_some, ap, arith, inl, inr, refl, subst, sym}
use Rattle.raft_base.specs.declared.errors.Fault.{Fault}
use Rattle.raft_base.specs.declared.errors.Fault.TheVariants as fault
use Rattle.raft_env.specs.Directory.{Directory, HasFile, Path, after_create, file_at, with_file}
use Rattle.raft_env.specs.Outcomes.{synced_file}
use Rattle.raft_env.specs.Refusal.{FailsCountedAt, NamesFile, NoFewer, Refusals, RefusalsRoseForFault}
use Rattle.raft_env.specs.declared.env.FsFault.{FsFault}
use Rattle.raft_env.specs.declared.env.FsFault.TheVariants.{Io, Memory}
use Rattle.raft_env.proofs.DirectoryLemmas.{file_at-placed_same}
use Rattle.raft_config.specs.Folders.{all_of}
use Rattle.raft_pipes.specs.Numbered.{IsPathOf, has_file, in_queue, path_of}
use Rattle.raft_pipes.proofs.ApartLemmas.{main_among}
use Rattle.raft_pipes.specs.Pipe.{IsChangeRefusal}
use Rattle.raft_pipes.specs.PipeState.{IsNextPath, PipeState, WritesSameFile, last_seq}
use Rattle.raft_pipes.specs.Rotation.{IsBeginRefusal, IsRotationRefusal}

-- A next file is begun.

-- it stands once it was made
pub made_stands : (path : Path) (n : Directory) → HasFile (after_create path n) path
made_stands path n = by_case (is_some (file_at n path)) refl
  where
    by_case : (there : Bool) → is_some (file_at n path) ≡ there → HasFile (after_create path n) path
    by_case true is = ap (λ (b : Bool). has_file (cond b n (with_file path (synced_file []) n)) path) is ∙ is
    by_case false is = ap (λ (b : Bool). has_file (cond b n (with_file path (synced_file []) n)) path) is ∙ ap is_some (file_at-placed_same path (synced_file []) n)

-- a lack of memory that isn't counted
pub begin_standing : (path : Path) (n : Directory) (old mid new : Refusals) (f : FsFault) → NoFewer old mid → RefusalsRoseForFault f mid new → HasFile n path → IsBeginRefusal path n old new f
begin_standing path n old mid new (Io kind) before h stands = omega (arith, h.0, before.0)
begin_standing path n old mid new Memory before h stands = inr stands

-- A rotation is stopped.

pub close_refused : (path next : Path) (n : Directory) (old new : Refusals) (e : Fault) → FailsCountedAt (NamesFile path) old new e → IsRotationRefusal path next n old new e
close_refused path next n old new (fault.Io kind text) h = (h.0, inl h.1)
close_refused path next n old new fault.Memory h = inl h
close_refused path next n old new _ h = absurd h

-- The last file of a pipe, and the one after it, have the same names.

pub next_same : (p p' : PipeState) → WritesSameFile p p' → (next : Path) → IsNextPath p next → IsNextPath p' next
next_same p p' same next is =
    subst (λ f. IsPathOf (all_of f) p'.queue (suc (last_seq p')) next) (sym same.folders)
    (subst (λ q. IsPathOf (all_of p.folders) q (suc (last_seq p')) next) (sym same.queue)
    (subst (λ k. IsPathOf (all_of p.folders) p.queue k next) (let e : suc (last_seq p) ≡ suc (last_seq p') = omega (arith, same.first, ap length same.sealed) in e) is))

pub change_same : (p p' : PipeState) (n : Directory) (old new : Refusals) (e : Fault) → WritesSameFile p p' → IsChangeRefusal p n old new e → IsChangeRefusal p' n old new e
change_same p p' n old new e same (next, is_next, h) = (next, next_same p p' same next is_next, subst (λ (path : Path). IsRotationRefusal path next n old new e) (sym same.path) h)

-- a call on the last file alone
pub last_refused : (p : PipeState) (n : Directory) (old new : Refusals) (e : Fault) → FailsCountedAt (NamesFile p.writer.path) old new e → IsChangeRefusal p n old new e
last_refused p n old new e h =
    let next = path_of p.folders.main (in_queue p.queue (suc (last_seq p))) in
    (next, (p.folders.main, main_among p.folders, refl), close_refused p.writer.path next n old new e h)

-- after a step that was done
pub rotation_since : (path next : Path) (n : Directory) (old mid new : Refusals) (e : Fault) → NoFewer old mid → IsRotationRefusal path next n mid new e → IsRotationRefusal path next n old new e
rotation_since path next n old mid new (fault.Io kind text) before h = (omega (arith, h.0, before.0), h.1)
rotation_since path next n old mid new fault.Memory before (inl more) = inl (omega (arith, more, before.1))
rotation_since path next n old mid new fault.Memory before (inr stands) = inr stands
rotation_since path next n old mid new _ before h = absurd h

pub change_since : (p : PipeState) (n : Directory) (old mid new : Refusals) (e : Fault) → NoFewer old mid → IsChangeRefusal p n mid new e → IsChangeRefusal p n old new e
change_since p n old mid new e before (next, is_next, h) = (next, is_next, rotation_since p.writer.path next n old mid new e before h)
