-- How moments are put together.
use Rattle.std.proofs.Common.{◌≡◌, List, [], ◌∷◌, ◌++◌, sym, ◌∙◌, ap, refl, subst, arith, append_assoc}
use Rattle.std.specs.List.{AllByRecursion}
use Rattle.raft_env.specs.Directory.{Directory}
use Rattle.raft_env.specs.Moments.{HoldsThroughout, MovesBy, OnlyReads}
use Rattle.raft_env.specs.Refusal.{CountsRefusal, NoFewer, Refusals}
use Rattle.raft_env.specs.declared.env.FsFault.{FsFault}
use Rattle.raft_env.specs.declared.env.FsFault.TheVariants.{Io, Memory}

both : (P : Directory → Type 0) (xs ys : List Directory) → AllByRecursion P xs → AllByRecursion P ys → AllByRecursion P (xs ++ ys)
both P [] ys a b = b
both P (x ∷ xs) ys a b = (a.0, both P xs ys a.1 b)

weaker : (P Q : Directory → Type 0) (xs : List Directory) → ((n : Directory) → P n → Q n) → AllByRecursion P xs → AllByRecursion Q xs
weaker P Q [] f a = tt
weaker P Q (x ∷ xs) f a = (f x a.0, weaker P Q xs f a.1)

module _ (P : Directory → Type 0) where
  pub passes_none : (old new : List Directory) (now : Directory) → new ≡ old → P now → HoldsThroughout old new now P
  passes_none old new now e here = record { added = []; is = e; each = tt; here = here }

  -- one moment more
  pub passes_one : (now : Directory) (old new : List Directory) → new ≡ now ∷ old → P now → HoldsThroughout old new now P
  passes_one now old new e here = record { added = now ∷ []; is = e; each = (here, tt); here = here }

  pub passes_then : (old mid new : List Directory) (then now : Directory) → HoldsThroughout old mid then P → HoldsThroughout mid new now P → HoldsThroughout old new now P
  passes_then old mid new then now a b = record {
    added = b.added ++ a.added;
    is = b.is ∙ ap (λ (l : List Directory). b.added ++ l) a.is ∙ sym (append_assoc b.added a.added old);
    each = both P b.added a.added b.each a.each;
    here = b.here;
  }

  pub passes_weaker : (Q : Directory → Type 0) (old new : List Directory) (now : Directory) → ((n : Directory) → P n → Q n) → HoldsThroughout old new now P → HoldsThroughout old new now Q
  passes_weaker Q old new now f a = record { added = a.added; is = a.is; each = weaker P Q a.added f a.each; here = f now a.here }

all_fewer : (old mid new : Refusals) → NoFewer old mid → NoFewer mid new → NoFewer old new
all_fewer old mid new a b = (omega (arith, a.0, b.0), omega (arith, a.1, b.1))

-- a file call's fault is counted, so no count fell
pub counted_no_fewer : (f : FsFault) (old new : Refusals) → CountsRefusal f old new → NoFewer old new
counted_no_fewer (Io kind) old new h = (h.1, omega (arith, h.2))
counted_no_fewer Memory old new h = (omega (arith, h.0), omega (arith, h.1))

-- how calls on a file system go on
module _ {F : Type 0} {directory : F → Directory} {moments : F → List Directory} {refusals_of : F → Refusals} where
  -- a call that is told of by a weaker relation
  pub moves_weaker : {R S : Directory → Directory → Type 0} {old new : F} → ((n : Directory) → R (directory old) n → S (directory old) n) → MovesBy directory moments refusals_of R old new → MovesBy directory moments refusals_of S old new
  moves_weaker f moved = record { throughout = passes_weaker _ _ _ _ _ f moved.throughout; no_fewer = moved.no_fewer }

  -- a call, and one more
  pub moves_then : {R S : Directory → Directory → Type 0} {old mid new : F} → MovesBy directory moments refusals_of R old mid → ((n : Directory) → S (directory mid) n → R (directory old) n) → MovesBy directory moments refusals_of S mid new → MovesBy directory moments refusals_of R old new
  moves_then a f b = record {
    throughout = passes_then _ _ _ _ _ _ a.throughout (passes_weaker _ _ _ _ _ f b.throughout);
    no_fewer = all_fewer _ _ _ a.no_fewer b.no_fewer;
  }

  -- a call of one moment more
  pub moves_one : {R : Directory → Directory → Type 0} {old new : F} → moments new ≡ directory new ∷ moments old → refusals_of new ≡ refusals_of old → R (directory old) (directory new) → MovesBy directory moments refusals_of R old new
  moves_one e same here = record { throughout = passes_one _ _ _ _ e here; no_fewer = rw same (omega arith, omega arith) }

  -- a file system that stays as it was
  pub moves_none : {R : Directory → Directory → Type 0} {old : F} → R (directory old) (directory old) → MovesBy directory moments refusals_of R old old
  moves_none here = record { throughout = passes_none _ _ _ _ refl here; no_fewer = (omega arith, omega arith) }

  pub reads_none : {old : F} → OnlyReads directory moments refusals_of old old
  reads_none = record { same_files = refl; same_moments = refl; no_fewer = (omega arith, omega arith) }

  -- a call that only reads, seen as one that moves
  pub reads_moves : {R : Directory → Directory → Type 0} {old new : F} → R (directory old) (directory old) → OnlyReads directory moments refusals_of old new → MovesBy directory moments refusals_of R old new
  reads_moves {R} {old} here reads = record {
    throughout = passes_none _ _ _ _ reads.same_moments (subst (R (directory old)) (sym reads.same_files) here);
    no_fewer = reads.no_fewer;
  }

  pub reads_then : {old mid new : F} → OnlyReads directory moments refusals_of old mid → OnlyReads directory moments refusals_of mid new → OnlyReads directory moments refusals_of old new
  reads_then a b = record {
    same_files = b.same_files ∙ a.same_files;
    same_moments = b.same_moments ∙ a.same_moments;
    no_fewer = all_fewer _ _ _ a.no_fewer b.no_fewer;
  }

  -- a call that moves, after one that only reads and before one
  pub moves_after_reads : {R : Directory → Directory → Type 0} {old mid new : F} → OnlyReads directory moments refusals_of old mid → MovesBy directory moments refusals_of R mid new → MovesBy directory moments refusals_of R old new
  moves_after_reads {R} {old} {mid} {new} a b = record {
    throughout = subst (λ (l : List Directory). HoldsThroughout l (moments new) (directory new) (R (directory old))) a.same_moments
        (subst (λ (n : Directory). HoldsThroughout (moments mid) (moments new) (directory new) (R n)) a.same_files b.throughout);
    no_fewer = all_fewer _ _ _ a.no_fewer b.no_fewer;
  }

  pub moves_then_reads : {R : Directory → Directory → Type 0} {old mid new : F} → MovesBy directory moments refusals_of R old mid → OnlyReads directory moments refusals_of mid new → MovesBy directory moments refusals_of R old new
  moves_then_reads {R} {old} {mid} {new} a b = record {
    throughout = subst (λ (l : List Directory). HoldsThroughout (moments old) l (directory new) (R (directory old))) (sym b.same_moments)
        (subst (λ (n : Directory). HoldsThroughout (moments old) (moments mid) n (R (directory old))) (sym b.same_files) a.throughout);
    no_fewer = all_fewer _ _ _ a.no_fewer b.no_fewer;
  }
