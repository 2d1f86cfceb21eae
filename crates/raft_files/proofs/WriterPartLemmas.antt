-- The bytes of a file at a moment of a call: others in its range alone.
use Rattle.std.proofs.Common.{◌≡◌, ℕ, ◌+◌, ◌-◌, ◌≤◌, min, max, Bool, true, false, List, ◌++◌, length, take, drop, replicate, refl, sym, ◌∙◌, ap, subst, inl, inr, arith, length-append, length-take-le}
use Rattle.std.proofs.lemmas.List.{append-nil, take_at, take-append-le, take-take, length-replicate, length-take}
use Rattle.raft_env.specs.Outcomes.{File, IsPartOf, IsCutOf, overlay, pad_to, lengthened_to, cut_to, file_after_write}
use Rattle.raft_env.proofs.OutcomesLemmas.{same_front}
use Rattle.raft_env.proofs.DirectoryLemmas.{outside, writing_part}
use Rattle.raft_env.proofs.OutcomesOverlayLemmas.{overlaid_is, get_or-padded}
use Rattle.raft_files.specs.Writer.{IsStep, IsLengthened, IsCutting}

pub length-padded : (bytes : List ℕ) (size : ℕ) → length (pad_to bytes size) ≡ max (length bytes) size
length-padded bytes size = omega (arith, length-append bytes (replicate (size - length bytes) 0), length-replicate {A = ℕ} (size - length bytes) 0)

pub take-padded : (k : ℕ) (bytes : List ℕ) (size : ℕ) → k ≤ length bytes → take k (pad_to bytes size) ≡ take k bytes
take-padded k bytes size inside = take-append-le k bytes (replicate (size - length bytes) 0) inside

-- bytes written inside a file or at its end
pub take-overlaid_whole : (bytes : List ℕ) (at : ℕ) (given : List ℕ) → at ≤ length bytes → take (at + length given) (overlay bytes at given) ≡ take at bytes ++ given
take-overlaid_whole bytes at given inside =
    let before = take-padded at bytes (at + length given) inside in
    let len : length (take at (pad_to bytes (at + length given)) ++ given) ≡ at + length given = omega (arith, length-append (take at (pad_to bytes (at + length given))) given, ap length before, length-take-le at bytes inside) in
    ap (take (at + length given)) (overlaid_is bytes at given (inl inside)) ∙ take_at _ (drop (at + length given) bytes) (at + length given) len ∙ ap (λ (l : List ℕ). l ++ given) before

-- bytes before a range stay
pub part_keeps : (at len k : ℕ) (old new : List ℕ) → IsPartOf at len old new → k ≤ at → k ≤ length old → take k new ≡ take k old
part_keeps at len k old new part before inside =
    same_front k new old (omega (arith, part.no_shorter)) inside (λ i below. part.elsewhere i (omega arith) (outside at len i (omega arith)))

-- what holds of the bytes as they were and as they are wanted holds at each moment
step_part : (step : Bool → List ℕ → File → File) (wanted : List ℕ → List ℕ) (IsPart : List ℕ → List ℕ → Type 0) (old new : File) → ((is_done : Bool) (after : List ℕ) → (step is_done after old).now ≡ after) →
    IsPart old.now old.now → IsPart old.now (wanted old.now) → IsStep step wanted IsPart old new → IsPart old.now new.now
step_part step wanted IsPart old new leaves none whole (inl same) = subst (λ (f : File). IsPart old.now f.now) (sym same) none
step_part step wanted IsPart old new leaves none whole (inr (after, true, completed, is)) = subst (IsPart old.now) (sym (ap (λ (f : File). f.now) is ∙ leaves true after ∙ completed)) whole
step_part step wanted IsPart old new leaves none whole (inr (after, false, part, is)) = subst (IsPart old.now) (sym (ap (λ (f : File). f.now) is ∙ leaves false after)) part

none_written : (at len : ℕ) (bytes : List ℕ) → IsPartOf at len bytes bytes
none_written at len bytes = record { no_shorter = omega arith; no_longer = omega arith; elsewhere = λ i within out. refl; unchanged = λ none. refl }

pub write_part : (at : ℕ) (given : List ℕ) (old new : File) → IsStep (file_after_write at given) (λ now. overlay now at given) (IsPartOf at (length given)) old new → IsPartOf at (length given) old.now new.now
write_part at given old new how =
    step_part (file_after_write at given) (λ now. overlay now at given) (IsPartOf at (length given)) old new (λ is_done after. refl) (none_written at (length given) old.now) (writing_part at given given (omega arith) old.now) how

pub lengthened_part : (room new_room : ℕ) (old new : File) → IsLengthened room new_room old new → IsPartOf (length old.now) (new_room - length old.now) old.now new.now
lengthened_part room new_room old new (inl same) = subst (λ (f : File). IsPartOf (length old.now) (new_room - length old.now) old.now f.now) (sym same) (none_written _ _ old.now)
lengthened_part room new_room old new (inr (grows, how)) =
    step_part (lengthened_to new_room) (λ now. pad_to now new_room) (λ now. IsPartOf (length now) (new_room - length now) now) old new leaves (none_written _ _ old.now) whole how
  where
    leaves : (is_done : Bool) (after : List ℕ) → (lengthened_to new_room is_done after old).now ≡ after
    leaves true after = refl
    leaves false after = refl

    whole : IsPartOf (length old.now) (new_room - length old.now) old.now (pad_to old.now new_room)
    whole = record {
      no_shorter = omega (arith, length-padded old.now new_room);
      no_longer = omega (arith, length-padded old.now new_room);
      elsewhere = λ i within out. get_or-padded old.now new_room i;
      unchanged = λ none. ap (λ n. old.now ++ replicate n 0) none ∙ append-nil old.now;
    }

pub cutting_part : (size : ℕ) (old new : File) → IsCutting size old new → IsCutOf size old.now new.now
cutting_part size old new how = step_part (cut_to size) (take size) (IsCutOf size) old new leaves (record { no_shorter = omega arith; no_longer = omega arith; kept = refl }) whole how
  where
    leaves : (is_done : Bool) (after : List ℕ) → (cut_to size is_done after old).now ≡ after
    leaves true after = refl
    leaves false after = refl

    whole : IsCutOf size old.now (take size old.now)
    whole = record {
      no_shorter = omega (arith, length-take size old.now);
      no_longer = omega (arith, length-take size old.now);
      kept = take-take (min size (length old.now)) size old.now (omega arith);
    }
