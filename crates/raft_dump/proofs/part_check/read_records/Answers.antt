use Rattle.std.proofs.Common.{◌≡◌, ◌∙◌, ◌+◌, ◌-◌, ◌≤◌, ◌++◌, ℕ, List, length, drop, take, Some, None, ap, refl, sym, subst, arith}
use Rattle.raft_dump.specs.Check.{IsCheckOf}
use Rattle.raft_dump.specs.declared.check.FileCheck.{FileCheck}
use Rattle.raft_dump.proofs.CheckLemmas.{reading_ends}
use Rattle.raft_dump.specs.Given.{cursor}
use Rattle.raft_dump.specs.Parts.{AreOf, BeginsWith, IsWanted}
use Rattle.raft_dump.proofs.JoinLemmas.{begins_read, goes_on}
use Rattle.raft_dump.proofs.PartLemmas.{bytes_of_part, some_is_none, wanted_within}
use Rattle.raft_dump.proofs.part_check.read_records.Goals as goal

pub parts-init : goal.parts-init
parts-init g c = (
  refl,
  refl,
  refl,
  c.requires,
  omega arith,
  λ bytes size_is are begins. (begins_read c.args.file.now.id c.args.format c.args.header.now bytes begins, λ none. absurd (some_is_none none)),
  λ bytes are. are,
)

pub parts-preserved : goal.parts-preserved
parts-preserved g c =
    let e = c.in_ok-part.ensures in
    let inv = c.parts.invariant in
    let a = c.go_on-wanted.ensures.added in
    let wants = subst (λ (n : ℕ). IsWanted (n - c.go_on-wanted.new.check.end) (drop (c.go_on-wanted.new.check.end - c.parts.check.end) c.deref-in-Some.result.now) c.go_on-wanted.result) inv.1 c.go_on-wanted.ensures.wanted in
    let some : c.in-Some.len ≤ c.args.size - c.parts.check.end = rw c.in-Some.is at inv.4 in (
      ap (λ (x : FileCheck). x.id) a ∙ inv.0,
      ap (λ (x : FileCheck). x.len) a ∙ inv.1,
      ap (λ (x : FileCheck). x.format) a ∙ inv.2,
      omega (arith, ap (λ (x : FileCheck). x.end) a, some, inv.3, e.value.2, ap length c.deref-in-Some.ensures.value),
      wanted_within _ _ c.go_on-wanted.result wants,
      λ bytes size_is are begins.
          let split = subst (AreOf bytes) e.ok are in
          let part = bytes_of_part bytes c.in_ok-part.part c.parts.check.end c.in-Some.len e.value.0 e.value.1 split.0 in
          let check = subst (λ (l : List ℕ). IsCheckOf c.args.file.now.id (c.args.header.now ++ l) c.in_ok-read.read) c.deref.ensures.value c.in_ok-read.ensures.value in
          goes_on c.args.file.now.id c.args.format c.args.header.now bytes c.in_ok-part.part.bytes.items c.deref-in-Some.result.now c.args.size c.in-Some.len c.parts.check c.in_ok-read.read c.go_on-wanted.new.check c.go_on-wanted.result begins size_is (omega arith) inv.3 part check (inv.5 bytes size_is split.1 begins).0 c.deref-in-Some.ensures.value a wants,
      λ bytes are. inv.6 bytes (subst (AreOf bytes) e.ok are).1,
    )

pub returns : goal.returns
returns g c = record {
  value = λ bytes size_is are begins.
      let inv = c.parts.invariant in
      let found = inv.5 bytes size_is are begins in
      reading_ends c.args.file.now.id bytes (cursor c.args.file.now.id c.args.format bytes c.parts.check.end) c.parts.check.records c.parts.check found.0 (found.1 c.in_default.is) inv.0 (inv.1 ∙ sym size_is) inv.2 refl refl;
  given = c.parts.invariant.6;
  cause = tt;
}
