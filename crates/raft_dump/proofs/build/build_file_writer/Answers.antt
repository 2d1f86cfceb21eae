use Rattle.std.proofs.Common.{◌≡◌, Bool, subst, inl, inr}
use Rattle.raft_env.specs.Directory.{Directory, Path}
use Rattle.raft_env.proofs.MomentsLemmas.{moves_then, moves_weaker}
use Rattle.raft_files.specs.Writer.{IsOpening}
use Rattle.raft_files.specs.declared.format.LogFileFormat.{LogFileFormat}
use Rattle.raft_dump.specs.Build.{IsBuilding, IsMaking, made_if}
use Rattle.raft_dump.proofs.build.build_file_writer.Goals as goal

-- the file is made, then opened
making : (path : Path) (format : LogFileFormat) (create : Bool) (old n : Directory) → IsMaking path create old n → IsBuilding path format create old n
making path format create old n (inl none) = inl none
making path format create old n (inr done) = inr (inl done)

opening : (path there : Path) (format : LogFileFormat) (create : Bool) (old made n : Directory) → there ≡ path → made ≡ made_if create path old → IsOpening there format made n → IsBuilding path format create old n
opening path there format create old made n is_path is_made step = inr (subst (λ (d : Directory). IsOpening path format d n) is_made (subst (λ (p : Path). IsOpening p format made n) is_path step))

pub returns-in-Err-clause-any_moment : goal.returns-in-Err-clause-any_moment
returns-in-Err-clause-any_moment g c = moves_weaker (making c.args.path.now c.args.format c.args.create (g.F.FileSystem.directory c.args.file_system.now)) c.begin.ensures.any_moment

pub returns-in-Ok-open-clause-any_moment : goal.returns-in-Ok-open-clause-any_moment
returns-in-Ok-open-clause-any_moment g c =
    let path = c.args.path.now in
    let n = g.F.FileSystem.directory c.args.file_system.now in
    let made = g.F.FileSystem.directory c.begin.new.file_system in
    moves_then (moves_weaker (making path c.args.format c.args.create n) c.begin.ensures.any_moment)
    (λ m. opening path (g.F.FileSystem.handle_path c.in-Ok.handle) c.args.format c.args.create n made m c.in-Ok.ensures.handle c.in-Ok.ensures.ok) c.open.ensures.any_moment

pub returns-clause-any_moment : goal.returns-clause-any_moment
returns-clause-any_moment g c =
    let path = c.args.path.now in
    let n = g.F.FileSystem.directory c.args.file_system.now in
    let made = g.F.FileSystem.directory c.begin.new.file_system in
    moves_then (moves_weaker (making path c.args.format c.args.create n) c.begin.ensures.any_moment)
    (λ m. opening path (g.F.FileSystem.handle_path c.in-Ok.handle) c.args.format c.args.create n made m c.in-Ok.ensures.handle c.in-Ok.ensures.ok) c.open.ensures.any_moment
