-- What an opening says, by its settings as they are used, where they contradict one another, and where
-- the engine is given up.
use Rattle.std.proofs.Common.{◌≡◌, Result, Ok, Err, None, arith, inl, inr, refl, subst, sym}
use Rattle.std.specs.Prelude.{◌⊎◌, MatchResult}
use Rattle.raft_base.specs.declared.errors.Fault.{Fault}
use Rattle.raft_base.specs.declared.errors.Fault.TheVariants as fault
use Rattle.raft_base.specs.declared.pipe_log.LogQueue.TheVariants.{Append}
use Rattle.raft_config.specs.Folders.{folders_in}
use Rattle.raft_config.specs.Sanitized.{IsContradiction, contradiction, sanitized}
use Rattle.raft_config.specs.declared.config.Config.{Config}
use Rattle.raft_env.proofs.MomentsLemmas.{moves_none, moves_then_reads}
use Rattle.raft_env.specs.Directory.{Directory}
use Rattle.raft_env.specs.Moments.{MovesBy, OnlyReads}
use Rattle.raft_env.specs.Refusal.{NoFewer, Refusals}
use Rattle.raft_env.specs.declared.env.FileSystem.{Ghosts}
use Rattle.raft_crash_laws.specs.Crash.{StillRecovers}
use Rattle.raft_crash_laws.specs.Queues.{IsOpeningRefusal, LeavesReadableIn}
use Rattle.raft_opening.proofs.OpenLemmas.{left_alone}
use Rattle.raft_opening.specs.Folder.{LeavesAllButOpened}
use Rattle.raft_opening.specs.Queue.{IsUntouched}
use Rattle.raft_pipes.specs.Queue.{LeavesAll}
use Rattle.raft_builder.specs.Builder.{CanBeOpenedIn}
use Rattle.raft_queues.proofs.SameFilesLemmas.{readable_same}
use Rattle.raft_log_engine.specs.Engine.{directory_of, moments_of, refusals_of}
use Rattle.raft_log_engine.specs.Opening.{AnswersOpening, Opens, OpensWith}
use Rattle.raft_log_engine.specs.declared.engine.Engine.{Engine}
use Rattle.raft_log_engine.specs.declared.engine.Refused.{Refused}

-- an opening may answer that memory is wanting
pub answers_memory : (config : Config) (n : Directory) (before after : Refusals) (e : Fault) → e ≡ fault.Memory → IsOpeningRefusal config.recovery_mode (folders_in config) n before after e
answers_memory config n before after e is = subst (IsOpeningRefusal config.recovery_mode (folders_in config) n before after) (sym is) (Append, tt)

module _ {F H R W : Type 0} {g : Ghosts F H R W} where
  -- settings that don't contradict one another are used as sanitizing leaves them
  pub opens_sanitized : (config used : Config) (found : F) (result : Result (Engine F H R W g) (Refused F)) → contradiction config ≡ None → used ≡ sanitized config → OpensWith used found result → AnswersOpening used found result → Opens config found result
  opens_sanitized config used found result clean is opened refused = record {
    opened = subst (λ (x : Config). OpensWith x found result) is opened;
    refused = by_result result (subst (λ (x : Config). AnswersOpening x found result) is refused);
  }
    where
      by_result : (result : Result (Engine F H R W g) (Refused F)) → AnswersOpening (sanitized config) found result
          → MatchResult result (λ e. (contradiction config ≡ None) × CanBeOpenedIn config.recovery_mode (folders_in config) (g.directory found))
          (λ r. IsContradiction config r.fault ⊎ IsOpeningRefusal config.recovery_mode (folders_in config) (g.directory found) (g.refusals_of found) (g.refusals_of r.file_system) r.fault)
      by_result (Ok e) can = (clean, can)
      by_result (Err r) why = inr why

  -- where memory is wanting to begin, nothing is opened
  pub opens_begun : (config : Config) (found : F) (r : Refused F) → (r.fault ≡ fault.Memory) × (r.file_system ≡ found) → OpensWith {g = g} config found (Err r)
  opens_begun config found r why = record {
    contents = tt;
    ok = tt;
    rounds = tt;
    value = tt;
    settings = tt;
    memory = tt;
    durable = tt;
    now = tt;
    any_moment = subst (λ (f : F). MovesBy g.directory g.moments g.refusals_of (StillRecovers (folders_in config)) found f) (sym why.1) (moves_none (λ m batches kept. kept));
    readable = subst (λ (f : F). MovesBy g.directory g.moments g.refusals_of (LeavesReadableIn (folders_in config)) found f) (sym why.1) (moves_none (λ queue. readable_same (folders_in config) queue (g.directory found) (g.directory found) (λ k path fits is. refl)));
    unchanged = subst (λ (e : Fault). IsUntouched (g.directory found) (g.directory r.file_system) e) (sym why.0) tt;
    unread = inl (subst (λ (f : F). LeavesAll (g.directory found) (g.directory f)) (sym why.1) (λ path. refl));
    others = subst (λ (f : F). LeavesAllButOpened (folders_in config) (g.directory found) (g.directory f)) (sym why.1) (λ q none reserved. refl);
  }

  -- where they do, nothing is opened
  pub opens_contradictory : (config : Config) (found : F) (why : Fault) → IsContradiction config why → Opens {g = g} config found (Err (record { fault = why; file_system = found }))
  opens_contradictory config found why against = record {
    opened = record {
      contents = tt;
      ok = tt;
      rounds = tt;
      value = tt;
      settings = tt;
      memory = tt;
      durable = tt;
      now = tt;
      any_moment = moves_none (λ m batches kept. kept);
      readable = moves_none (λ queue. readable_same (folders_in (sanitized config)) queue (g.directory found) (g.directory found) (λ k path fits is. refl));
      unchanged = left_alone (g.directory found) (g.directory found) why (λ path. refl);
      unread = inl (λ path. refl);
      others = λ q none reserved. refl;
    };
    refused = inl against;
  }

  -- an opened engine that is given up for lack of memory
  pub opens_given_up : (config : Config) (found : F) (e : Engine F H R W g) (files : F) (why : Fault) → why ≡ fault.Memory → g.directory files ≡ directory_of e → g.moments files ≡ moments_of e → g.refusals_of files ≡ refusals_of e → Opens config found (Ok e)
      → Opens {g = g} config found (Err (record { fault = why; file_system = files }))
  opens_given_up config found e files why is now moments counts opens =
      let given : OnlyReads g.directory g.moments g.refusals_of e.log.store.file_system files = record { same_files = now; same_moments = moments; no_fewer = subst (NoFewer (refusals_of e)) (sym counts) (omega arith, omega arith) } in record {
        opened = record {
          contents = tt;
          ok = tt;
          rounds = tt;
          value = tt;
          settings = tt;
          memory = tt;
          durable = tt;
          now = tt;
          any_moment = moves_then_reads opens.opened.any_moment given;
          readable = moves_then_reads opens.opened.readable given;
          unchanged = subst (λ (f : Fault). IsUntouched (g.directory found) (g.directory files) f) (sym is) tt;
          unread = inr opens.refused.1;
          others = subst (λ (n : Directory). LeavesAllButOpened (folders_in config) (g.directory found) n) (sym now) opens.opened.others;
        };
        refused = inr (subst (λ (f : Fault). IsOpeningRefusal config.recovery_mode (folders_in config) (g.directory found) (g.refusals_of found) (g.refusals_of files) f) (sym is) (Append, tt));
      }
