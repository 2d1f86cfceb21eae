-- Copies of settings, and contradictions among them.
use Rattle.std.proofs.Common.{◌≡◌, ◌∙◌, Bool, List, ℕ, Option, None, Some, ap, false, refl, sym}
use Rattle.std.specs.Prelude.{◌==◌, ◌&&◌, String, codes, nat_lt, not, option_map, if◌then◌else◌}
use Rattle.std.specs.Option.{option_map_or}
use Rattle.std.specs.Str.{bytes_eq}
use Rattle.std.specs.String.{string_bytes}
use Rattle.std.specs.declared.alloc.Global.{Global}
use Rattle.raft_base.specs.declared.errors.Fault.{Fault}
use Rattle.raft_base.specs.declared.errors.Fault.TheVariants as fault
use Rattle.raft_config.specs.Config.{IsCopy}
use Rattle.raft_config.specs.Sanitized.{IsContradiction, contradiction, is_signed, spills_into_dir}
use Rattle.raft_config.specs.declared.config.Config.{Config}

-- what there is beside the two folders
abbrev contradiction_with : Config → Bool → Option (List ℕ)
contradiction_with c spills =
    if c.target_file_size.0 == 0 then Some (codes "target-file-size is 0")
    else if nat_lt c.purge_threshold.0 c.target_file_size.0
    then Some (codes "purge-threshold is below target-file-size")
    else if c.enable_log_recycle && not (is_signed c.format_version)
    then Some (codes "enable-log-recycle needs format-version 2")
    else if c.prefill_for_recycle && not c.enable_log_recycle
    then Some (codes "prefill-for-recycle needs enable-log-recycle")
    else if spills then Some (codes "spill-dir is dir")
    else None

-- a folder by its bytes
is_same_folder : (spill : Option (String Global)) (dir : List ℕ) → option_map_or (λ s. bytes_eq (string_bytes s) dir) spill false ≡ option_map_or (λ b. bytes_eq b dir) (option_map string_bytes spill) false
is_same_folder None dir = refl
is_same_folder (Some s) dir = refl

same_spills : (c copy : Config) → IsCopy c copy → spills_into_dir copy ≡ spills_into_dir c
same_spills c copy is =
    ap (λ (d : List ℕ). option_map_or (λ s. bytes_eq (string_bytes s) d) copy.spill_dir false) is.dir ∙ is_same_folder copy.spill_dir (string_bytes c.dir)
    ∙ ap (λ (s : Option (List ℕ)). option_map_or (λ b. bytes_eq b (string_bytes c.dir)) s false) is.spill_dir ∙ sym (is_same_folder c.spill_dir (string_bytes c.dir))

pub contradiction-copy : (c copy : Config) → IsCopy c copy → contradiction copy ≡ contradiction c
contradiction-copy c copy is = ap (contradiction_with copy) (same_spills c copy is) ∙ ap (λ (x : Config). contradiction_with x (spills_into_dir c)) is.others

-- a fault that names one
pub no_contradiction : (c : Config) (e : Fault) → contradiction c ≡ None → IsContradiction c e → ⊥
no_contradiction c (fault.InvalidArgument text) none is = let clash = sym none ∙ is in absurd cc
no_contradiction c _ none is = is

pub same_contradiction : (c d : Config) (e : Fault) → contradiction d ≡ contradiction c → IsContradiction d e → IsContradiction c e
same_contradiction c d (fault.InvalidArgument text) same is = sym same ∙ is
same_contradiction c d _ same is = absurd is
