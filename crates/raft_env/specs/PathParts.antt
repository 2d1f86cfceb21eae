-- The folder of a path.
use Rattle.std.specs.Prelude.{◌≡◌, ◌≢◌, ◌⊎◌, [], ◌∷◌, ◌++◌}
use Rattle.std.specs.List.{All}
use Rattle.raft_env.specs.Directory.{Path}

-- no slash stands in it
abbrev pub IsName : Path → Type 0
IsName path = All (λ c. c ≢ 47) path

-- what stands before the last slash, or nothing where there is none
abbrev pub IsParent : Path → Path → Type 0
IsParent path folder = (IsName path × (folder ≡ []))
    ⊎ ((name : Path) × IsName name × (path ≡ folder ++ 47 ∷ name))
