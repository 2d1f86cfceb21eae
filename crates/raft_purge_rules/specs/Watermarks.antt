-- Files at a fraction of a queue's span.
use Rattle.std.specs.Prelude.{ℕ, ◌+◌, ◌-◌, ◌*◌, ◌/◌, min}

-- so many tenths of the files behind the first one, and before the last one
abbrev pub watermark : ℕ → ℕ → ℕ → ℕ
watermark tenths first last = min (first + (last + 1 - first) * tenths / 10) (last - 1)

-- the watermark at seven tenths of the span of files
abbrev pub rewrite_watermark : ℕ → ℕ → ℕ
rewrite_watermark = watermark 7

-- the watermark at two tenths of the span of files
abbrev pub compact_watermark : ℕ → ℕ → ℕ
compact_watermark = watermark 2
