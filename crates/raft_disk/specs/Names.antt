-- Which names the files of a log have: only of these a folder's files are spoken of.
use Rattle.std.specs.Prelude.{ℕ, nat_le, ◌&&◌, ◌||◌, Bool, List, codes, length, take, drop}
use Rattle.std.specs.Char.{is_ascii_digit}
use Rattle.std.specs.List.{list_all}
use Rattle.std.specs.Str.{bytes_eq}

-- what follows the number in the name of a log file of either queue, or of a reserved one
abbrev pub is_log_end : List ℕ → Bool
is_log_end end = bytes_eq end (codes ".raftlog") || bytes_eq end (codes ".rewrite")
    || bytes_eq end (codes ".raftlog.reserved")

-- a number of sixteen digits, and then is_log_end
abbrev pub is_log_name : List ℕ → Bool
is_log_name name = nat_le 16 (length name)
    && (list_all is_ascii_digit (take 16 name) && is_log_end (drop 16 name))
