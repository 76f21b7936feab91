-- The count of roots asked.
use Rattle.std.specs.Prelude.{ℕ, zero, suc, ◌+◌, min, Bool, if◌then◌else◌}

-- one more, up to 4,294,967,295, where it stays
abbrev pub raised : ℕ → ℕ
raised n = min (n + 1) 4294967295

-- the same where a root is asked
abbrev pub raised_if : Bool → ℕ → ℕ
raised_if asks n = if asks then raised n else n

-- the same for each of k roots
unfoldable pub raised_by : ℕ → ℕ → ℕ
raised_by zero n = n
raised_by (suc k) n = raised (raised_by k n)
