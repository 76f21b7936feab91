-- The status of a root.
use Rattle.std.specs.Prelude.{ℕ, ◌%◌, cond, ◌&&◌, nat_lt}
use Rattle.width.specs.Shape.{Shape, sign, infinity}
use Rattle.root.specs.declared.env.Status.{Status}
use Rattle.root.specs.declared.env.Status.TheVariants.{Ok, Invalid}

-- the root of NaN or of a number below zero is invalid: the pattern is above the infinity's, and not that of -0
abbrev pub status_of : Shape → ℕ → Status
status_of S b = cond (nat_lt 0 (b % sign S) && nat_lt (infinity S) b) Invalid Ok
