-- Which patterns are those of positive normal numbers.
use Rattle.std.specs.Prelude.{ℕ, ◌^◌, Bool, ◌&&◌, nat_le, nat_lt}
use Rattle.width.specs.Shape.{Shape, infinity}

abbrev pub is_normal : Shape → ℕ → Bool
is_normal S n = nat_le (2 ^ S.sig) n && nat_lt n (infinity S)
