-- What the sides and the diagonal of a field print.
use Rattle.std.specs.Prelude.{ℕ, ◌-◌, ◌^◌, false, List, [], ◌++◌, codes, to_bits}
use Rattle.std.specs.Float.{binary64}
use Rattle.std.specs.Fmt.{decimal, digits, padded_integral, format_spec}
use Rattle.field.specs.declared.sides.Sides.{Sides}
use Rattle.field.specs.declared.diagonal.Reach.{Reach}

abbrev pub sides_text : Sides → List ℕ
sides_text s = decimal s.length ++ (codes " x " ++ decimal s.breadth)

-- a number as 16 hexadecimal digits: what `{:016x}` writes
abbrev pub pattern_text : ℕ → List ℕ
pattern_text n = padded_integral (format_spec 32 0 4 16 (2 ^ 64 - 1)) false [] (digits 16 false n)

-- the millimetres, and the float's pattern
abbrev pub reach_text : Reach → List ℕ
reach_text r = decimal r.millimetres ++ (codes " mm " ++ pattern_text (to_bits binary64 r.reach))
