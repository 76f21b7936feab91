-- How a line is read, byte by byte.
use Rattle.std.specs.Char.{is_ascii_digit}
use Rattle.std.specs.Prelude.{ℕ, ◌+◌, ◌-◌, ◌*◌, min, if◌then◌else◌, List, Some, None, fold, Option}
use Rattle.field.specs.declared.line.Reading.{Reading}
use Rattle.field.specs.declared.line.Reading.TheVariants.{Before, First, Between, Second, After, Broken}
use Rattle.field.specs.Field.{longest}
use Rattle.field.specs.Pair.{is_blank}

-- a number past the longest side counts as one above it
abbrev pub capped : ℕ → ℕ
capped n = min n (longest + 1)

-- one more digit
abbrev pub longer : ℕ → ℕ → ℕ
longer n d = capped (n * 10 + d)

abbrev pub after_blank : Reading → Reading
after_blank Before = Before
after_blank (First a) = Between a
after_blank (Between a) = Between a
after_blank (Second a b) = After a b
after_blank (After a b) = After a b
after_blank Broken = Broken

abbrev pub after_digit : Reading → ℕ → Reading
after_digit Before d = First d
after_digit (First a) d = First (longer a d)
after_digit (Between a) d = Second a d
after_digit (Second a b) d = Second a (longer b d)
after_digit (After a b) d = Broken
after_digit Broken d = Broken

abbrev pub after_byte : Reading → ℕ → Reading
after_byte r c = if is_blank c then after_blank r else (if is_ascii_digit c then after_digit r (c - 48) else Broken)

-- the two numbers that a reading ends with
abbrev pub pair_of : Reading → Option (ℕ × ℕ)
pair_of Before = None
pair_of (First a) = None
pair_of (Between a) = None
pair_of (Second a b) = Some (a, b)
pair_of (After a b) = Some (a, b)
pair_of Broken = None

abbrev pub read : List ℕ → Option (ℕ × ℕ)
read bs = pair_of (fold after_byte Before bs)
