-- What a line of bytes writes: two whole numbers with blanks between them. More blanks may stand before and after them.
use Rattle.std.specs.Prelude.{◌≡◌, ℕ, ◌-◌, ◌<◌, Bool, ◌||◌, List, ◌++◌, map, length, Some, ◌==◌}
use Rattle.std.specs.Int.Digits.{number_from_digits}
use Rattle.std.specs.List.{AllPass}
use Rattle.std.specs.Char.{is_ascii_digit}
use Rattle.field.specs.declared.refusal.Refusal.{Refusal}
use Rattle.field.specs.declared.refusal.Refusal.TheVariants.{NotPair, NoSide, TooLong}
use Rattle.field.specs.Field.{fault_of}

-- a space, a tab or a carriage return
abbrev pub is_blank : ℕ → Bool
is_blank c = c == 32 || c == 9 || c == 13

abbrev pub Blanks : List ℕ → Type 0
Blanks cs = AllPass is_blank cs

abbrev pub Digits : List ℕ → Type 0
Digits cs = AllPass is_ascii_digit cs

-- the number that digits write, in base ten
abbrev pub value_of : List ℕ → ℕ
value_of cs = number_from_digits 10 (map (λ c. c - 48) cs)

-- the bytes cs write the number n: one digit or more
pub record Numeral (cs : List ℕ) (n : ℕ) : Type 0 where
  pub digits : Digits cs
  pub some : 0 < length cs
  pub value : n ≡ value_of cs

-- the line bs writes the numbers a and b: blanks or none, a, one blank or more, b, and blanks or none
pub record Writes (bs : List ℕ) (a b : ℕ) : Type 0 where
  pub lead : List ℕ
  pub first : List ℕ
  pub gap : List ℕ
  pub second : List ℕ
  pub tail : List ℕ
  pub cut : bs ≡ lead ++ (first ++ (gap ++ (second ++ tail)))
  pub lead_blanks : Blanks lead
  pub first_number : Numeral first a
  pub gap_blanks : Blanks gap
  pub gap_some : 0 < length gap
  pub second_number : Numeral second b
  pub tail_blanks : Blanks tail

-- the line bs writes two numbers that are no sides, for the reason e
abbrev pub Faulty : List ℕ → Refusal → Type 0
Faulty bs e = (a : ℕ) × (b : ℕ) × Writes bs a b × (fault_of a b ≡ Some e)

-- why the line bs is refused
abbrev pub Refused : List ℕ → Refusal → Type 0
Refused bs NotPair = (a b : ℕ) → Writes bs a b → ⊥
Refused bs NoSide = Faulty bs NoSide
Refused bs TooLong = Faulty bs TooLong
