-- Where the tallies stand, and how they change.
use Rattle.std.specs.Prelude.{◌≡◌, ◌≢◌, ℕ, ◌+◌, ◌-◌, ◌^◌, min, Bool, if◌then◌else◌, List, Option, Some, unwrap_or, slice_get}
use Rattle.vectors.specs.declared.Tally.{Tally}
use Rattle.vectors.specs.declared.function.Function.{Function}
use Rattle.vectors.specs.declared.function.Kind.{Kind}
use Rattle.vectors.specs.declared.function.Kind.TheVariants.{Asin, Acos, Atan, Atan2, Sqrt}
use Rattle.vectors.specs.declared.function.Precision.{Precision}
use Rattle.vectors.specs.declared.function.Precision.TheVariants.{Wide, Narrow}
use Rattle.vectors.specs.declared.question.Question.{Question}
use Rattle.vectors.specs.Answers.{function_of}

-- the place of a kind's wide function in the report
abbrev pub wide_place : Kind → ℕ
wide_place Asin = 0
wide_place Acos = 2
wide_place Atan = 4
wide_place Atan2 = 6
wide_place Sqrt = 8

-- the narrow function comes next
abbrev pub after_wide : Precision → ℕ
after_wide Wide = 0
after_wide Narrow = 1

-- the place of a function in the report
abbrev pub place_of : Function → ℕ
place_of f = wide_place f.kind + after_wide f.precision

-- the position of a question's function in the report
abbrev pub position_of : Question → ℕ
position_of q = place_of (function_of q)

-- the tally of a function among those of the report
abbrev pub tally_of : List Tally → Function → Option Tally
tally_of tallies f = slice_get tallies (place_of f)

-- one more, short of the largest `u32`
abbrev pub one_more : ℕ → ℕ
one_more n = min (n + 1) (2 ^ 32 - 1)

abbrev pub nothing : Tally
nothing = record { compared = 0; differ = 0 }

-- the tally after one more answer, which is the same as libm's or not
abbrev pub noted : Tally → Bool → Tally
noted t same = record { compared = one_more t.compared; differ = if same then t.differ else one_more t.differ }

-- new has one more answer of the function f than old has, and every other function's tally stays
pub record NotesOnly (old new : Function → Option Tally) (f : Function) (same : Bool) : Type 0 where
  pub own : new f ≡ Some (noted (unwrap_or (old f) nothing) same)
  pub others : (g : Function) → g ≢ f → new g ≡ old g
