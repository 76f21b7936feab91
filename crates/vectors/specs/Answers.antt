-- What a question asks, and its answer, by patterns.
use Rattle.std.specs.Prelude.{◌≡◌, ℕ, from_bits, to_bits}
use Rattle.std.specs.Float.{Format, binary32, binary64}
use Rattle.width.specs.Shape.{shape_of}
use Rattle.rootlaws.specs.Roots.{RootBits}
use Rattle.anglelaws.specs.Arcs as Arcs
use Rattle.anglelaws.specs.Atan as Atan
use Rattle.anglelaws.specs.Atan2 as Atan2
use Rattle.vectors.specs.declared.function.Function.{Function}
use Rattle.vectors.specs.declared.function.Kind.{Kind}
use Rattle.vectors.specs.declared.function.Kind.TheVariants as kinds
use Rattle.vectors.specs.declared.function.Precision.TheVariants as precisions
use Rattle.vectors.specs.declared.question.Call.{Call}
use Rattle.vectors.specs.declared.question.Call.TheVariants.{Asin, Acos, Atan, Atan2, Sqrt}
use Rattle.vectors.specs.declared.question.Question.{Question}
use Rattle.vectors.specs.declared.question.Question.TheVariants.{Wide, Narrow}

-- r is the answer of a call, patterns being the numbers that `nat` gives
abbrev pub AnswersCall : {I : Type 0} → (I → ℕ) → Format → Call I → I → Type 0
AnswersCall nat fmt (Asin x) r = nat r ≡ to_bits fmt (Arcs.asin fmt (from_bits fmt (nat x)))
AnswersCall nat fmt (Acos x) r = nat r ≡ to_bits fmt (Arcs.acos fmt (from_bits fmt (nat x)))
AnswersCall nat fmt (Atan x) r = nat r ≡ to_bits fmt (Atan.atan fmt (from_bits fmt (nat x)))
AnswersCall nat fmt (Atan2 y x) r = nat r ≡ to_bits fmt (Atan2.atan2 fmt (from_bits fmt (nat y)) (from_bits fmt (nat x)))
AnswersCall nat fmt (Sqrt x) r = RootBits (shape_of fmt) (nat x) (nat r)

-- r is the answer to a question
abbrev pub AnswerTo : Question → ℕ → Type 0
AnswerTo (Wide call) r = AnswersCall (λ n. n) binary64 call r
AnswerTo (Narrow call) r = AnswersCall (λ n. n) binary32 call r

module _ {I : Type 0} where
  -- what a call computes
  abbrev pub kind_of : Call I → Kind
  kind_of (Asin _) = kinds.Asin
  kind_of (Acos _) = kinds.Acos
  kind_of (Atan _) = kinds.Atan
  kind_of (Atan2 _ _) = kinds.Atan2
  kind_of (Sqrt _) = kinds.Sqrt

-- the function that a question calls
abbrev pub function_of : Question → Function
function_of (Wide call) = record { kind = kind_of call; precision = precisions.Wide }
function_of (Narrow call) = record { kind = kind_of call; precision = precisions.Narrow }
