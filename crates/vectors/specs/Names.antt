-- The functions' names.
use Rattle.std.specs.Prelude.{◌≡◌, ◌≢◌, ℕ, List, [], ◌++◌, codes, Result, MatchResult}
use Rattle.vectors.specs.declared.function.Kind.{Kind}
use Rattle.vectors.specs.declared.function.Kind.TheVariants.{Asin, Acos, Atan, Atan2, Sqrt}
use Rattle.vectors.specs.declared.function.Precision.{Precision}
use Rattle.vectors.specs.declared.function.Precision.TheVariants.{Wide, Narrow}
use Rattle.vectors.specs.declared.function.Function.{Function}
use Rattle.vectors.specs.declared.function.UnknownFunction.{UnknownFunction}

-- the name at wide precision
abbrev pub stem_of : Kind → List ℕ
stem_of Asin = codes "asin"
stem_of Acos = codes "acos"
stem_of Atan = codes "atan"
stem_of Atan2 = codes "atan2"
stem_of Sqrt = codes "sqrt"

-- what a precision adds to the name
abbrev pub suffix_of : Precision → List ℕ
suffix_of Wide = []
suffix_of Narrow = codes "f"

abbrev pub name_of : Function → List ℕ
name_of f = stem_of f.kind ++ suffix_of f.precision

-- the kind has this name at wide precision, or there is none that has
abbrev pub NamesKind : List ℕ → Result Kind UnknownFunction → Type 0
NamesKind stem r = MatchResult r (λ k. stem_of k ≡ stem) (λ _. (k : Kind) → stem_of k ≢ stem)

-- the function has this name, or there is none that has
abbrev pub NamesFunction : List ℕ → Result Function UnknownFunction → Type 0
NamesFunction name r = MatchResult r (λ f. name_of f ≡ name) (λ _. (f : Function) → name_of f ≢ name)
