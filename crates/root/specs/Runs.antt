-- A unit's run: readings asked in order, the roots answered, and the count.
use Rattle.std.specs.Prelude.{◌≡◌, ℕ, List, [], ◌∷◌, Float}
use Rattle.std.specs.Float.{binary32, binary64}
use Rattle.rootlaws.specs.Roots.{NearestRoot}
use Rattle.root.specs.Count.{raised}
use Rattle.root.specs.declared.agree.Reading.{Reading}
use Rattle.root.specs.declared.agree.Reading.TheVariants.{Wide, Narrow}

abbrev pub RootOf : Reading → Float → Type 0
RootOf (Wide v) r = NearestRoot binary64 v r
RootOf (Narrow v) r = NearestRoot binary32 v r

-- a unit with the count n, asked these readings, answers these roots and ends with the count m
abbrev pub Run : ℕ → List Reading → List Float → ℕ → Type 0
Run n [] [] m = m ≡ n
Run n [] (r ∷ rs) m = ⊥
Run n (v ∷ vs) [] m = ⊥
Run n (v ∷ vs) (r ∷ rs) m = RootOf v r × Run (raised n) vs rs m

-- any two units: the same readings from the same count give the same roots and the same count
abbrev pub OneRun : Type 0
OneRun = (n : ℕ) (vs : List Reading) (rs rs' : List Float) (m m' : ℕ) → Run n vs rs m → Run n vs rs' m' → (rs ≡ rs') × (m ≡ m')
