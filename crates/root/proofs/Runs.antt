-- The same readings from the same count give one run.
use Rattle.std.proofs.Common.{◌≡◌, [], ◌∷◌, sym, refl, ◌∙◌, ap₂}
use lib.Ieee.{Float, binary32, binary64}
use Rattle.rootlaws.proofs.Floats.{one_root}
use Rattle.root.specs.Count.{raised}
use Rattle.root.specs.Runs.{RootOf, OneRun}
use Rattle.root.specs.declared.agree.Reading.{Reading}
use Rattle.root.specs.declared.agree.Reading.TheVariants.{Wide, Narrow}

one_answer : (v : Reading) (r r' : Float) → RootOf v r → RootOf v r' → r ≡ r'
one_answer (Wide v) r r' a b = one_root binary64 v r r' a b
one_answer (Narrow v) r r' a b = one_root binary32 v r r' a b

pub one_run : OneRun
one_run n [] [] [] m m' a b = (refl, a ∙ sym b)
one_run n [] [] (r' ∷ rs') m m' a b = elim b [ ]
one_run n [] (r ∷ rs) _ m m' a b = elim a [ ]
one_run n (v ∷ vs) [] _ m m' a b = elim a [ ]
one_run n (v ∷ vs) (r ∷ rs) [] m m' a b = elim b [ ]
one_run n (v ∷ vs) (r ∷ rs) (r' ∷ rs') m m' a b =
    let rest = one_run (raised n) vs rs rs' m m' a.1 b.1 in
    (ap₂ (λ x xs. x ∷ xs) (one_answer v r r' a.0 b.0) rest.0, rest.1)
