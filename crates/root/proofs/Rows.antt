-- The known roots: one computed test over all rows.
use Rattle.std.proofs.Common.{◌≡◌, ℕ, suc, ◌+◌, ◌-◌, ◌*◌, ◌%◌, ◌^◌, ◌<◌, Bool, true, false, cond, ◌&&◌, T, eqb, ltb, List, [], ◌∷◌, refl, ap, ◌∙◌, arith, eqb→eq, ltb→lt}
use lib.Count.{count_trailing_zeros}
use lib.Ieee.{Float, of_bits, of_fields, to_bits, odd, size, span, climb}
use lib.Ieee.Fits.{and_l, and_r}
use Rattle.std.specs.List.{AllByRecursion}
use Rattle.width.specs.Shape.{Shape, shape_of, width, sign, infinity, quiet, reading}
use Rattle.rootlaws.specs.Roots.{RootBits, target, NearestRoot}
use Rattle.rootlaws.proofs.Floats.{bits_root, one_root}
use Rattle.root.specs.Known.{Row, rows, Known}
use Rattle.root.proofs.Classes.{number_root, none_root}

-- twice a number's midpoints to its neighbours, squared
abbrev below : ℕ → ℕ → ℕ
below Q n = (reading Q (n - 1) + reading Q n) * (reading Q (n - 1) + reading Q n)

abbrev above : ℕ → ℕ → ℕ
above Q n = (reading Q n + reading Q (suc n)) * (reading Q n + reading Q (suc n))

-- r is the root of the pattern b, which is a positive number or lies below zero
abbrev number_passes : Shape → ℕ → ℕ → Bool
number_passes S b r = ltb 0 b && ltb b (infinity S) && ltb (suc r) (infinity S) && ltb (below (2 ^ S.sig) r) (4 * target S b) && ltb (4 * target S b) (above (2 ^ S.sig) r)

abbrev none_passes : Shape → ℕ → ℕ → Bool
none_passes S b r = ltb 0 (b % sign S) && ltb (infinity S) b && eqb r (quiet S)

abbrev pattern_passes : Shape → ℕ → ℕ → Bool
pattern_passes S b r = cond (ltb b (infinity S)) (number_passes S b r) (none_passes S b r)

number_ok : (S : Shape) (b r : ℕ) → T (number_passes S b r) → RootBits S b r
number_ok S b r t =
    let t3 = and_l _ _ t in
    let t2 = and_l _ _ t3 in
    let t1 = and_l _ _ t2 in
    number_root S b (ltb→lt 0 b (and_l _ _ t1)) (ltb→lt b (infinity S) (and_r (ltb 0 b) _ t1)) r (ltb→lt (suc r) (infinity S) (and_r (ltb 0 b && ltb b (infinity S)) _ t2))
    (record {
      below = ltb→lt (below (2 ^ S.sig) r) (4 * target S b) (and_r (ltb 0 b && ltb b (infinity S) && ltb (suc r) (infinity S)) _ t3);
      above = ltb→lt (4 * target S b) (above (2 ^ S.sig) r) (and_r (ltb 0 b && ltb b (infinity S) && ltb (suc r) (infinity S) && ltb (below (2 ^ S.sig) r) (4 * target S b)) _ t);
    })

none_ok : (S : Shape) (b r : ℕ) → T (none_passes S b r) → RootBits S b r
none_ok S b r t =
    let t1 = and_l _ _ t in
    none_root S b (some (b % sign S) (ltb→lt 0 _ (and_l _ _ t1))) (ltb→lt (infinity S) b (and_r (ltb 0 (b % sign S)) _ t1)) r (eqb→eq r (quiet S) (and_r (ltb 0 (b % sign S) && ltb (infinity S) b) _ t))
  where
    some : (x : ℕ) → 0 < x → x ≡ 0 → ⊥
    some x p e = omega arith

pattern_ok : (S : Shape) (b r : ℕ) → T (pattern_passes S b r) → RootBits S b r
pattern_ok S b r t = go (ltb b (infinity S)) t
  where
    go : (c : Bool) → T (cond c (number_passes S b r) (none_passes S b r)) → RootBits S b r
    go true t = number_ok S b r t
    go false t = none_ok S b r t

abbrev row_ok : Row → Bool
row_ok w = ltb w.of (2 ^ width (shape_of w.format)) && pattern_passes (shape_of w.format) w.of w.root

row_known : (w : Row) → T (row_ok w) → Known w
row_known w t =
    let n = bits_root w.format w.of w.root (ltb→lt _ _ (and_l _ _ t)) (pattern_ok (shape_of w.format) w.of w.root (and_r (ltb w.of (2 ^ width (shape_of w.format))) _ t)) in
    record { nearest = n; only = λ r h. one_root w.format (of_bits w.format w.of) r (of_bits w.format w.root) h n }

abbrev all_pass : List Row → Bool
all_pass [] = true
all_pass (w ∷ ws) = row_ok w && all_pass ws

all_known : (ws : List Row) → T (all_pass ws) → AllByRecursion Known ws
all_known [] t = tt
all_known (w ∷ ws) t = (row_known w (and_l (row_ok w) (all_pass ws) t), all_known ws (and_r (row_ok w) (all_pass ws) t))

pub known_rows : AllByRecursion Known rows
known_rows = all_known rows tt

-- a root that comes has the row's pattern
abbrev Told : Row → Type 0
Told w = (s : Float) → NearestRoot w.format (of_bits w.format w.of) s → to_bits w.format s ≡ w.root

pattern_back : AllByRecursion (λ w. to_bits w.format (of_bits w.format w.root) ≡ w.root) rows
unfolding to_bits of_bits of_fields odd size span climb count_trailing_zeros
pattern_back = (refl, (refl, (refl, (refl, (refl, (refl, tt))))))

all_told : (ws : List Row) → AllByRecursion Known ws → AllByRecursion (λ w. to_bits w.format (of_bits w.format w.root) ≡ w.root) ws → AllByRecursion Told ws
all_told [] k b = tt
all_told (w ∷ ws) k b = (λ s h. ap (to_bits w.format) (k.0.only s h) ∙ b.0, all_told ws k.1 b.1)

pub told_rows : AllByRecursion Told rows
told_rows = all_told rows known_rows pattern_back
